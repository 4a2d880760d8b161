use Rattle.std.proofs.Common.{◌≡◌, ◌+◌, length, ℕ}
use Rattle.std.specs.Prelude.{option_map}
use Rattle.hplan.specs.Places.{place_in, files_shown}
use Rattle.hplan.proofs.places.place_of.Given as goal

abbrev pub invariant-loop-rest : goal.invariant-loop-rest
invariant-loop-rest l = record {
  seen : l.place + length l.rest ≡ length l.files;
  stands : place_in (files_shown l.files) l.name ≡ option_map (λ (k : ℕ). l.place + k) (place_in (files_shown l.rest) l.name);
}

abbrev pub decreases-loop-rest : goal.decreases-loop-rest
decreases-loop-rest l = length l.rest
