use Rattle.std.proofs.Common.{◌≡◌, length, not}
use Rattle.std.specs.Prelude.{find}
use Rattle.std.specs.List.{list_all}
use Rattle.hd_judge.specs.Effects.{change_fits}
use Rattle.hd_judge.proofs.effect.leaving_effect.Given as goal

abbrev pub invariant-loop-rest : goal.invariant-loop-rest
invariant-loop-rest l = record {
  leaving : find (λ e. not (change_fits l.changes l.objects e)) l.effects ≡ find (λ e. not (change_fits l.changes l.objects e)) l.rest;
  fit : list_all (change_fits l.changes l.objects) l.effects ≡ list_all (change_fits l.changes l.objects) l.rest;
}

abbrev pub decreases-loop-rest : goal.decreases-loop-rest
decreases-loop-rest l = length l.rest
