use Rattle.std.proofs.Common.{◌≡◌, ℕ, ◌<◌, ◌≤◌, None, get_or}
use Rattle.std.specs.Prelude.{is_some}
use Rattle.std.proofs.lemmas.List.Filters.{FiltersInPlace}
use Rattle.hd_open.proofs.compacting.gather.Given as goal

abbrev pub invariant-loop-from : goal.invariant-loop-from
invariant-loop-from g l =
    FiltersInPlace is_some l.initial.slots.items l.slots.items l.to l.from
    × ((i : ℕ) → l.to ≤ i → i < l.from → get_or l.slots.items i None ≡ None)
