use Rattle.std.proofs.Common.{◌≡◌, ◌||◌, ℕ, take}
use Rattle.std.specs.List.{list_any}
use Rattle.hd_lifted.specs.Amounts.{changes_function}
use Rattle.hd_judge.specs.Tables.{has_function}
use Rattle.hd_judge.proofs.changed.Changed.note_all.Given as goal

abbrev pub invariant-loop-effect : goal.invariant-loop-effect
invariant-loop-effect l = (f : ℕ) → has_function l.self f ≡ (has_function l.fn.self f || list_any (changes_function f) (take l.effect-index l.schema.effects))
