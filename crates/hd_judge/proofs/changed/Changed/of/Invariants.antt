use Rattle.std.proofs.Common.{◌≡◌, ℕ, take}
use Rattle.std.specs.List.{list_any}
use Rattle.hd_lifted.specs.Amounts.{is_changed_by}
use Rattle.hd_judge.specs.Tables.{has_function}
use Rattle.hd_judge.proofs.changed.Changed.of.Given as goal

abbrev pub invariant-loop-schema : goal.invariant-loop-schema
invariant-loop-schema l = (f : ℕ) → has_function l.changed f ≡ list_any (is_changed_by f) (take l.schema-index l.schemas)
