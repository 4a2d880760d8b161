use Rattle.std.proofs.Common.{◌≡◌, ◌≤◌, take, length}
use Rattle.std.specs.Option.{option_or}
use Rattle.hd_lifted.specs.declared.schema.Ground.{Ground}
use Rattle.hd_lifted.specs.States.{first_value}
use Rattle.hd_judge.specs.Tables.{value_in}
use Rattle.hd_judge.proofs.table.Numbers.listed.Given as goal

-- a value stands in what is left, or else in the table
abbrev pub invariant-loop-left : goal.invariant-loop-left
invariant-loop-left l = record {
  within : l.left ≤ length l.listed;
  stands : (g : Ground) → option_or (first_value (take l.left l.listed) g) (value_in l.table g) ≡ first_value l.listed g;
}

abbrev pub decreases-loop-left : goal.decreases-loop-left
decreases-loop-left l = l.left
