use Rattle.std.proofs.Common.{◌≡◌, true, length}
use Rattle.std.specs.Option.{option_or}
use Rattle.hd_base.specs.Numbers.{fits}
use Rattle.hd_lifted.specs.declared.schema.Ground.{Ground}
use Rattle.hd_judge.specs.Tables.{value_in}
use Rattle.hd_judge.specs.Effects.{new_value_in}
use Rattle.hd_judge.proofs.effect.put_values.Given as goal

-- those that are left are in the range, and with them there are all
abbrev pub invariant-loop-fluent : goal.invariant-loop-fluent
invariant-loop-fluent l = record {
  fit : (g : Ground) → fits (new_value_in l.changes g) ≡ true;
  put : (g : Ground) → option_or (new_value_in l.changes g) (value_in l.numbers g) ≡ option_or (new_value_in l.fn.changes g) (value_in l.fn.numbers g);
}

abbrev pub decreases-loop-fluent : goal.decreases-loop-fluent
decreases-loop-fluent l = length l.changes.values.entries
