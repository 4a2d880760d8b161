-- Where every plan begins.
use Rattle.std.proofs.Common.{◌≡◌, Some, pos, sym, subst}
use Rattle.hd_lifted.specs.declared.schema.Ground.{Ground}
use Rattle.hd_lifted.specs.declared.task.LiftedTask.{LiftedTask}
use Rattle.hd_lifted.specs.States.{is_listed, first_value, initial_state}
use Rattle.hd_lifted.specs.Steps.{Reached, start}
use Rattle.hd_judge.specs.declared.table.Truths.{Truths}
use Rattle.hd_judge.specs.declared.table.Numbers.{Numbers}
use Rattle.hd_judge.specs.Tables.{truth_in, value_in, reached_in}
use Rattle.hd_judge.specs.Way.{IsOnWay}
use Rattle.hd_judge.proofs.Along.{on_way-start}

-- tables that say of each ground form what the task lists are at the start
pub is_start : (t : LiftedTask) (truths : Truths) (numbers : Numbers)
    → ((g : Ground) → truth_in truths g ≡ is_listed t.atoms g) → ((g : Ground) → value_in numbers g ≡ first_value t.values g)
    → reached_in (record { truths = truths; numbers = numbers; cost = 0 }) ≡ start t
unfolding start initial_state
is_start t truths numbers atoms values =
    λ i. record { state = record { atoms = λ g. atoms g i; values = λ g. values g i }; cost = Some (pos 0) }

pub on_way_at : (t : LiftedTask) (r : Reached) → r ≡ start t → IsOnWay t r
on_way_at t r e = subst (IsOnWay t) (sym e) (on_way-start t)
