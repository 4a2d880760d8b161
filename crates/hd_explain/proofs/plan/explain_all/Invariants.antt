use Rattle.std.proofs.Common.{◌≡◌, ◌+◌, length}
use Rattle.hd_lifted.specs.Steps.{Reached}
use Rattle.hd_judge.specs.Tables.{reached_in}
use Rattle.hd_judge.specs.Way.{IsOnWay}
use Rattle.hd_explain.specs.declared.plan.Halt.{Halt}
use Rattle.hd_explain.specs.Plans.{HaltsFrom}
use Rattle.hd_explain.proofs.plan.explain_all.Given as goal

-- where the way ends from here on, it ends for the steps
abbrev pub invariant-loop-rest : goal.invariant-loop-rest
invariant-loop-rest l = record {
  numbered : l.number + length l.rest ≡ 1 + length l.steps;
  way : IsOnWay l.lookups (reached_in l.place);
  halts : (here : Reached) (h : Halt) → HaltsFrom l.lookups (reached_in l.place) l.number l.rest here h
      → HaltsFrom l.lookups (reached_in l.fn.place) 1 l.steps here h;
}

abbrev pub decreases-loop-rest : goal.decreases-loop-rest
decreases-loop-rest l = length l.rest
