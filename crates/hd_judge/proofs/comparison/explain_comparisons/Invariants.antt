use Rattle.std.proofs.Common.{◌≡◌, length}
use Rattle.std.specs.Prelude.{option_map}
use Rattle.std.specs.Option.{option_or}
use Rattle.hd_judge.specs.Tables.{reached_in}
use Rattle.hd_judge.specs.Reasons.{departing_comparison, failing_comparison}
use Rattle.hd_judge.proofs.comparison.explain_comparisons.Given as goal

-- those so far stay in the range, and `failing` is the first of them that does not hold
abbrev pub invariant-loop-rest : goal.invariant-loop-rest
invariant-loop-rest l =
    let v = (reached_in l.place).state.values in record {
      departing : departing_comparison v l.objects l.said ≡ departing_comparison v l.objects l.rest;
      failing : failing_comparison v l.objects l.said ≡ option_or (option_map (λ r. r.now) l.failing) (failing_comparison v l.objects l.rest);
    }

abbrev pub decreases-loop-rest : goal.decreases-loop-rest
decreases-loop-rest l = length l.rest
