use Rattle.std.proofs.Common.{not, ap, ◌∙◌}
use Rattle.std.specs.Prelude.{option_map}
use Rattle.std.specs.Option.{option_or}
use Rattle.hd_lifted.specs.declared.schema.Comparison.{Comparison}
use Rattle.hd_lifted.specs.Conditions.{comparison_stays, comparison_holds}
use Rattle.hd_judge.specs.Tables.{reached_in}
use Rattle.hd_judge.specs.Reasons.{failing_comparison}
use Rattle.hd_judge.proofs.Failing.{all_where_none, find_empty}
use Rattle.hd_judge.proofs.comparison.explain_comparisons.Goals as goal

pub returns-in-Some : goal.returns-in-Some
returns-in-Some c =
    let v = (reached_in c.args.place.now).state.values in
    let objects = c.args.objects.now in
    let rest = c.loop-rest.rest.now in (
      all_where_none (comparison_stays v objects) c.args.said.now
          (c.loop-rest.invariant.departing ∙ find_empty (λ (x : Comparison). not (comparison_stays v objects x)) rest c.in_default.len_below),
      c.loop-rest.invariant.failing ∙ ap (λ o. option_or (option_map (λ r. r.now) o) (failing_comparison v objects rest)) c.in-Some.is,
    )

pub returns-in-None : goal.returns-in-None
returns-in-None c =
    let v = (reached_in c.args.place.now).state.values in
    let objects = c.args.objects.now in
    let rest = c.loop-rest.rest.now in (
      all_where_none (comparison_stays v objects) c.args.said.now
          (c.loop-rest.invariant.departing ∙ find_empty (λ (x : Comparison). not (comparison_stays v objects x)) rest c.in_default.len_below),
      all_where_none (comparison_holds v objects) c.args.said.now
          (c.loop-rest.invariant.failing
          ∙ (ap (λ o. option_or (option_map (λ r. r.now) o) (failing_comparison v objects rest)) c.in-None.is
          ∙ find_empty (λ (x : Comparison). not (comparison_holds v objects x)) rest c.in_default.len_below)),
    )
