use Rattle.std.proofs.Common.{sym, ap, ◌∙◌}
use Rattle.std.specs.List.{list_all}
use Rattle.std.proofs.lemmas.Bool.{and_from}
use Rattle.std.specs.Prelude.{option_map}
use Rattle.hd_judge.specs.Tables.{reached_in}
use Rattle.hd_lifted.specs.Conditions.{literal_holds, equality_holds}
use Rattle.hd_judge.specs.Reasons.{failing_literal, failing_equality}
use Rattle.hd_judge.proofs.Failing.{all_where_none}
use Rattle.hd_judge.proofs.condition.explain_literals.Goals as goal

pub returns-in-Some-failing_equality-clause-reason : goal.returns-in-Some-failing_equality-clause-reason
returns-in-Some-failing_equality-clause-reason c =
    let atoms = (reached_in c.args.place.now).state.atoms in
    let objects = c.args.objects.now in
    let none = c.in_default.is in (
      all_where_none (literal_holds atoms objects) c.args.condition.now.literals
          (ap (failing_literal atoms objects) (sym c.as_slice-literals.ensures) ∙ (sym c.in_ok-literal.ensures ∙ ap (option_map (λ r. r.now)) none)),
      ap (failing_equality objects) (sym c.as_slice.ensures) ∙ (sym c.failing_equality.ensures ∙ c.in-Some-failing_equality.is),
    )

pub returns-in-None-clause-none : goal.returns-in-None-clause-none
returns-in-None-clause-none c =
    let atoms = (reached_in c.args.place.now).state.atoms in
    let objects = c.args.objects.now in
    let condition = c.args.condition.now in
    and_from (list_all (literal_holds atoms objects) condition.literals) (list_all (equality_holds objects) condition.equalities)
    (all_where_none (literal_holds atoms objects) condition.literals
    (ap (failing_literal atoms objects) (sym c.as_slice-literals.ensures) ∙ (sym c.in_ok-literal.ensures ∙ ap (option_map (λ r. r.now)) c.in_default.is)))
    (all_where_none (equality_holds objects) condition.equalities
    (ap (failing_equality objects) (sym c.as_slice.ensures) ∙ (sym c.failing_equality.ensures ∙ c.in-None.is)))
