use Rattle.std.proofs.Common.{List, ℕ, ◌∙◌, sym, ap, ap₂}
use Rattle.std.specs.List.{position}
use Rattle.std.specs.Str.{bytes_eq}
use Rattle.hd_plan.specs.Tables.{numbers_of}
use Rattle.hd_plan.proofs.Stepping.{names_found}
use Rattle.hd_plan.proofs.steps.instance_of.Goals as goal

pub returns-in-Some-2 : goal.returns-in-Some-2
returns-in-Some-2 c =
    names_found c.args.names.now c.args.step.now c.in-Some.schema c.in-Some-2.objects
    (sym (c.number_of.ensures ∙ ap (λ (names : List (List ℕ)). position (bytes_eq c.args.step.now.name) names) c.schemas.ensures) ∙ c.in-Some.is)
    (sym (c.in_ok-objects.ensures ∙ ap₂ numbers_of c.objects.ensures c.as_slice.ensures) ∙ c.in-Some-2.is)
