-- What steps by their names are printed as.
use Rattle.std.proofs.Common.{◌≡◌, ◌++◌, ap}
use Rattle.std.specs.Prelude.{codes}
use Rattle.std.proofs.lemmas.List.Folds.{flat_map-map}
use Rattle.hd_plan.specs.PlanText.{arg_text, step_text}
use Rattle.hd_task.specs.declared.form.GroundForm.{GroundForm}
use Rattle.hd_task.specs.declared.form.Names.{Names}
use Rattle.hd_task.specs.FormText.{name_at, form_text}
use Rattle.hd_texts.specs.Printing.{step_of_form}

-- the step of a ground form is printed as the form
pub step_of-text : (names : Names) (g : GroundForm) → step_text (step_of_form names g) ≡ form_text names.schemas names.objects g
step_of-text names g =
    ap (λ xs. codes "(" ++ name_at names.schemas g.symbol ++ xs ++ codes ")") (flat_map-map arg_text (name_at names.objects) g.objects)
