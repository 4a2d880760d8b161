use Rattle.std.proofs.Common.{◌≡◌, ◌++◌, codes, string_bytes, subst, SFits, rules}
use Rattle.std.specs.Prelude.{ℤ, OnOk}
use Rattle.std.specs.Int.{w128}
use Rattle.std.proofs.lemmas.Int.{to_z-of_z}
use Rattle.hd_lifted.specs.States.{ground_form_of}
use Rattle.hd_plan.specs.Texts.{fluent_text}
use Rattle.hd_explain.specs.Texts.{out_text}
use Rattle.hd_explain.proofs.text.push_new_value.Goals as goal

pub returns : goal.returns
returns c =
    let fits : SFits w128 c.args.new.now.value = search rules in
    subst (λ (z : ℤ). OnOk c.push_changed.result (string_bytes c.push_changed.new.text ≡ string_bytes c.args.text.now
    ++ (codes "the new value of " ++ fluent_text c.args.task.now (ground_form_of c.args.objects.now c.args.new.now.effect.now.fluent) ++ out_text z)))
    (to_z-of_z w128 c.args.new.now.value fits) c.push_changed.ensures
