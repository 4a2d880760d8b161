use Rattle.std.proofs.Common.{◌≡◌, subst, string_bytes}
use Rattle.hd_ground.specs.Telling.{ground_fluent_text}
use Rattle.hd_ground.proofs.Limits.{names_undefined}
use Rattle.hd_ground.proofs.counting.look_for_faults.Goals as goal

pub returns-in-Some-clause-refusal : goal.returns-in-Some-clause-refusal
returns-in-Some-clause-refusal c =
    let counted = c.args.counted.now in
    let text = string_bytes c.in_ok-text.text in
    names_undefined c.args.lookups.now counted.instances counted.atoms counted.fluents counted.undefined c.in-Some.fluent text
    c.requires.counted c.requires.undefined c.in-Some.is (subst (λ t. text ≡ ground_fluent_text t c.in-Some.fluent) c.task.ensures c.in_ok-text.ensures)
