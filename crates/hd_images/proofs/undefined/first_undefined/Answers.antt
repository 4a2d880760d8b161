use Rattle.std.proofs.Common.{◌∙◌, Bool, List, Some, None, cond, length, get_or, sym, ap, arith}
use Rattle.hd_lifted.specs.declared.schema.Ground.{Ground}
use Rattle.hd_lifted.specs.Questions.{is_undefined}
use Rattle.hd_images.proofs.Finding.{find-next, find-found}
use Rattle.hd_images.proofs.undefined.first_undefined.Goals as goal

pub returns-then-is_undefined : goal.returns-then-is_undefined
returns-then-is_undefined c =
    let i = c.loop-fluent.fluent-index in
    let g = c.fluent-item.result in
    ap Some c.in_ok-copy_of.ensures
    ∙ sym (find-found (is_undefined c.args.lookups.now) c.args.fluents.now i g (omega (arith, ap length c.as_slice-fluent-items.ensures))
    (c.fluent-item.is ∙ ap (λ (gs : List Ground). get_or gs i g) c.as_slice-fluent-items.ensures)
    c.loop-fluent.invariant (sym c.is_undefined.ensures ∙ c.if-is_undefined.true))

pub loop-fluent-preserved : goal.loop-fluent-preserved
loop-fluent-preserved c =
    let i = c.loop-fluent.fluent-index in
    let g = c.fluent-item.result in
    find-next (is_undefined c.args.lookups.now) c.args.fluents.now i g (omega (arith, ap length c.as_slice-fluent-items.ensures))
    (c.fluent-item.is ∙ ap (λ (gs : List Ground). get_or gs i g) c.as_slice-fluent-items.ensures) c.loop-fluent.invariant
    ∙ ap (λ (b : Bool). cond b (Some g) None) (sym c.is_undefined.ensures ∙ c.if-is_undefined.false)
