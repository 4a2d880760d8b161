use Rattle.std.proofs.Common.{◌∙◌, Bool, Some, None, cond, sym, ap, arith}
use Rattle.hd_grounding.specs.Faults.{is_negative_instance}
use Rattle.hd_images.proofs.Finding.{find-next, find-found}
use Rattle.hd_images.proofs.negative.first_negative.Goals as goal

pub returns-then-branch : goal.returns-then-branch
returns-then-branch c =
    sym (find-found (is_negative_instance c.args.lookups.now) c.args.instances.now c.loop-instance.instance-index c.instance-item.result (omega arith)
    c.instance-item.is c.loop-instance.invariant (sym c.in_ok-is_negative_instance.ensures ∙ c.if-branch.true))

pub loop-instance-preserved : goal.loop-instance-preserved
loop-instance-preserved c =
    find-next (is_negative_instance c.args.lookups.now) c.args.instances.now c.loop-instance.instance-index c.instance-item.result (omega arith)
    c.instance-item.is c.loop-instance.invariant
    ∙ ap (λ (b : Bool). cond b (Some c.instance-item.result) None) (sym c.in_ok-is_negative_instance.ensures ∙ c.if-branch.false)
