use Rattle.std.proofs.Common.{List, sym, subst, arith}
use Rattle.hd_lifted.specs.declared.schema.Ground.{Ground}
use Rattle.hd_judge.proofs.Finding.{flat_more}
use Rattle.hd_grounding.specs.Faults.{met_by_instance}
use Rattle.hd_images.specs.Meeting.{IsMet}
use Rattle.hd_images.proofs.met.met_by_instances.Goals as goal

pub loop-instance-preserved : goal.loop-instance-preserved
loop-instance-preserved c =
    let t = c.args.task.now in
    subst (λ (met : List Ground). IsMet 65536 met c.meet_instance_too.new.forms)
    (sym (flat_more (met_by_instance t) c.args.instances.now c.loop-instance.instance-index c.instance-item.result (omega arith) c.instance-item.is))
    (c.in_ok-meet_instance_too.ensures _ c.loop-instance.invariant)
