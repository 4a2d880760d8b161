use Rattle.std.proofs.Common.{List, subst, ◌∙◌}
use Rattle.hd_task.specs.declared.plan.Kid.{Kid}
use Rattle.hd_entries.specs.Resuming.{IsFaultOf}
use Rattle.hd_certify.proofs.resuming.resume.Goals as goal

pub fault_at-requires : goal.fault_at-requires
fault_at-requires c =
    let these = c.as_slice.ensures.value ∙ c.in_ok-kids.ensures in
    (c.args.task.now, c.args.most, c.requires, subst (λ (ks : List Kid). IsFaultOf c.args.task.now c.args.most ks c.in-Err.number c.in-Err.refusal) these c.in-Err.ensures.refused)

pub returns-clause-refused : goal.returns-clause-refused
returns-clause-refused c =
    let these = c.as_slice.ensures.value ∙ c.in_ok-kids.ensures in
    c.fault_at.ensures c.args.task.now c.args.most c.requires
    (subst (λ (ks : List Kid). IsFaultOf c.args.task.now c.args.most ks c.in-Err.number c.in-Err.refusal) these c.in-Err.ensures.refused)
