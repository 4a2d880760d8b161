use Rattle.std.proofs.Common.{List, inr, length, ap, arith, subst, ◌∙◌, ◌≤◌}
use Rattle.std.proofs.lemmas.List.{length-map}
use Rattle.hd_task.specs.declared.plan.Kid.{Kid}
use Rattle.hd_journal.specs.Journal.{kid_of}
use Rattle.hd_entries.specs.Resuming.{IsFaultOf}
use Rattle.hd_certify.proofs.gathering.gather.Goals as goal

pub fault_at-requires : goal.fault_at-requires
fault_at-requires c =
    let these = c.as_slice.ensures.value ∙ c.in_ok-kids.ensures in
    let long = ap length these in
    let few : length c.as_slice.result.now ≤ c.args.most = omega (arith, c.if-entries-most.false, long, length-map c.args.entries.now kid_of) in
    (c.args.task.now, c.args.most, c.requires, subst (λ (ks : List Kid). IsFaultOf c.args.task.now c.args.most ks c.in-Err.number c.in-Err.refusal) these (inr (few, c.in-Err.ensures.fault)))

pub returns-clause-refused : goal.returns-clause-refused
returns-clause-refused c =
    let these = c.as_slice.ensures.value ∙ c.in_ok-kids.ensures in
    let long = ap length these in
    let few : length c.as_slice.result.now ≤ c.args.most = omega (arith, c.if-entries-most.false, long, length-map c.args.entries.now kid_of) in
    c.fault_at.ensures c.args.task.now c.args.most c.requires
    (subst (λ (ks : List Kid). IsFaultOf c.args.task.now c.args.most ks c.in-Err.number c.in-Err.refusal) these (inr (few, c.in-Err.ensures.fault)))
