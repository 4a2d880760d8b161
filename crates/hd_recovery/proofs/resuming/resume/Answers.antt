use Rattle.std.proofs.Common.{◌≡◌, List, [], None, map, subst, ◌∙◌, arith}
use Rattle.std.proofs.lemmas.List.{length-map}
use Rattle.hd_journal.specs.Journal.{kid_of}
use Rattle.hd_task.specs.declared.plan.Kid.{Kid}
use Rattle.hd_entries.specs.Resuming.{IsFaultOf, first_fault}
use Rattle.hd_certify.proofs.Refusing.{certified_kids}
use Rattle.hd_recovery.proofs.resuming.resume.Goals as goal

pub fault_at-requires : goal.fault_at-requires
fault_at-requires g c =
    let these = c.as_slice.ensures.value ∙ c.in_ok-kids.ensures in
    (c.args.task.now, c.args.most, c.requires.most, subst (λ (ks : List Kid). IsFaultOf c.args.task.now c.args.most ks c.in-Err.number c.in-Err.refusal) these c.in-Err.ensures.refused)

pub returns-clause-refused : goal.returns-clause-refused
returns-clause-refused g c =
    let these = c.as_slice.ensures.value ∙ c.in_ok-kids.ensures in
    c.fault_at.ensures c.args.task.now c.args.most c.requires.most
    (subst (λ (ks : List Kid). IsFaultOf c.args.task.now c.args.most ks c.in-Err.number c.in-Err.refusal) these c.in-Err.ensures.refused)

pub returns-in-Ok-clause-legal : goal.returns-in-Ok-clause-legal
returns-in-Ok-clause-legal g c =
    let these = c.as_slice.ensures.value ∙ c.in_ok-kids.ensures in
    let kids = map kid_of c.args.entries.now in
    certified_kids c.args.task.now kids
    (omega (arith, c.if-entries-most.false, c.requires.most, length-map c.args.entries.now kid_of))
    (subst (λ (ks : List Kid). first_fault c.args.task.now [] ks ≡ None) these c.in-Ok.ensures.accepted)
