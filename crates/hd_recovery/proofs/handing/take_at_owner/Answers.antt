use Rattle.std.proofs.Common.{◌%◌, sym, ap, ◌∙◌, length, arith}
use Rattle.hd_entries.specs.Holding.{parcel_of}
use Rattle.hd_recovery.proofs.Teams.{length-team, of_task, taken_next, on_ok}
use Rattle.hd_recovery.proofs.handing.take_at_owner.Goals as goal

pub index_mut-requires : goal.index_mut-requires
index_mut-requires c =
    let long = ap length c.requires.team.2 ∙ length-team c.args.task.now c.args.count c.requires.some c.requires.team.0 c.requires.team.1 in
    omega (arith, c.owner-id.ensures.worker, long)

pub take-requires : goal.take-requires
take-requires c =
    let at = c.owner-id.ensures.owner ∙ ap (λ h. h % c.args.count) c.hash.ensures in
    c.requires.of_task
    ∙ sym (of_task c.args.task.now c.args.count c.requires.some c.requires.team.0 c.requires.team.1 c.args.parcel.state c.owner-id.result c.args.workers.now.items c.index_mut.result.now at c.requires.team.2 c.index_mut.ensures.value)

pub returns : goal.returns
returns c =
    let at = c.owner-id.ensures.owner ∙ ap (λ h. h % c.args.count) c.hash.ensures in
    λ closed taken is.
    on_ok c.take.result
    (taken_next c.args.task.now c.args.count c.requires.some closed taken (parcel_of c.args.parcel) c.owner-id.result c.args.workers.now.items c.index_mut.result.now c.take.new.worker at is c.index_mut.ensures.value)
    c.take.ensures
