use Rattle.std.proofs.Common.{◌%◌, [], sym, ap, subst, ◌∙◌, length, arith}
use Rattle.hd_task.specs.Plans.{IsStateOf}
use Rattle.hd_recovery.proofs.Teams.{length-team, of_task, closed_next, on_ok}
use Rattle.hd_recovery.proofs.handing.close_at_owner.Goals as goal

pub index_mut-requires : goal.index_mut-requires
index_mut-requires c =
    let long = ap length c.requires.team.1 ∙ length-team c.args.task.now c.args.count c.requires.some c.requires.team.0 [] in
    omega (arith, c.owner-id.ensures.worker, long)

pub close-requires : goal.close-requires
close-requires c =
    let at = c.owner-id.ensures.owner ∙ ap (λ h. h % c.args.count) c.hash.ensures in
    record {
      of_task =
          subst (λ t. IsStateOf t c.args.state.now)
          (sym (of_task c.args.task.now c.args.count c.requires.some c.requires.team.0 [] c.args.state.now c.owner-id.result c.args.workers.now.items c.index_mut.result.now at c.requires.team.1 c.index_mut.ensures.value)) c.requires.of_task;
    }

pub returns : goal.returns
returns c =
    let at = c.owner-id.ensures.owner ∙ ap (λ h. h % c.args.count) c.hash.ensures in
    λ closed is.
    on_ok c.close.result
    (closed_next c.args.task.now c.args.count c.requires.some closed [] c.args.number c.args.state.now c.args.cost c.owner-id.result c.args.workers.now.items c.index_mut.result.now c.close.new.self at is c.index_mut.ensures.value)
    c.close.ensures.ok
