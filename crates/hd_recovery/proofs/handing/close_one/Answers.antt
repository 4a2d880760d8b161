use Rattle.std.proofs.Common.{sym, subst}
use Rattle.hd_task.specs.Plans.{node, IsStateOf}
use Rattle.hd_recovery.proofs.Teams.{state_there}
use Rattle.hd_recovery.proofs.handing.close_one.Goals as goal

pub close_at_owner-requires-clause-of_task : goal.close_at_owner-requires-clause-of_task
close_at_owner-requires-clause-of_task g c =
    subst (λ t. IsStateOf t c.in_ok-own-in-Some.own) (sym c.task.ensures)
    (subst (IsStateOf c.args.book.now.state.task) (sym c.in_ok-own-in-Some.ensures)
    (state_there c.args.book.now.state c.args.number (node c.in-Some.state c.in-Some.cost) (sym c.in-Some.ensures)))
