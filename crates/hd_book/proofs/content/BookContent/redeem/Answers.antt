use Rattle.std.proofs.Common.{subst}
use Rattle.std.specs.Prelude.{IfOk}
use Rattle.hd_book.specs.View.{BookView}
use Rattle.hd_book.specs.Redeeming.{IsReleasedOf, IsReleasedIn}
use Rattle.hd_book.proofs.Held.{held_if, held_spent, redeemed_in, redeemed_of}
use Rattle.hd_book.proofs.content.BookContent.redeem.Goals as goal

pub invariant_of-self : goal.invariant_of-self
invariant_of-self c =
    let e = c.self.inside.entries in
    let b = c.self.inside.tickets.batches in
    held_if c.redeem.result e b _ _ c.self.invariant (held_spent e b c.args.ticket c.self.invariant) c.redeem.ensures.redeemed c.redeem.ensures.err

pub returns-clause-released : goal.returns-clause-released
returns-clause-released c =
    subst (λ (v : BookView). IfOk c.redeem.result (IsReleasedIn v.state c.args.ticket)) c.self.view_is (
    redeemed_in c.self.inside.entries c.self.inside.tickets.batches c.args.ticket c.redeem.result c.self.invariant c.redeem.ensures.given
    )

pub returns-clause-of_task : goal.returns-clause-of_task
returns-clause-of_task c =
    let e = c.self.inside.entries in
    subst (λ (v : BookView). IfOk c.redeem.result (IsReleasedOf v.state.task)) c.self.view_is (
    redeemed_of e.state c.args.ticket c.redeem.result
    (redeemed_in e c.self.inside.tickets.batches c.args.ticket c.redeem.result c.self.invariant c.redeem.ensures.given)
    )
