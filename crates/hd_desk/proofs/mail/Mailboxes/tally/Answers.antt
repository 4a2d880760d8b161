use Rattle.std.proofs.Common.{Option, sym, subst}
use Rattle.std.specs.Prelude.{IfSome}
use Rattle.hd_desk.specs.Hands.{PostView, post_of, IsTallied}
use Rattle.hd_desk.proofs.Posting.{learns}
use Rattle.hd_desk.proofs.Handing.{has_all, stands, stands_at, unstepped, post_after}
use Rattle.hd_desk.proofs.mail.Mailboxes.tally.Goals as goal

pub learn_as-requires-clause-queue : goal.learn_as-requires-clause-queue
learn_as-requires-clause-queue g c =
    let s = stands _ c.hands.inside.of.now c.hands.inside.passes.items c.self.inside.boxes.items c.args.self.now c.args.hands.now c.self.view_is c.hands.view_is c.hands.invariant c.requires.of c.args.from c.index_mut-pass.result.now c.index.result.now c.requires.there c.index_mut-pass.ensures.value c.index.ensures in
    (s.named, s.hand.home)

pub learn_as-requires-clause-rule : goal.learn_as-requires-clause-rule
learn_as-requires-clause-rule g c = learns g.T.Sent.of _ _ (has_all c.args.hands.now.posts c.args.from (post_of c.index_mut-pass.result.now) (stands_at _ c.hands.inside.of.now c.hands.inside.passes.items c.self.inside.boxes.items c.args.self.now c.args.hands.now c.self.view_is c.hands.view_is c.requires.of c.args.from c.index_mut-pass.result.now c.requires.there c.index_mut-pass.ensures.value) c.requires.all)

pub returns-clause-same : goal.returns-clause-same
returns-clause-same g c =
    unstepped c.hands.inside.of.now c.hands.inside.passes.items c.args.hands.now c.hands.view_is c.args.from c.index_mut-pass.result.now c.learn_as.new.pass c.index_mut-pass.ensures.value
    (post_after c.index_mut-pass.result.now c.learn_as.new.pass _ c.learn_as.ensures.queue.0.0 c.learn_as.ensures.queue.1)

pub returns-clause-tallied : goal.returns-clause-tallied
returns-clause-tallied g c =
    subst (λ (o : Option (PostView g.row.T.Denot)). IfSome o IsTallied) (sym (stands_at _ c.hands.inside.of.now c.hands.inside.passes.items c.self.inside.boxes.items c.args.self.now c.args.hands.now c.self.view_is c.hands.view_is c.requires.of c.args.from c.index_mut-pass.result.now c.requires.there c.index_mut-pass.ensures.value)) c.learn_as.ensures.rule
