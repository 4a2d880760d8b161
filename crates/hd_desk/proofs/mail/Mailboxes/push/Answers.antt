use Rattle.std.proofs.Common.{Some, sym, ap, ◌∙◌}
use Rattle.hd_desk.proofs.Posting.{puts}
use Rattle.hd_desk.proofs.Handing.{stands, pushed}
use Rattle.hd_desk.proofs.mail.Mailboxes.push.Goals as goal

pub try_push_as-requires-clause-queue : goal.try_push_as-requires-clause-queue
try_push_as-requires-clause-queue g c =
    let s = stands _ c.hands.inside.of.now c.hands.inside.passes.items c.self.inside.boxes.items c.args.self.now c.args.hands.now c.self.view_is c.hands.view_is c.hands.invariant c.requires.of c.args.to c.index_mut-pass.result.now c.index.result.now c.requires.there c.index_mut-pass.ensures.value c.index.ensures in
    (s.named, s.hand.home)

pub try_push_as-requires-clause-rule : goal.try_push_as-requires-clause-rule
try_push_as-requires-clause-rule g c =
    let s = stands _ c.hands.inside.of.now c.hands.inside.passes.items c.self.inside.boxes.items c.args.self.now c.args.hands.now c.self.view_is c.hands.view_is c.hands.invariant c.requires.of c.args.to c.index_mut-pass.result.now c.index.result.now c.requires.there c.index_mut-pass.ensures.value c.index.ensures in
    puts g.T.Sent.of _ _ _ _ s.hand.part (s.hand.knows ∙ ap Some (sym c.requires.fits))

pub returns-clause-put : goal.returns-clause-put
returns-clause-put g c = (pushed c.hands.inside.of.now c.hands.inside.passes.items c.args.hands.now c.hands.view_is c.args.to c.index_mut-pass.result.now c.try_push_as.new.pass c.args.item c.try_push_as.result c.index_mut-pass.ensures.value c.try_push_as.ensures.queue c.try_push_as.ensures.rule).put

pub returns-clause-err : goal.returns-clause-err
returns-clause-err g c = (pushed c.hands.inside.of.now c.hands.inside.passes.items c.args.hands.now c.hands.view_is c.args.to c.index_mut-pass.result.now c.try_push_as.new.pass c.args.item c.try_push_as.result c.index_mut-pass.ensures.value c.try_push_as.ensures.queue c.try_push_as.ensures.rule).back

pub returns-clause-of : goal.returns-clause-of
returns-clause-of g c = (pushed c.hands.inside.of.now c.hands.inside.passes.items c.args.hands.now c.hands.view_is c.args.to c.index_mut-pass.result.now c.try_push_as.new.pass c.args.item c.try_push_as.result c.index_mut-pass.ensures.value c.try_push_as.ensures.queue c.try_push_as.ensures.rule).stays.names ∙ c.requires.of

pub returns-clause-same : goal.returns-clause-same
returns-clause-same g c = (pushed c.hands.inside.of.now c.hands.inside.passes.items c.args.hands.now c.hands.view_is c.args.to c.index_mut-pass.result.now c.try_push_as.new.pass c.args.item c.try_push_as.result c.index_mut-pass.ensures.value c.try_push_as.ensures.queue c.try_push_as.ensures.rule).stays.of

pub returns-clause-parts : goal.returns-clause-parts
returns-clause-parts g c = (pushed c.hands.inside.of.now c.hands.inside.passes.items c.args.hands.now c.hands.view_is c.args.to c.index_mut-pass.result.now c.try_push_as.new.pass c.args.item c.try_push_as.result c.index_mut-pass.ensures.value c.try_push_as.ensures.queue c.try_push_as.ensures.rule).stays.parts
