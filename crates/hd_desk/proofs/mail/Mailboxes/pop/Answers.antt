use Rattle.std.proofs.Common.{◌∙◌}
use Rattle.hd_desk.proofs.Posting.{takes}
use Rattle.hd_desk.proofs.Handing.{stands, popped}
use Rattle.hd_desk.proofs.mail.Mailboxes.pop.Goals as goal

pub try_pop_as-requires-clause-queue : goal.try_pop_as-requires-clause-queue
try_pop_as-requires-clause-queue g c =
    let s = stands _ c.hands.inside.of.now c.hands.inside.passes.items c.self.inside.boxes.items c.args.self.now c.args.hands.now c.self.view_is c.hands.view_is c.hands.invariant c.requires.of c.args.from c.index_mut-pass.result.now c.index.result.now c.requires.there c.index_mut-pass.ensures.value c.index.ensures in
    (s.named, s.hand.home)

pub try_pop_as-requires-clause-rule : goal.try_pop_as-requires-clause-rule
try_pop_as-requires-clause-rule g c =
    let s = stands _ c.hands.inside.of.now c.hands.inside.passes.items c.self.inside.boxes.items c.args.self.now c.args.hands.now c.self.view_is c.hands.view_is c.hands.invariant c.requires.of c.args.from c.index_mut-pass.result.now c.index.result.now c.requires.there c.index_mut-pass.ensures.value c.index.ensures in
    takes g.T.Sent.of _ _ s.hand.part

pub returns-clause-taken : goal.returns-clause-taken
returns-clause-taken g c =
    let s = stands _ c.hands.inside.of.now c.hands.inside.passes.items c.self.inside.boxes.items c.args.self.now c.args.hands.now c.self.view_is c.hands.view_is c.hands.invariant c.requires.of c.args.from c.index_mut-pass.result.now c.index.result.now c.requires.there c.index_mut-pass.ensures.value c.index.ensures in
    (popped g.T.Sent.of c.hands.inside.of.now c.hands.inside.passes.items c.args.hands.now c.hands.view_is c.args.from c.index_mut-pass.result.now c.try_pop_as.new.pass c.try_pop_as.result s.hand c.index_mut-pass.ensures.value c.try_pop_as.ensures.queue c.try_pop_as.ensures.rule).taken

pub returns-clause-none : goal.returns-clause-none
returns-clause-none g c =
    let s = stands _ c.hands.inside.of.now c.hands.inside.passes.items c.self.inside.boxes.items c.args.self.now c.args.hands.now c.self.view_is c.hands.view_is c.hands.invariant c.requires.of c.args.from c.index_mut-pass.result.now c.index.result.now c.requires.there c.index_mut-pass.ensures.value c.index.ensures in
    (popped g.T.Sent.of c.hands.inside.of.now c.hands.inside.passes.items c.args.hands.now c.hands.view_is c.args.from c.index_mut-pass.result.now c.try_pop_as.new.pass c.try_pop_as.result s.hand c.index_mut-pass.ensures.value c.try_pop_as.ensures.queue c.try_pop_as.ensures.rule).none

pub returns-clause-of : goal.returns-clause-of
returns-clause-of g c =
    let s = stands _ c.hands.inside.of.now c.hands.inside.passes.items c.self.inside.boxes.items c.args.self.now c.args.hands.now c.self.view_is c.hands.view_is c.hands.invariant c.requires.of c.args.from c.index_mut-pass.result.now c.index.result.now c.requires.there c.index_mut-pass.ensures.value c.index.ensures in
    (popped g.T.Sent.of c.hands.inside.of.now c.hands.inside.passes.items c.args.hands.now c.hands.view_is c.args.from c.index_mut-pass.result.now c.try_pop_as.new.pass c.try_pop_as.result s.hand c.index_mut-pass.ensures.value c.try_pop_as.ensures.queue c.try_pop_as.ensures.rule).stays.names ∙ c.requires.of

pub returns-clause-same : goal.returns-clause-same
returns-clause-same g c =
    let s = stands _ c.hands.inside.of.now c.hands.inside.passes.items c.self.inside.boxes.items c.args.self.now c.args.hands.now c.self.view_is c.hands.view_is c.hands.invariant c.requires.of c.args.from c.index_mut-pass.result.now c.index.result.now c.requires.there c.index_mut-pass.ensures.value c.index.ensures in
    (popped g.T.Sent.of c.hands.inside.of.now c.hands.inside.passes.items c.args.hands.now c.hands.view_is c.args.from c.index_mut-pass.result.now c.try_pop_as.new.pass c.try_pop_as.result s.hand c.index_mut-pass.ensures.value c.try_pop_as.ensures.queue c.try_pop_as.ensures.rule).stays.of

pub returns-clause-parts : goal.returns-clause-parts
returns-clause-parts g c =
    let s = stands _ c.hands.inside.of.now c.hands.inside.passes.items c.self.inside.boxes.items c.args.self.now c.args.hands.now c.self.view_is c.hands.view_is c.hands.invariant c.requires.of c.args.from c.index_mut-pass.result.now c.index.result.now c.requires.there c.index_mut-pass.ensures.value c.index.ensures in
    (popped g.T.Sent.of c.hands.inside.of.now c.hands.inside.passes.items c.args.hands.now c.hands.view_is c.args.from c.index_mut-pass.result.now c.try_pop_as.new.pass c.try_pop_as.result s.hand c.index_mut-pass.ensures.value c.try_pop_as.ensures.queue c.try_pop_as.ensures.rule).stays.parts
