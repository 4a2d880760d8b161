use Rattle.std.proofs.Common.{Option, sym, ◌∙◌, subst}
use Rattle.std.specs.Prelude.{IfSome, IfNone}
use Rattle.hd_desk.specs.Hands.{PostView, post_of, IsEvened}
use Rattle.hd_desk.proofs.Posting.{takes, learns}
use Rattle.hd_desk.proofs.Handing.{has_all, stands, stands_at, popped, last_popped, last_evened}
use Rattle.hd_desk.proofs.mail.Mailboxes.pop_last.Goals as goal

pub pop_as-requires-clause-queue : goal.pop_as-requires-clause-queue
pop_as-requires-clause-queue g c =
    let s = stands _ c.hands.inside.of.now c.hands.inside.passes.items c.self.inside.boxes.items c.args.self.now c.args.hands.now c.self.view_is c.hands.view_is c.hands.invariant c.requires.of c.args.from c.index_mut-pass.result.now c.index.result.now c.requires.there c.index_mut-pass.ensures.value c.index.ensures in
    (s.named, s.hand.home)

pub pop_as-requires-clause-rule : goal.pop_as-requires-clause-rule
pop_as-requires-clause-rule g c =
    let s = stands _ c.hands.inside.of.now c.hands.inside.passes.items c.self.inside.boxes.items c.args.self.now c.args.hands.now c.self.view_is c.hands.view_is c.hands.invariant c.requires.of c.args.from c.index_mut-pass.result.now c.index.result.now c.requires.there c.index_mut-pass.ensures.value c.index.ensures in
    (takes g.T.Sent.of _ _ s.hand.part, learns g.T.Sent.of _ _ (has_all c.args.hands.now.posts c.args.from (post_of c.index_mut-pass.result.now) (stands_at _ c.hands.inside.of.now c.hands.inside.passes.items c.self.inside.boxes.items c.args.self.now c.args.hands.now c.self.view_is c.hands.view_is c.requires.of c.args.from c.index_mut-pass.result.now c.requires.there c.index_mut-pass.ensures.value) c.requires.all))

pub returns-clause-taken : goal.returns-clause-taken
returns-clause-taken g c =
    let s = stands _ c.hands.inside.of.now c.hands.inside.passes.items c.self.inside.boxes.items c.args.self.now c.args.hands.now c.self.view_is c.hands.view_is c.hands.invariant c.requires.of c.args.from c.index_mut-pass.result.now c.index.result.now c.requires.there c.index_mut-pass.ensures.value c.index.ensures in
    (popped g.T.Sent.of c.hands.inside.of.now c.hands.inside.passes.items c.args.hands.now c.hands.view_is c.args.from c.index_mut-pass.result.now c.pop_as.new.pass c.pop_as.result s.hand c.index_mut-pass.ensures.value c.pop_as.ensures.queue (last_popped g.T.Sent.of c.index_mut-pass.result.now c.pop_as.new.pass c.pop_as.result c.pop_as.ensures.rule)).taken

pub returns-clause-none : goal.returns-clause-none
returns-clause-none g c =
    let s = stands _ c.hands.inside.of.now c.hands.inside.passes.items c.self.inside.boxes.items c.args.self.now c.args.hands.now c.self.view_is c.hands.view_is c.hands.invariant c.requires.of c.args.from c.index_mut-pass.result.now c.index.result.now c.requires.there c.index_mut-pass.ensures.value c.index.ensures in
    (popped g.T.Sent.of c.hands.inside.of.now c.hands.inside.passes.items c.args.hands.now c.hands.view_is c.args.from c.index_mut-pass.result.now c.pop_as.new.pass c.pop_as.result s.hand c.index_mut-pass.ensures.value c.pop_as.ensures.queue (last_popped g.T.Sent.of c.index_mut-pass.result.now c.pop_as.new.pass c.pop_as.result c.pop_as.ensures.rule)).none

pub returns-clause-evened : goal.returns-clause-evened
returns-clause-evened g c =
    subst (λ (o : Option (PostView g.row.T.Denot)). IfNone c.pop_as.result (IfSome o IsEvened)) (sym (stands_at _ c.hands.inside.of.now c.hands.inside.passes.items c.self.inside.boxes.items c.args.self.now c.args.hands.now c.self.view_is c.hands.view_is c.requires.of c.args.from c.index_mut-pass.result.now c.requires.there c.index_mut-pass.ensures.value)) (last_evened g.T.Sent.of c.index_mut-pass.result.now c.pop_as.new.pass c.pop_as.result c.pop_as.ensures.rule)

pub returns-clause-of : goal.returns-clause-of
returns-clause-of g c =
    let s = stands _ c.hands.inside.of.now c.hands.inside.passes.items c.self.inside.boxes.items c.args.self.now c.args.hands.now c.self.view_is c.hands.view_is c.hands.invariant c.requires.of c.args.from c.index_mut-pass.result.now c.index.result.now c.requires.there c.index_mut-pass.ensures.value c.index.ensures in
    (popped g.T.Sent.of c.hands.inside.of.now c.hands.inside.passes.items c.args.hands.now c.hands.view_is c.args.from c.index_mut-pass.result.now c.pop_as.new.pass c.pop_as.result s.hand c.index_mut-pass.ensures.value c.pop_as.ensures.queue (last_popped g.T.Sent.of c.index_mut-pass.result.now c.pop_as.new.pass c.pop_as.result c.pop_as.ensures.rule)).stays.names ∙ c.requires.of

pub returns-clause-same : goal.returns-clause-same
returns-clause-same g c =
    let s = stands _ c.hands.inside.of.now c.hands.inside.passes.items c.self.inside.boxes.items c.args.self.now c.args.hands.now c.self.view_is c.hands.view_is c.hands.invariant c.requires.of c.args.from c.index_mut-pass.result.now c.index.result.now c.requires.there c.index_mut-pass.ensures.value c.index.ensures in
    (popped g.T.Sent.of c.hands.inside.of.now c.hands.inside.passes.items c.args.hands.now c.hands.view_is c.args.from c.index_mut-pass.result.now c.pop_as.new.pass c.pop_as.result s.hand c.index_mut-pass.ensures.value c.pop_as.ensures.queue (last_popped g.T.Sent.of c.index_mut-pass.result.now c.pop_as.new.pass c.pop_as.result c.pop_as.ensures.rule)).stays.of

pub returns-clause-parts : goal.returns-clause-parts
returns-clause-parts g c =
    let s = stands _ c.hands.inside.of.now c.hands.inside.passes.items c.self.inside.boxes.items c.args.self.now c.args.hands.now c.self.view_is c.hands.view_is c.hands.invariant c.requires.of c.args.from c.index_mut-pass.result.now c.index.result.now c.requires.there c.index_mut-pass.ensures.value c.index.ensures in
    (popped g.T.Sent.of c.hands.inside.of.now c.hands.inside.passes.items c.args.hands.now c.hands.view_is c.args.from c.index_mut-pass.result.now c.pop_as.new.pass c.pop_as.result s.hand c.index_mut-pass.ensures.value c.pop_as.ensures.queue (last_popped g.T.Sent.of c.index_mut-pass.result.now c.pop_as.new.pass c.pop_as.result c.pop_as.ensures.rule)).stays.parts
