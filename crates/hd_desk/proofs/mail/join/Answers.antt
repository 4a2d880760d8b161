use Rattle.std.proofs.Common.{sym, ap, ◌∙◌, arith}
use Rattle.std.specs.Option.{option_map}
use Rattle.std.proofs.lemmas.Option.{same_Some}
use Rattle.hd_desk.specs.Hands.{mailbox_name, post_of, with_other}
use Rattle.hd_desk.proofs.Posting.{merges}
use Rattle.hd_desk.proofs.Handing.{some_at, lined_stands, post_after, posts_set, hand_after, hands_set}
use Rattle.hd_desk.proofs.mail.join.Goals as goal

pub absorb-requires-clause-queue : goal.absorb-requires-clause-queue
absorb-requires-clause-queue g c =
    let s = lined_stands _ c.requires.hands.0 c.args.passes.now.items c.args.boxes.now.items c.requires.hands.1 c.requires.lined c.args.number c.index_mut-pass.result.now c.index.result.now c.requires.there c.index_mut-pass.ensures.value c.index.ensures in
    let box = some_at c.args.boxes.now.items c.args.number c.index.result.now c.requires.there c.index.ensures in
    ((s.named, s.hand.home), (same_Some _ _ (sym c.requires.name ∙ ap (option_map mailbox_name) box), c.requires.home))

pub absorb-requires-clause-rule : goal.absorb-requires-clause-rule
absorb-requires-clause-rule g c =
    let s = lined_stands _ c.requires.hands.0 c.args.passes.now.items c.args.boxes.now.items c.requires.hands.1 c.requires.lined c.args.number c.index_mut-pass.result.now c.index.result.now c.requires.there c.index_mut-pass.ensures.value c.index.ensures in
    merges g.T.Sent.of _ _ _ _ s.hand.part

pub returns-clause-joined : goal.returns-clause-joined
returns-clause-joined g c =
    let p = c.index_mut-pass.result.now in
    posts_set c.args.passes.now.items c.args.number c.absorb.new.pass p (with_other (post_of c.args.other))
    (post_after p c.absorb.new.pass _ c.absorb.ensures.queue.0 c.absorb.ensures.rule ∙ ap (λ x. with_other (post_of c.args.other) (post_of x)) c.index_mut-pass.ensures.value)

pub returns-clause-hands : goal.returns-clause-hands
returns-clause-hands g c of all =
    let p = c.index_mut-pass.result.now in
    let s = lined_stands _ of c.args.passes.now.items c.args.boxes.now.items all c.requires.lined c.args.number c.index_mut-pass.result.now c.index.result.now c.requires.there c.index_mut-pass.ensures.value c.index.ensures in
    let part = s.hand.part in
    hands_set of c.args.passes.now.items c.args.number c.absorb.new.pass all (hand_after of p c.absorb.new.pass _ s.hand c.absorb.ensures.queue.2 c.absorb.ensures.rule (omega arith) s.hand.knows)
