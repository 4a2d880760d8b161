use Rattle.std.proofs.Common.{◌<◌, Some, sym, ap, ◌∙◌, subst, Option, arith}
use Rattle.std.specs.Prelude.{IfSome}
use Rattle.std.specs.Option.{option_map}
use Rattle.crossbeam_queue.specs.Passes.{view}
use Rattle.hd_desk.specs.Hands.{PostView, post_of, less_part, one_part}
use Rattle.hd_desk.proofs.Posting.{forks}
use Rattle.hd_desk.proofs.Handing.{lined_stands, lined_at, post_after, posts_set, hand_after, hands_set}
use Rattle.hd_desk.proofs.mail.split.Goals as goal

pub another-requires-clause-queue : goal.another-requires-clause-queue
another-requires-clause-queue g c =
    let s = lined_stands _ c.requires.hands.0 c.args.passes.now.items c.args.boxes.now.items c.requires.hands.1 c.requires.lined c.args.number c.index_mut-pass.result.now c.index.result.now c.requires.there c.index_mut-pass.ensures.value c.index.ensures in
    (s.named, s.hand.home)

pub another-requires-clause-rule : goal.another-requires-clause-rule
another-requires-clause-rule g c =
    forks g.T.Sent.of _ _ (subst (λ (o : Option (PostView g.row.T.Denot)). IfSome o (λ (x : PostView g.row.T.Denot). 1 < x.parts)) (lined_at _ c.args.passes.now.items c.args.boxes.now.items c.requires.lined c.args.number c.index_mut-pass.result.now c.requires.there c.index_mut-pass.ensures.value) c.requires.part)

pub returns-clause-left : goal.returns-clause-left
returns-clause-left g c =
    let p = c.index_mut-pass.result.now in
    posts_set c.args.passes.now.items c.args.number c.another.new.pass p less_part
    (post_after p c.another.new.pass _ c.another.ensures.queue.0.0 c.another.ensures.rule.0 ∙ ap (λ x. less_part (post_of x)) c.index_mut-pass.ensures.value)

pub returns-clause-new : goal.returns-clause-new
returns-clause-new g c =
    let p = c.index_mut-pass.result.now in
    let s = lined_stands _ c.requires.hands.0 c.args.passes.now.items c.args.boxes.now.items c.requires.hands.1 c.requires.lined c.args.number c.index_mut-pass.result.now c.index.result.now c.requires.there c.index_mut-pass.ensures.value c.index.ensures in
    ap (option_map one_part) (lined_at _ c.args.passes.now.items c.args.boxes.now.items c.requires.lined c.args.number c.index_mut-pass.result.now c.requires.there c.index_mut-pass.ensures.value)
    ∙ ap Some (sym (post_after p c.another.result _ (c.another.ensures.queue.1.0 ∙ sym s.named) c.another.ensures.rule.1))

pub returns-clause-hands : goal.returns-clause-hands
returns-clause-hands g c of all =
    let p = c.index_mut-pass.result.now in
    let s = lined_stands _ of c.args.passes.now.items c.args.boxes.now.items all c.requires.lined c.args.number c.index_mut-pass.result.now c.index.result.now c.requires.there c.index_mut-pass.ensures.value c.index.ensures in
    let some_parts : 1 < (view p).parts = subst (λ (o : Option (PostView g.row.T.Denot)). IfSome o (λ (x : PostView g.row.T.Denot). 1 < x.parts)) (lined_at _ c.args.passes.now.items c.args.boxes.now.items c.requires.lined c.args.number c.index_mut-pass.result.now c.requires.there c.index_mut-pass.ensures.value) c.requires.part in (
      hands_set of c.args.passes.now.items c.args.number c.another.new.pass all (hand_after of p c.another.new.pass _ s.hand c.another.ensures.queue.0.2 c.another.ensures.rule.0 (omega arith) s.hand.knows),
      hand_after of p c.another.result _ s.hand (c.another.ensures.queue.1.1 ∙ sym s.hand.home) c.another.ensures.rule.1 (omega arith) s.hand.knows,
    )
