use Rattle.std.proofs.Common.{◌<◌, ◌++◌, [], ◌∷◌, List, Option, map, length, sym, ap, ◌∙◌, subst, refl, arith}
use Rattle.std.proofs.lemmas.List.{map-append, length-map, length_push}
use Rattle.std.specs.Prelude.{IfSome, slice_get}
use Rattle.std.specs.List.{AllByRecursion}
use Rattle.std.specs.Option.{option_map}
use Rattle.hd_base.proofs.Lists.{AllByRecursion-push}
use Rattle.hd_desk.specs.Hands.{PostView, post_of, mailbox_name, changed_at, less_part, one_part, IsHand}
use Rattle.hd_desk.proofs.Handing.{as_many, changed_below_none, changed_below_next, changed_below_all, changed_below_at, names_below, parts_at, take_push}
use Rattle.hd_desk.proofs.mail.split_passes.Goals as goal

pub loop-number-init : goal.loop-number-init
loop-number-init g c = record {
  left = sym (changed_below_none less_part (map post_of c.args.passes.now.items));
  new = ap (map post_of) c.requires.none;
  hands = λ of all. (all, subst (AllByRecursion (IsHand of)) (sym c.requires.none) tt);
  count = omega (arith, ap length c.requires.none);
  room = c.requires.room;
}

pub split-requires-clause-lined : goal.split-requires-clause-lined
split-requires-clause-lined g c =
    ap (λ (ps : List (PostView g.row.T.Denot)). map (λ (p : PostView g.row.T.Denot). p.mailbox) ps) c.loop-number.invariant.left
    ∙ (names_below c.loop-number.number less_part (map post_of c.args.passes.now.items) (λ _. refl) ∙ c.requires.lined)

pub split-requires-clause-part : goal.split-requires-clause-part
split-requires-clause-part g c =
    let n = c.loop-number.number in
    let posts = map post_of c.args.passes.now.items in
    subst (λ (o : Option (PostView g.row.T.Denot)). IfSome o (λ (p : PostView g.row.T.Denot). 1 < p.parts)) (sym (ap (λ (ps : List (PostView g.row.T.Denot)). slice_get ps n) c.loop-number.invariant.left ∙ changed_below_at n less_part posts)) (parts_at posts n c.requires.parts)

pub split-requires-clause-hands : goal.split-requires-clause-hands
split-requires-clause-hands g c =
    (c.requires.hands.0, (c.loop-number.invariant.hands c.requires.hands.0 c.requires.hands.1).0)

pub loop-number-preserved : goal.loop-number-preserved
loop-number-preserved g c =
    let n = c.loop-number.number in
    let posts = map post_of c.args.passes.now.items in
    let there = ap (λ (ps : List (PostView g.row.T.Denot)). slice_get ps n) c.loop-number.invariant.left ∙ changed_below_at n less_part posts in
    record {
      left = c.split.ensures.left ∙ (ap (changed_at n less_part) c.loop-number.invariant.left ∙ changed_below_next n less_part posts);
      new =
          ap (map post_of) c.push_reserved.ensures.items
          ∙ (map-append post_of c.loop-number.new.items (c.split.result ∷ [])
          ∙ (ap (λ (ps : List (PostView g.row.T.Denot)). ps ++ post_of c.split.result ∷ []) c.loop-number.invariant.new
          ∙ sym (take_push one_part posts n (post_of c.split.result) (ap (option_map one_part) (sym there) ∙ c.split.ensures.new))));
      hands = λ of all.
          let before = c.loop-number.invariant.hands of all in
          let after = c.split.ensures.hands of before.0 in
          (after.0, subst (AllByRecursion (IsHand of)) (sym c.push_reserved.ensures.items) (AllByRecursion-push (IsHand of) c.loop-number.new.items c.split.result before.1 after.1));
      count = let old = c.loop-number.invariant.count in omega (arith, ap length c.push_reserved.ensures.items, length_push c.loop-number.new.items c.split.result);
      room = let old = c.loop-number.invariant.room in omega (arith, c.push_reserved.ensures.capacity);
    }

pub returns-clause-left : goal.returns-clause-left
returns-clause-left g c =
    let posts = map post_of c.args.passes.now.items in
    c.loop-number.invariant.left
    ∙ changed_below_all c.loop-number.number less_part posts (omega (arith, length-map c.args.passes.now.items post_of, as_many mailbox_name c.args.passes.now.items c.args.boxes.now.items c.requires.lined, c.args.boxes.now.ok.0, c.len-number-end.ensures, c.loop-number-test.false))
