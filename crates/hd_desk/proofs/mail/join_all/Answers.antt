use Rattle.std.proofs.Common.{rules, vec_len, ◌≡◌, ℕ, ◌<◌, ◌++◌, [], ◌∷◌, List, map, length, slice_get, sym, ap, ◌∙◌, subst, refl, arith}
use Rattle.std.proofs.lemmas.List.{append-nil, length-map}
use Rattle.std.proofs.lemmas.Grind.{common_steps}
use Rattle.std.specs.List.{AllByRecursion}
use Rattle.std.proofs.lemmas.Option.{slice_get-map}
use Rattle.crossbeam_queue.specs.Passes.{Pass}
use Rattle.hd_desk.specs.declared.rule.Post.{Post}
use Rattle.hd_desk.specs.Hands.{PostView, post_of, mailbox_name, changed_at, joined, with_other, IsHand}
use Rattle.hd_desk.proofs.Handing.{as_many, kept_changed, all_last, last_named, last_there, last_left, joined_more, joined_none}
use Rattle.hd_desk.proofs.mail.join_all.Goals as goal

pub loop-other-init : goal.loop-other-init
loop-other-init g c = record {
  all = refl;
  hands = λ of all. all;
  lined = c.requires.lined;
  others = ([], append-nil (map (λ (p : PostView g.row.T.Denot). p.mailbox) (map post_of c.args.others.items)) ∙ c.requires.others_lined);
  homes = c.requires.others_hands;
}

pub join-requires-clause-lined : goal.join-requires-clause-lined
join-requires-clause-lined g c = c.loop-other.invariant.lined

pub join-requires-clause-there : goal.join-requires-clause-there
join-requires-clause-there g c =
    let others = c.pop.new.self.items in
    let other = c.in-Some.other in
    let rest = c.loop-other.invariant.others.0 in
    let items = c.in-Some.ensures.items in
    let popped = ap (λ (xs : List (Pass g.row.T.Denot (Post g.row.K.Denot g.row.T.Denot))). map (λ (p : PostView g.row.T.Denot). p.mailbox) (map post_of xs) ++ rest) (sym items) ∙ c.loop-other.invariant.others.1 in
    let number : c.len.result ≡ length others = omega (arith, c.len.ensures, c.pop.new.self.ok.0) in
    omega (arith, last_there others other rest (map mailbox_name c.args.boxes.now.items) popped, length-map c.args.boxes.now.items mailbox_name)

pub join-requires-clause-name : goal.join-requires-clause-name
join-requires-clause-name g c =
    let others = c.pop.new.self.items in
    let other = c.in-Some.other in
    let rest = c.loop-other.invariant.others.0 in
    let items = c.in-Some.ensures.items in
    let popped = ap (λ (xs : List (Pass g.row.T.Denot (Post g.row.K.Denot g.row.T.Denot))). map (λ (p : PostView g.row.T.Denot). p.mailbox) (map post_of xs) ++ rest) (sym items) ∙ c.loop-other.invariant.others.1 in
    let number : c.len.result ≡ length others = omega (arith, c.len.ensures, c.pop.new.self.ok.0) in
    sym (slice_get-map mailbox_name c.args.boxes.now.items c.len.result)
    ∙ (ap (slice_get (map mailbox_name c.args.boxes.now.items)) number ∙ last_named others other rest (map mailbox_name c.args.boxes.now.items) popped)

pub join-requires-clause-home : goal.join-requires-clause-home
join-requires-clause-home g c =
    let of = c.loop-other.invariant.homes.0 in
    (all_last (IsHand of) c.pop.new.self.items c.in-Some.other (subst (AllByRecursion (IsHand of)) c.in-Some.ensures.items c.loop-other.invariant.homes.1)).1.home

pub join-requires-clause-hands : goal.join-requires-clause-hands
join-requires-clause-hands g c =
    (c.requires.hands.0, c.loop-other.invariant.hands c.requires.hands.0 c.requires.hands.1)

pub loop-other-preserved : goal.loop-other-preserved
loop-other-preserved g c =
    let others = c.pop.new.self.items in
    let other = c.in-Some.other in
    let rest = c.loop-other.invariant.others.0 in
    let items = c.in-Some.ensures.items in
    let popped = ap (λ (xs : List (Pass g.row.T.Denot (Post g.row.K.Denot g.row.T.Denot))). map (λ (p : PostView g.row.T.Denot). p.mailbox) (map post_of xs) ++ rest) (sym items) ∙ c.loop-other.invariant.others.1 in
    let number : c.len.result ≡ length others = omega (arith, c.len.ensures, c.pop.new.self.ok.0) in
    let of = c.loop-other.invariant.homes.0 in
    let posts = map post_of c.loop-other.passes.items in
    let within : length others < length posts = omega (arith, last_there others other rest (map mailbox_name c.args.boxes.now.items) popped, length-map c.args.boxes.now.items mailbox_name, as_many mailbox_name c.loop-other.passes.items c.args.boxes.now.items c.loop-other.invariant.lined, length-map c.loop-other.passes.items post_of) in
    record {
      all =
          ap (λ (ps : List (PostView g.row.T.Denot)). joined ps (map post_of others)) (c.join.ensures.joined ∙ ap (λ (k : ℕ). changed_at k (with_other (post_of other)) posts) number)
          ∙ (joined_more posts others other within
          ∙ (ap (λ (xs : List (Pass g.row.T.Denot (Post g.row.K.Denot g.row.T.Denot))). joined posts (map post_of xs)) (sym items) ∙ c.loop-other.invariant.all));
      hands = λ of' all. c.join.ensures.hands of' (c.loop-other.invariant.hands of' all);
      lined =
          ap (map (λ (p : PostView g.row.T.Denot). p.mailbox)) c.join.ensures.joined
          ∙ (kept_changed (λ (p : PostView g.row.T.Denot). p.mailbox) c.len.result (with_other (post_of other)) posts (λ _. refl) ∙ c.loop-other.invariant.lined);
      others = (other.table_id ∷ rest, last_left others other rest (map mailbox_name c.args.boxes.now.items) popped);
      homes = (of, (all_last (IsHand of) others other (subst (AllByRecursion (IsHand of)) items c.loop-other.invariant.homes.1)).0);
    }

pub returns-clause-joined : goal.returns-clause-joined
returns-clause-joined g c =
    let none : vec_len c.loop-other.others ≡ 0 = first_of (search rules, grind (arith, common_steps)) in
    joined_none (map post_of c.loop-other.passes.items) c.loop-other.others.items (omega (arith, none, c.loop-other.others.ok.0)) ∙ c.loop-other.invariant.all
