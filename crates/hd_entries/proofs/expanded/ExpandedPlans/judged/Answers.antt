use Rattle.std.proofs.Common.{◌≡◌, ◌∙◌, ℕ, true, false, Some, None, List, get_or, inr, sym, ap, ap₂}
use Rattle.std.specs.List.{position}
use Rattle.hd_task.specs.declared.plan.Kid.{Kid}
use Rattle.hd_tables.specs.Kids.{same_kid}
use Rattle.hd_node.specs.Outcome.{kid_of}
use Rattle.hd_entries.specs.Kids.{posted_by}
use Rattle.hd_entries.specs.Settling.{expansions, knows_parent, place_of, is_posted, is_marked, node_of, refusal_by}
use Rattle.hd_entries.specs.Holding.{state_with, unmarked}
use Rattle.hd_entries.proofs.Held.{late, settled_before}
use Rattle.hd_entries.proofs.Judging.{found_at, found_nowhere, unknown, not_posted}
use Rattle.hd_entries.proofs.expanded.ExpandedPlans.judged.Goals as goal

pub returns-then-not-knows_parent-clause-refused : goal.returns-then-not-knows_parent-clause-refused
returns-then-not-knows_parent-clause-refused c =
    let x = c.args.self.now in
    let b = state_with x c.args.kids.now.marks in
    let earlier = c.args.earlier.now in
    let o = c.args.outcome.now in
    let k = kid_of o in
    let P = posted_by x.task.now (expansions b) in
    inr (unknown (knows_parent b k) (is_posted b k) (is_marked b k) (refusal_by b earlier o)
    (ap (knows_parent b) (sym c.kid-kid.ensures) ∙ (sym c.knows_parent.ensures ∙ c.if-not-knows_parent.true)))

pub returns-in_default-clause-refused : goal.returns-in_default-clause-refused
returns-in_default-clause-refused c =
    let x = c.args.self.now in
    let b = state_with x c.args.kids.now.marks in
    let earlier = c.args.earlier.now in
    let o = c.args.outcome.now in
    let k = kid_of o in
    let P = posted_by x.task.now (expansions b) in
    let known : knows_parent b k ≡ true = ap (knows_parent b) (sym c.kid-kid.ensures) ∙ (sym c.knows_parent.ensures ∙ c.if-not-knows_parent.false) in
    let missing : position (same_kid k) P ≡ None =
    ap₂ (λ (q : Kid) (ks : List Kid). position (same_kid q) ks) (sym c.kid-kid.ensures) (sym c.requires.posts.posted) ∙ (sym c.place_of.ensures.place ∙ c.in_default.is)
    in
    inr (not_posted (knows_parent b k) (is_posted b k) (is_marked b k) (refusal_by b earlier o) known (found_nowhere (same_kid k) P missing))

pub returns-then-is_settled-clause-refused : goal.returns-then-is_settled-clause-refused
returns-then-is_settled-clause-refused c =
    let x = c.args.self.now in
    let b = state_with x c.args.kids.now.marks in
    let earlier = c.args.earlier.now in
    let o = c.args.outcome.now in
    let k = kid_of o in
    let P = posted_by x.task.now (expansions b) in
    let known : knows_parent b k ≡ true = ap (knows_parent b) (sym c.kid-kid.ensures) ∙ (sym c.knows_parent.ensures ∙ c.if-not-knows_parent.false) in
    let there : position (same_kid k) P ≡ Some c.in-Some.place =
    ap₂ (λ (q : Kid) (ks : List Kid). position (same_kid q) ks) (sym c.kid-kid.ensures) (sym c.requires.posts.posted) ∙ (sym c.place_of.ensures.place ∙ c.in-Some.is)
    in
    let posted : is_posted b k ≡ true = (found_at (same_kid k) P c.in-Some.place there).0 in
    let place : c.in-Some.place ≡ place_of b k = (found_at (same_kid k) P c.in-Some.place there).1 in
    let marked_kid : is_marked b k ≡ true =
    ap (λ (p : ℕ). get_or c.args.kids.now.marks p true) (sym place) ∙ (sym c.is_settled.ensures ∙ c.if-is_settled.true)
    in
    inr (sym (settled_before (knows_parent b k) (is_posted b k) (is_marked b k) (refusal_by b earlier o) known posted marked_kid))

pub reach-requires-clause-known : goal.reach-requires-clause-known
reach-requires-clause-known c = sym c.knows_parent.ensures ∙ c.if-not-knows_parent.false

pub reach-requires-clause-posted : goal.reach-requires-clause-posted
reach-requires-clause-posted c =
    let x = c.args.self.now in
    let b = state_with x c.args.kids.now.marks in
    let earlier = c.args.earlier.now in
    let o = c.args.outcome.now in
    let k = kid_of o in
    let P = posted_by x.task.now (expansions b) in
    let there : position (same_kid k) P ≡ Some c.in-Some.place =
    ap₂ (λ (q : Kid) (ks : List Kid). position (same_kid q) ks) (sym c.kid-kid.ensures) (sym c.requires.posts.posted) ∙ (sym c.place_of.ensures.place ∙ c.in-Some.is)
    in
    let posted : is_posted b k ≡ true = (found_at (same_kid k) P c.in-Some.place there).0 in
    let place : c.in-Some.place ≡ place_of b k = (found_at (same_kid k) P c.in-Some.place there).1 in
    ap (is_posted b) c.kid-kid.ensures ∙ posted

pub refusal_by-requires-clause-leads : goal.refusal_by-requires-clause-leads
refusal_by-requires-clause-leads c = ap (node_of (unmarked c.args.self.now)) (sym c.kid-kid.ensures) ∙ c.in_ok-reach.ensures

pub returns-in-Some-refusal_by-clause-refused : goal.returns-in-Some-refusal_by-clause-refused
returns-in-Some-refusal_by-clause-refused c =
    let x = c.args.self.now in
    let b = state_with x c.args.kids.now.marks in
    let earlier = c.args.earlier.now in
    let o = c.args.outcome.now in
    let k = kid_of o in
    let P = posted_by x.task.now (expansions b) in
    let known : knows_parent b k ≡ true = ap (knows_parent b) (sym c.kid-kid.ensures) ∙ (sym c.knows_parent.ensures ∙ c.if-not-knows_parent.false) in
    let there : position (same_kid k) P ≡ Some c.in-Some.place =
    ap₂ (λ (q : Kid) (ks : List Kid). position (same_kid q) ks) (sym c.kid-kid.ensures) (sym c.requires.posts.posted) ∙ (sym c.place_of.ensures.place ∙ c.in-Some.is)
    in
    let posted : is_posted b k ≡ true = (found_at (same_kid k) P c.in-Some.place there).0 in
    let place : c.in-Some.place ≡ place_of b k = (found_at (same_kid k) P c.in-Some.place there).1 in
    let unmarked_kid : is_marked b k ≡ false =
    ap (λ (p : ℕ). get_or c.args.kids.now.marks p true) (sym place) ∙ (sym c.is_settled.ensures ∙ c.if-is_settled.false)
    in
    inr (sym (late (knows_parent b k) (is_posted b k) (is_marked b k) (refusal_by b earlier o) known posted unmarked_kid) ∙ (sym c.refusal_by.ensures ∙ c.in-Some-refusal_by.is))
