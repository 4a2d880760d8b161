use Rattle.std.proofs.Common.{◌≡◌, ◌∙◌, ℕ, true, false, Some, None, List, get_or, sym, ap, subst}
use Rattle.std.specs.List.{position}
use Rattle.hd_task.specs.declared.plan.Kid.{Kid}
use Rattle.hd_tables.specs.Kids.{same_kid}
use Rattle.hd_entries.specs.Kids.{posted_by}
use Rattle.hd_entries.specs.Settling.{BookState, IsBookKept, expansions, knows_parent, place_of, is_posted, is_marked}
use Rattle.hd_entries.specs.Holding.{state_of}
use Rattle.hd_entries.specs.Resuming.{resumed_state}
use Rattle.hd_entries.proofs.Again.{fault_is}
use Rattle.hd_entries.proofs.Held.{late, settled_before}
use Rattle.hd_entries.proofs.Judging.{found_at, found_nowhere, unknown, not_posted}
use Rattle.hd_entries.proofs.content.EntriesContent.test_next.Goals as goal

pub returns-then-not-knows_parent-clause-fault : goal.returns-then-not-knows_parent-clause-fault
returns-then-not-knows_parent-clause-fault c =
    let s = c.args.self.now in
    let t = s.expanded.task.now in
    let k = c.args.kid in
    let before = (state_of s).entries in
    let b = resumed_state t before in
    let kept : IsBookKept b = subst IsBookKept c.requires.again c.requires.held.kept in
    fault_is t before kept k
    ∙ unknown (knows_parent b k) (is_posted b k) (is_marked b k) None (sym c.knows_parent.ensures ∙ c.if-not-knows_parent.true)

pub returns-in_default-clause-fault : goal.returns-in_default-clause-fault
returns-in_default-clause-fault c =
    let s = c.args.self.now in
    let t = s.expanded.task.now in
    let k = c.args.kid in
    let before = (state_of s).entries in
    let b = resumed_state t before in
    let kept : IsBookKept b = subst IsBookKept c.requires.again c.requires.held.kept in
    let P = posted_by t (expansions b) in
    let known : knows_parent b k ≡ true = sym c.knows_parent.ensures ∙ c.if-not-knows_parent.false in
    let missing : position (same_kid k) P ≡ None =
    ap (λ (ks : List Kid). position (same_kid k) ks) (sym c.requires.held.posts.posted) ∙ (sym c.place_of.ensures.place ∙ c.in_default.is)
    in
    fault_is t before kept k
    ∙ not_posted (knows_parent b k) (is_posted b k) (is_marked b k) None known (found_nowhere (same_kid k) P missing)

pub returns-then-is_settled-clause-fault : goal.returns-then-is_settled-clause-fault
returns-then-is_settled-clause-fault c =
    let s = c.args.self.now in
    let t = s.expanded.task.now in
    let k = c.args.kid in
    let before = (state_of s).entries in
    let b = resumed_state t before in
    let kept : IsBookKept b = subst IsBookKept c.requires.again c.requires.held.kept in
    let P = posted_by t (expansions b) in
    let known : knows_parent b k ≡ true = sym c.knows_parent.ensures ∙ c.if-not-knows_parent.false in
    let there : position (same_kid k) P ≡ Some c.in-Some.place =
    ap (λ (ks : List Kid). position (same_kid k) ks) (sym c.requires.held.posts.posted) ∙ (sym c.place_of.ensures.place ∙ c.in-Some.is)
    in
    let found = found_at (same_kid k) P c.in-Some.place there in
    let marked_kid : is_marked b k ≡ true =
    ap (λ (x : BookState). get_or x.marks (place_of b k) true) (sym c.requires.again)
    ∙ (ap (λ (p : ℕ). get_or s.kids.marks p true) (sym found.1) ∙ (sym c.is_settled.ensures ∙ c.if-is_settled.true))
    in
    fault_is t before kept k
    ∙ sym (settled_before (knows_parent b k) (is_posted b k) (is_marked b k) None known found.0 marked_kid)

pub returns-clause-free : goal.returns-clause-free
returns-clause-free c =
    let s = c.args.self.now in
    let t = s.expanded.task.now in
    let k = c.args.kid in
    let before = (state_of s).entries in
    let b = resumed_state t before in
    let kept : IsBookKept b = subst IsBookKept c.requires.again c.requires.held.kept in
    let P = posted_by t (expansions b) in
    let known : knows_parent b k ≡ true = sym c.knows_parent.ensures ∙ c.if-not-knows_parent.false in
    let there : position (same_kid k) P ≡ Some c.in-Some.place =
    ap (λ (ks : List Kid). position (same_kid k) ks) (sym c.requires.held.posts.posted) ∙ (sym c.place_of.ensures.place ∙ c.in-Some.is)
    in
    let found = found_at (same_kid k) P c.in-Some.place there in
    let unmarked_kid : is_marked b k ≡ false =
    ap (λ (x : BookState). get_or x.marks (place_of b k) true) (sym c.requires.again)
    ∙ (ap (λ (p : ℕ). get_or s.kids.marks p true) (sym found.1) ∙ (sym c.is_settled.ensures ∙ c.if-is_settled.false))
    in
    fault_is t before kept k
    ∙ sym (late (knows_parent b k) (is_posted b k) (is_marked b k) None known found.0 unmarked_kid)

pub returns-clause-known : goal.returns-clause-known
returns-clause-known c = sym c.knows_parent.ensures ∙ c.if-not-knows_parent.false

pub returns-clause-posted : goal.returns-clause-posted
returns-clause-posted c =
    let s = c.args.self.now in
    let k = c.args.kid in
    let P = posted_by s.expanded.task.now (expansions (state_of s)) in
    let there : position (same_kid k) P ≡ Some c.in-Some.place =
    ap (λ (ks : List Kid). position (same_kid k) ks) (sym c.requires.held.posts.posted) ∙ (sym c.place_of.ensures.place ∙ c.in-Some.is)
    in
    (found_at (same_kid k) P c.in-Some.place there).0

pub returns-clause-unsettled : goal.returns-clause-unsettled
returns-clause-unsettled c =
    let s = c.args.self.now in
    let k = c.args.kid in
    let P = posted_by s.expanded.task.now (expansions (state_of s)) in
    let there : position (same_kid k) P ≡ Some c.in-Some.place =
    ap (λ (ks : List Kid). position (same_kid k) ks) (sym c.requires.held.posts.posted) ∙ (sym c.place_of.ensures.place ∙ c.in-Some.is)
    in
    ap (λ (p : ℕ). get_or s.kids.marks p true) (sym (found_at (same_kid k) P c.in-Some.place there).1) ∙ (sym c.is_settled.ensures ∙ c.if-is_settled.false)

pub returns-clause-place : goal.returns-clause-place
returns-clause-place c =
    let s = c.args.self.now in
    let k = c.args.kid in
    let P = posted_by s.expanded.task.now (expansions (state_of s)) in
    let there : position (same_kid k) P ≡ Some c.in-Some.place =
    ap (λ (ks : List Kid). position (same_kid k) ks) (sym c.requires.held.posts.posted) ∙ (sym c.place_of.ensures.place ∙ c.in-Some.is)
    in
    (found_at (same_kid k) P c.in-Some.place there).1
