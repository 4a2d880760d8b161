use Rattle.std.proofs.Common.{◌≡◌, ℕ, true, false, List, sym, ap, ap₂, ◌∙◌}
use Rattle.std.specs.List.{position_or_len}
use Rattle.std.proofs.lemmas.List.{get_or_default}
use Rattle.hd_task.specs.declared.plan.Kid.{Kid}
use Rattle.hd_tables.specs.Kids.{KidsView, same_kid, with_mark_at}
use Rattle.hd_node.specs.Outcome.{kid_of}
use Rattle.hd_entries.specs.Settling.{place_of}
use Rattle.hd_entries.specs.Holding.{state_with}
use Rattle.hd_entries.proofs.Judging.{found_at, mark_back}
use Rattle.hd_entries.proofs.Unwinding.{unset}
use Rattle.hd_entries.proofs.expanded.ExpandedPlans.reopen_last.Goals as goal

pub returns : goal.returns
returns c = λ before m.
    let x = c.args.self.now in
    let table = c.args.kids.now in
    let os = c.args.outcomes.now in
    let n = c.args.number in
    let o = c.index-outcomes-number.result in
    let k = c.kid.result in
    let place = c.in-Some.place in
    let p : ℕ = place_of (state_with x before.marks) (kid_of m.outcome) in
    let same_outcome : o ≡ m.outcome = c.index-outcomes-number.is ∙ (get_or_default os n o m.outcome m.within ∙ sym m.there) in
    let same : k ≡ kid_of m.outcome = c.kid.ensures ∙ ap kid_of same_outcome in
    let at : place ≡ p =
    (found_at (same_kid k) table.kids place (sym c.in-Some.ensures.place)).1
    ∙ ap₂ (λ (q : Kid) (ks : List Kid). position_or_len (same_kid q) ks) same c.requires.posts.posted
    in
    c.reopen.ensures
    ∙ (ap (λ (t : KidsView). with_mark_at t place false) m.more
    ∙ (ap (λ (i : ℕ). with_mark_at (with_mark_at before p true) i false) at
    ∙ mark_back before p (unset x before table os n m)))
