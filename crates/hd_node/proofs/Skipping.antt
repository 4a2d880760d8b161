-- Actions that are no candidates find nothing, so that they are passed over.
use Rattle.std.proofs.Common.{◌≡◌, ℕ, zero, suc, ◌+◌, ◌-◌, ◌≤◌, ◌<◌, false, List, [], ◌++◌, length, Option, Some, None, ap, ◌∙◌, arith, append-nil}
use Rattle.std.specs.Option.{option_to_list}
use Rattle.std.specs.Prelude.{find, nat_le}
use Rattle.hd_task.specs.declared.task.Task.{Task}
use Rattle.hd_task.specs.declared.departure.DepartsBy.{DepartsBy}
use Rattle.hd_task.specs.Plans.{Node}
use Rattle.hd_successors.specs.declared.watching.WatchedAtoms.{WatchedAtoms}
use Rattle.hd_successors.specs.Watching.{IsWatchedBy, is_candidate, candidates}
use Rattle.hd_successors.proofs.Judging.{none_applies, none_departs, first_candidate, no_candidate}
use Rattle.hd_node.specs.Children.{ChildView, child_at, departing_by}
use Rattle.hd_node.proofs.Finding.{stops, stays, children_more, children_below, found_below, found_more}

-- what is found below a number is found below another
pub record FindsAlike (t : Task) (r : Node) (from n : ℕ) : Type 0 where
  pub children : children_below t r n ≡ children_below t r from
  pub found : found_below t r n ≡ found_below t r from

module _ (t : Task) (r : Node) (ws : List WatchedAtoms) (watched : IsWatchedBy t.actions ws) where
  -- an action that is no candidate adds nothing
  nothing_more : (n : ℕ) → is_candidate ws r.state n ≡ false → FindsAlike t r n (n + 1)
  nothing_more n none =
      let child : child_at t r n ≡ None = stops t r n (none_applies t ws r n watched none) in
      let departs : departing_by t r n ≡ [] = stays t r n (none_departs t ws r n watched none) in
      record {
        children = children_more t r n
            ∙ (ap (λ (o : Option ChildView). children_below t r n ++ option_to_list o) child ∙ append-nil (children_below t r n));
        found = found_more t r n
            ∙ (ap (λ (ds : List DepartsBy). found_below t r n ++ ds) departs ∙ append-nil (found_below t r n));
      }

  skipped_by : (k from n : ℕ) → n ≡ from + k → ((m : ℕ) → from ≤ m → m < n → is_candidate ws r.state m ≡ false) → FindsAlike t r from n
  skipped_by zero from n e none =
      let same : n ≡ from = omega (arith, e) in
      record { children = ap (children_below t r) same; found = ap (found_below t r) same }
  skipped_by (suc k) from n e none =
      let next : n ≡ (from + k) + 1 = omega (arith, e) in
      let before = skipped_by k from (from + k) (omega arith) (λ m le lt. none m le (omega (arith, lt, next))) in
      let last = nothing_more (from + k) (none (from + k) (omega arith) (omega (arith, next))) in
      record {
        children = ap (children_below t r) next ∙ (last.children ∙ before.children);
        found = ap (found_below t r) next ∙ (last.found ∙ before.found);
      }

  -- from a number up to the first candidate from there on, which is an action's
  pub to_first : (from n : ℕ) → find (nat_le from) (candidates ws r.state) ≡ Some n → FindsAlike t r from n × (from ≤ n) × (n < length t.actions)
  to_first from n is =
      let first = first_candidate ws r.state from n is in
      let le : from ≤ n = first.0 in
      let many = watched.each_action in
      (skipped_by (n - from) from n (omega (arith, le)) first.2, le, omega (arith, first.1, many))

  -- from a number up to the end, if there is no candidate from there on
  pub to_end : (from : ℕ) → find (nat_le from) (candidates ws r.state) ≡ None → from ≤ length t.actions → FindsAlike t r from (length t.actions)
  to_end from is le = skipped_by (length t.actions - from) from (length t.actions) (omega (arith, le)) (λ m after lt. no_candidate ws r.state from m is after)
