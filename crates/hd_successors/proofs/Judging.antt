-- An action that is no candidate does nothing.
use Rattle.std.proofs.Common.{◌≡◌, ℕ, ◌<◌, ◌≤◌, ◌==◌, ◌&&◌, not, true, false, List, [], ◌∷◌, length, slice_get, inl, inr, refl, sym, ap, ap₂, ◌∙◌, arith, true≢false}
use Rattle.std.specs.Prelude.{Some, None, is_some, find, nat_le}
use Rattle.std.specs.List.{list_any, list_all}
use Rattle.std.proofs.lemmas.Bool.{and_parts, and_left, or_cases, or_from, cond-true, cond-false, cases_lt, eqb-true, both_ways, false_from_ne_true}
use Rattle.std.proofs.lemmas.Option.{none-some, slice_get_within, slice_get_past, slice_get-get_or}
use Rattle.hd_task.specs.declared.state.State.{State}
use Rattle.hd_task.specs.declared.condition.Literal.{Literal}
use Rattle.hd_task.specs.declared.action.Action.{Action}
use Rattle.hd_task.specs.declared.task.Task.{Task}
use Rattle.hd_task.specs.Conditions.{has_atom, literal_holds, literals_hold, comparisons_hold, comparisons_stay, holds, condition_departs}
use Rattle.hd_task.specs.Effects.{effects_stay, step_cost}
use Rattle.hd_task.specs.Plans.{Node, after_step, step, step_of, step_by}
use Rattle.hd_task.specs.Departures.{cost_stays, departs_by, action_departs}
use Rattle.hd_task.specs.Expansions.{is_applicable}
use Rattle.hd_successors.specs.declared.watching.WatchedAtoms.{WatchedAtoms}
use Rattle.hd_successors.specs.declared.watching.WatchedAtoms.TheVariants.{Always, Atoms}
use Rattle.hd_successors.specs.Watching.{is_for, asks_for, IsWatchedBy, is_seen, is_candidate, candidates}
use Rattle.hd_successors.proofs.Tests.{found_within, none_before_found, none_where_none_found}

-- ---- where the literals hold

positive_holds : (s : State) (l : Literal) (i : ℕ) → is_for i l ≡ true → literal_holds s l ≡ true → has_atom s i ≡ true
positive_holds s l i is h =
    let parts = and_parts l.positive (l.atom == i) is in
    ap (has_atom s) (sym (eqb-true l.atom i parts.1))
    ∙ (sym (cond-true l.positive (has_atom s l.atom) (not (has_atom s l.atom)) parts.0) ∙ h)

atom_holds : (s : State) (i : ℕ) (ls : List Literal) → list_any (is_for i) ls ≡ true → list_all (literal_holds s) ls ≡ true → has_atom s i ≡ true
atom_holds s i [] is h = absurd (true≢false (sym is))
atom_holds s i (l ∷ ls) is h =
    let parts = and_parts (literal_holds s l) (list_all (literal_holds s) ls) h in
    elim (or_cases (is_for i l) (list_any (is_for i) ls) is) [
      | inl here ↦ positive_holds s l i here parts.0
      | inr there ↦ atom_holds s i ls there parts.1
    ]

seen_where_asked : (s : State) (ls : List Literal) (w : WatchedAtoms) → asks_for ls w ≡ true → list_all (literal_holds s) ls ≡ true → is_seen s (Some w) ≡ true
seen_where_asked s ls Always is h = refl
seen_where_asked s ls (Atoms i j) is h =
    let parts = and_parts (list_any (is_for i) ls) (list_any (is_for j) ls) is in
    ap₂ (λ x y. x && y) (atom_holds s i ls parts.0 h) (atom_holds s j ls parts.1 h)

pub candidate_where_held :
    (t : Task) (ws : List WatchedAtoms) (s : State) (n : ℕ) (a : Action) → IsWatchedBy t.actions ws → slice_get t.actions n ≡ Some a
    → literals_hold s a.condition ≡ true → is_candidate ws s n ≡ true
candidate_where_held t ws s n a watched is h =
    let lits = (and_parts (not a.condition.never) (list_all (literal_holds s) a.condition.literals) h).1 in
    let lt = slice_get_within t.actions n a is in
    let size = watched.each_action in
    elim (slice_get ws n) as (λ o. slice_get ws n ≡ o → is_seen s o ≡ true) [
      | None ↦ λ none. absurd (none-some _ (sym none ∙ slice_get-get_or ws n Always (omega (arith, lt, size))))
      | Some w ↦ λ some. seen_where_asked s a.condition.literals w (watched.asked_for n a w is some) lits
    ] refl

failing : (t : Task) (ws : List WatchedAtoms) (s : State) (n : ℕ) (a : Action) → IsWatchedBy t.actions ws → slice_get t.actions n ≡ Some a → is_candidate ws s n ≡ false → literals_hold s a.condition ≡ false
failing t ws s n a watched is none =
    false_from_ne_true (literals_hold s a.condition) (λ h. both_ways (is_candidate ws s n) none (candidate_where_held t ws s n a watched is h))

-- ---- where they do not

no_step : (t : Task) (r : Node) (a : Action) → literals_hold r.state a.condition ≡ false → step t r a ≡ None
unfolding step holds
no_step t r a e =
    cond-false (literals_hold r.state a.condition && comparisons_hold r.state a.condition) (after_step t r a (step_cost t r.state a)) None
    (and_left (literals_hold r.state a.condition) (comparisons_hold r.state a.condition) e)

no_departure : (t : Task) (r : Node) (a : Action) → literals_hold r.state a.condition ≡ false → departs_by t r (Some a) ≡ false
unfolding holds condition_departs
no_departure t r a e =
    or_from (literals_hold r.state a.condition && not (comparisons_stay r.state a.condition)) ((literals_hold r.state a.condition && comparisons_hold r.state a.condition) && not (effects_stay r.state a && cost_stays (step t r a)))
    (and_left (literals_hold r.state a.condition) (not (comparisons_stay r.state a.condition)) e)
    (and_left (literals_hold r.state a.condition && comparisons_hold r.state a.condition) (not (effects_stay r.state a && cost_stays (step t r a)))
    (and_left (literals_hold r.state a.condition) (comparisons_hold r.state a.condition) e))

pub none_applies : (t : Task) (ws : List WatchedAtoms) (r : Node) (n : ℕ) → IsWatchedBy t.actions ws → is_candidate ws r.state n ≡ false → is_applicable t (Some r) n ≡ false
unfolding step_by
none_applies t ws r n watched none =
    and_left (is_some (step_of t r (slice_get t.actions n))) (not (action_departs t r n))
    (elim (slice_get t.actions n) as (λ o. slice_get t.actions n ≡ o → is_some (step_of t r o) ≡ false) [
      | None ↦ λ _. refl
      | Some a ↦ λ is. ap is_some (no_step t r a (failing t ws r.state n a watched is none))
    ] refl)

pub none_departs : (t : Task) (ws : List WatchedAtoms) (r : Node) (n : ℕ) → IsWatchedBy t.actions ws → is_candidate ws r.state n ≡ false → action_departs t r n ≡ false
unfolding action_departs
none_departs t ws r n watched none =
    elim (slice_get t.actions n) as (λ o. slice_get t.actions n ≡ o → departs_by t r o ≡ false) [
      | None ↦ λ _. refl
      | Some a ↦ λ is. no_departure t r a (failing t ws r.state n a watched is none)
    ] refl

-- ---- the first candidate

pub first_candidate :
    (ws : List WatchedAtoms) (s : State) (from n : ℕ) → find (nat_le from) (candidates ws s) ≡ Some n
    → (from ≤ n) × (n < length ws) × ((m : ℕ) → from ≤ m → m < n → is_candidate ws s m ≡ false)
unfolding candidates
first_candidate ws s from n e =
    let h = found_within (is_candidate ws s) (length ws) 0 from n e in
    (h.0, (let lt = h.1 in omega (arith, lt)), λ m far lt. none_before_found (is_candidate ws s) (length ws) 0 from n m e (omega arith) far lt)

pub no_candidate : (ws : List WatchedAtoms) (s : State) (from m : ℕ) → find (nat_le from) (candidates ws s) ≡ None → from ≤ m → is_candidate ws s m ≡ false
unfolding candidates
no_candidate ws s from m e far =
    elim (cases_lt m (length ws)) [
      | inl lt ↦ none_where_none_found (is_candidate ws s) (length ws) from m e far lt
      | inr le ↦ ap (is_seen s) (slice_get_past ws m le)
    ]
