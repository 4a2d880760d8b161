-- What the tables of levels say of a state: a place is in that of a level just where it costs at
-- most so much, if it is the goal's; so the first level that has the whole goal is the estimate.
use Rattle.std.proofs.Common.{◌≡◌, ℕ, zero, suc, ◌*◌, ◌-◌, ◌<◌, ◌≤◌, Bool, true, false, not, List, [], ◌∷◌, map, length, slice_get, Option, Some, None, Contains, inl, inr, refl, sym, ap, ◌∙◌, subst, arith}
use Rattle.std.specs.List.{list_all, fold}
use Rattle.std.proofs.lemmas.Bool.{true≢false, cases_lt, cases_Bool, le-leb, both_ways}
use Rattle.std.proofs.lemmas.Option.{slice_get-get_or, slice_get_past, slice_get_within, get_or_from_slice_get}
use Rattle.hd_base.proofs.Members.{Contains-map, Contains-nil, IsFrom-from_map}
use Rattle.hd_base.proofs.Tests.{list_all-from_each}
use Rattle.hd_task.specs.declared.state.State.{State}
use Rattle.hd_task.specs.declared.condition.Literal.{Literal}
use Rattle.hd_task.specs.declared.action.Action.{Action}
use Rattle.hd_task.specs.declared.task.Task.{Task}
use Rattle.hd_task.specs.Conditions.{literal_holds}
use Rattle.hd_task.specs.Plans.{IsStateOf}
use Rattle.hd_hmax.specs.Costs.{up_to, greater}
use Rattle.hd_hmax.specs.Prices.{price}
use Rattle.hd_hmax.specs.Rounds.{first_cost, cost_in, dearest, table_after, hmax}
use Rattle.hd_task.specs.Conditions.{literal}
use Rattle.hd_hmax.specs.Rules.{place, place_at, asked_by, asked_of, asked, needs, row}
use Rattle.hd_hmax.specs.Working.{final_value, price_by}
use Rattle.hd_hmax.specs.Lanes.{is_set, has_all, table_of, price_at, IsLane, IsShut, AreLevels}
use Rattle.hd_hmax.proofs.Infinite.{value_up_to}
use Rattle.hd_hmax.proofs.Counts.{each_passes}
use Rattle.hd_hmax.proofs.Tables.{cost_in-own, foreign_after, affords, up_to-dearest, own_if_new, brought_about_if_new}
use Rattle.hd_hmax.proofs.Falling.{closed}
use Rattle.hd_hmax.proofs.Places.{near_own, near_foreign, value_at-place, needs-below}
use Rattle.hd_hmax.proofs.Cheapest.{BringRight, slice_get_there, free_literal, none_finite, asked_afforded}
use Rattle.hd_hmax.proofs.Starting.{none_lacking}

asked_contains : (n : ℕ) (ls : List Literal) (l : Literal) → Contains ls l → Contains (asked_of n ls) l
asked_contains n [] l m = absurd (Contains-nil l m)
asked_contains n (x ∷ ls) l m = m

needed : (t : Task) (q : ℕ) (l : Literal) → Contains (asked t q) l → Contains (needs t q) (place (length t.atoms) l)
unfolding needs
needed t q l m = Contains-map (place (length t.atoms)) (asked t q) l m

module _ (t : Task) (s : State) where
  -- where the literals of a rule are affordable, so is what it needs
  needs_each : (q k c : ℕ) (ls : List Literal) (T : ℕ → Bool) → asked t q ≡ asked_of (length t.atoms) ls → list_all (affords t s k c) ls ≡ true
      → ((l : Literal) → Contains (needs t q) (place (length t.atoms) l) → affords t s k c l ≡ true → T (place (length t.atoms) l) ≡ true) → list_all T (needs t q) ≡ true
  unfolding needs
  needs_each q k c ls T asks all step =
      list_all-from_each T (map (place (length t.atoms)) (asked t q))
      (λ p m.
      let from = IsFrom-from_map (place (length t.atoms)) (asked t q) p m in
      subst (λ x. T x ≡ true) from.is
      (step from.source (Contains-map (place (length t.atoms)) (asked t q) from.source from.among)
      (each_passes (affords t s k c) (asked_of (length t.atoms) ls) from.source (asked_afforded t s k c ls all) (subst (λ xs. Contains xs from.source) asks from.among))))

  -- and back
  literals_each : (q c : ℕ) (ls : List Literal) → asked t q ≡ asked_of (length t.atoms) ls → list_all (λ p. up_to c (final_value t s p)) (needs t q) ≡ true → list_all (affords t s (2 * length t.atoms) c) ls ≡ true
  literals_each q c ls asks all =
      list_all-from_each (affords t s (2 * length t.atoms) c) ls
      (λ l m.
      ap (up_to c) (sym (value_at-place t s l))
      ∙ each_passes (λ p. up_to c (final_value t s p)) (needs t q) (place (length t.atoms) l) all
      (needed t q l (subst (λ xs. Contains xs l) (sym asks) (asked_contains (length t.atoms) ls l m))))

  asks_of : (q : ℕ) (a : Action) → slice_get t.actions q ≡ Some a → asked t q ≡ asked_of (length t.atoms) a.condition.literals
  asks_of q a is = ap (λ o. asked_of (length t.atoms) (asked_by t o)) is

  asks_goal : asked t (length t.actions) ≡ asked_of (length t.atoms) t.goal.literals
  asks_goal = ap (λ o. asked_of (length t.atoms) (asked_by t o)) (slice_get_past t.actions (length t.actions) (omega arith))

  goal_up_to : (c : ℕ) → up_to c (hmax t s) ≡ list_all (affords t s (2 * length t.atoms) c) t.goal.literals
  unfolding hmax
  goal_up_to c = up_to-dearest c (table_after t s (2 * length t.atoms)) t.goal.literals

  module _ (brings : List (List ℕ)) (right : BringRight t brings) where
    -- what an action brings about costs no more than its price and what it needs
    pub sound_rule : (q c p : ℕ) → q < length t.actions → price_at t q ≤ c → list_all (λ m. up_to (c - price_at t q) (final_value t s m)) (needs t q) ≡ true → Contains (row brings q) p → up_to c (final_value t s p) ≡ true
    sound_rule q c p inside cheap all m =
        let a = slice_get_there t.actions q inside in
        let of = right.only q a.0 p a.1 m in
        let paid : price_at t q ≡ price t a.0 = ap (price_by t) a.1 in
        ap (λ x. up_to c (final_value t s x)) of.1
        ∙ (ap (up_to c) (value_at-place t s of.0)
        ∙ closed t s c of.0 of.2
        (record {
          action = a.0;
          among = (q, slice_get_within t.actions q a.0 a.1, get_or_from_slice_get t.actions q a.0 a.0 a.1);
          brings = of.3;
          cheap = omega (arith, paid, cheap);
          needs = subst (λ x. list_all (affords t s (2 * length t.atoms) (c - x)) a.0.condition.literals ≡ true) paid (literals_each q (c - price_at t q) a.0.condition.literals (asks_of q a.0 a.1) all);
        }))

    -- tables that have what is true, and what actions bring about, have all that a rule needs and
    -- that costs at most so much
    module _ (of : IsStateOf t s) (d : ℕ) (T : ℕ → ℕ → Bool)
        (starts : (c : ℕ) (b : Bool) (i : ℕ) → c ≤ d → i ≤ length t.atoms → literal_holds s (literal b i) ≡ true → T c (place_at (length t.atoms) b i) ≡ true)
        (shut : (c q p : ℕ) → c ≤ d → q < length t.actions → price_at t q ≤ c → list_all (T (c - price_at t q)) (needs t q) ≡ true → Contains (row brings q) p → T c p ≡ true) where
      foreign : (b : Bool) (i k c : ℕ) → c ≤ d → length t.atoms ≤ i → affords t s k c (literal b i) ≡ true → T c (place (length t.atoms) (literal b i)) ≡ true
      foreign true i k c low far e = absurd (true≢false (sym (sym (ap (up_to c) (foreign_after t s k (literal true i) far)) ∙ e)))
      foreign false i k c low far e =
          ap (λ j. T c (place_at (length t.atoms) false j)) (near_foreign (length t.atoms) i far)
          ∙ starts c false (length t.atoms) low (omega arith) (ap not (none_lacking t s of))

      pub complete : (k c : ℕ) (l : Literal) (r : ℕ) → c ≤ d → r ≤ length t.actions → Contains (needs t r) (place (length t.atoms) l) → affords t s k c l ≡ true → T c (place (length t.atoms) l) ≡ true
      complete zero c l r low known need e =
          elim (cases_lt l.atom (length t.atoms)) [
            | inl own ↦
                ap (λ j. T c (place_at (length t.atoms) l.positive j)) (near_own (length t.atoms) l.atom own)
                ∙ starts c l.positive l.atom low (omega (arith, own)) (free_literal (literal_holds s l) c (sym (ap (up_to c) (cost_in-own (length t.atoms) (first_cost s) l own)) ∙ e))
            | inr far ↦ foreign l.positive l.atom 0 c low far e
          ]
      complete (suc k) c l r low known need e =
          elim (cases_Bool (affords t s k c l)) [
            | inl before ↦ complete k c l r low known need before
            | inr new ↦
                let by = brought_about_if_new t s k c l e new in
                let own = own_if_new t s k c l e new in
                let q = by.among.0 in
                let inside : q < length t.actions = by.among.1 in
                let is : slice_get t.actions q ≡ Some by.action = slice_get-get_or t.actions q by.action by.among.1 ∙ ap Some by.among.2 in
                let paid : price_at t q ≡ price t by.action = ap (price_by t) is in
                let rest = c - price t by.action in
                let each : list_all (T rest) (needs t q) ≡ true =
                needs_each q k rest by.action.condition.literals (T rest) (asks_of q by.action is) by.needs
                (λ x m f. complete k rest x q (omega (arith, low)) (omega (arith, inside)) m f)
                in
                shut c q (place (length t.atoms) l) low inside (let h = by.cheap in omega (arith, paid, h)) (subst (λ x. list_all (T (c - x)) (needs t q) ≡ true) (sym paid) each) (right.all q by.action l is own by.brings r known need)
          ]

      -- so they have the goal, where that costs at most so much
      pub has_goal : (c : ℕ) → c ≤ d → up_to c (hmax t s) ≡ true → list_all (T c) (needs t (length t.actions)) ≡ true
      has_goal c low e =
          needs_each (length t.actions) (2 * length t.atoms) c t.goal.literals (T c) asks_goal (sym (goal_up_to c) ∙ e)
          (λ x m f. complete (2 * length t.atoms) c x (length t.actions) low (omega arith) m f)

-- the same answer both ways
same_from_both : (a b : Bool) → (a ≡ true → b ≡ true) → (b ≡ true → a ≡ true) → a ≡ b
same_from_both true b there back = sym (there refl)
same_from_both false true there back = back refl
same_from_both false false there back = refl

own_value : (h : Option ℕ) (v : ℕ) → h ≡ Some v → up_to v h ≡ true
own_value h v e = ap (up_to v) e ∙ le-leb v v (omega arith)

-- the least number that a cost does not exceed is the cost
pub least_level : (h : Option ℕ) (level : ℕ) → up_to level h ≡ true → ((c : ℕ) → c < level → up_to c h ≡ false) → h ≡ Some level
least_level h level up above =
    let v = value_up_to level h up in
    let low = v.2 in
    elim (cases_lt v.0 level) [
      | inl less ↦ absurd (both_ways (up_to v.0 h) (above v.0 less) (own_value h v.0 v.1))
      | inr more ↦ let same : v.0 ≡ level = omega (arith, low, more) in v.1 ∙ ap Some same
    ]

module _ (t : Task) (brings : List (List ℕ)) (right : BringRight t brings) (first : List ℕ) (upto : ℕ) (tables : List (List ℕ)) (last : List ℕ) (levels : AreLevels t brings first upto tables last)
    (s : State) (j : ℕ) (of : IsStateOf t s) (lane : IsLane t s first j) (within : j < 64) where
  -- the lane of a level has the goal just where that costs at most so much
  pub goal_at : (c : ℕ) → c < upto → up_to c (hmax t s) ≡ has_all (table_of tables c) j (needs t (length t.actions))
  goal_at c low =
      same_from_both (up_to c (hmax t s)) (has_all (table_of tables c) j (needs t (length t.actions)))
      (λ e.
      has_goal t s brings right of c (λ c p. is_set (table_of tables c) p j)
      (λ x b i h k f. levels.grown x (place_at (length t.atoms) b i) j (omega (arith, low, h)) within (lane b i k ∙ f))
      (λ x q p h inside cheap all m. levels.shut x q j (omega (arith, low, h)) within inside cheap all p m)
      c (omega arith) e)
      (λ e.
      goal_up_to t s c
      ∙ literals_each t s (length t.actions) c t.goal.literals (asks_goal t s)
      (list_all-from_each (λ p. up_to c (final_value t s p)) (needs t (length t.actions))
      (λ p m. levels.sound s j c within of lane low p (needs-below t (length t.actions) p m) (each_passes (λ p. is_set (table_of tables c) p j) (needs t (length t.actions)) p e m))))

  -- where no action brings anything more about, what the lane lacks is out of reach
  pub dead_lane : ((q : ℕ) → q < length t.actions → IsShut t brings q last last j) → has_all last j (needs t (length t.actions)) ≡ false → hmax t s ≡ None
  dead_lane stuck missing =
      none_finite (hmax t s)
      (λ v e.
      both_ways (has_all last j (needs t (length t.actions))) missing
      (has_goal t s brings right of v (λ c p. is_set last p j)
      (λ x b i h k f. levels.last_grown (place_at (length t.atoms) b i) j within (lane b i k ∙ f))
      (λ x q p h inside cheap all m. stuck q inside all p m)
      v (omega arith) (own_value (hmax t s) v e)))

-- no literals cost nothing
pub no_goal : (t : Task) (s : State) → t.goal.literals ≡ [] → hmax t s ≡ Some 0
unfolding hmax dearest
no_goal t s none = ap (fold (λ c l. greater c (cost_in (table_after t s (2 * length t.atoms)) l)) (Some 0)) none

pub no_literals : (ls : List Literal) → length ls ≡ 0 → ls ≡ []
no_literals [] e = refl
no_literals (x ∷ xs) e = absurd (omega (arith, e))

pub from_not : (b : Bool) → not b ≡ false → b ≡ true
from_not true e = refl
from_not false e = absurd (true≢false e)
