-- The places of literals: what the literal of a place costs is what the literal does whose place it
-- is.
use Rattle.std.proofs.Common.{◌≡◌, ℕ, zero, suc, ◌+◌, ◌*◌, ◌-◌, ◌<◌, ◌≤◌, Bool, true, false, cond, List, [], ◌∷◌, ◌++◌, map, length, get_or, slice_get, Option, Some, None, Contains, inl, inr, refl, sym, ap, ◌∙◌, arith}
use Rattle.std.specs.List.{fold}
use Rattle.std.proofs.lemmas.Bool.{cases_lt, le-leb, lt-leb, lt-ltb, le-ltb}
use Rattle.std.proofs.lemmas.Option.{slice_get_past}
use Rattle.hd_base.proofs.Members.{IsFrom-from_map}
use Rattle.hd_task.specs.declared.state.State.{State}
use Rattle.hd_task.specs.declared.condition.Literal.{Literal}
use Rattle.hd_task.specs.declared.action.Action.{Action}
use Rattle.hd_task.specs.declared.task.Task.{Task}
use Rattle.hd_hmax.specs.Costs.{greater, plus_price}
use Rattle.hd_hmax.specs.Prices.{price}
use Rattle.hd_hmax.specs.Rounds.{cost_in, table_after, dearest, cost_by, hmax}
use Rattle.hd_task.specs.Conditions.{literal}
use Rattle.hd_hmax.specs.Rules.{places, near, place, place_at, literal_at, asked_by, asked_of, asked, needs}
use Rattle.hd_hmax.specs.Working.{final_value, dearest_at, price_by, rule_cost}
use Rattle.hd_hmax.proofs.Tables.{foreign_after}

-- ---- places

pub near_own : (n i : ℕ) → i < n → near n i ≡ i
near_own n i h = ap (λ b. cond b i n) (lt-ltb i n h)

pub near_foreign : (n i : ℕ) → n ≤ i → near n i ≡ n
near_foreign n i h = ap (λ b. cond b i n) (le-ltb i n h)

pub near-le : (n i : ℕ) → near n i ≤ n
near-le n i =
    elim (cases_lt i n) [
      | inl own ↦ let e = near_own n i own in omega (arith, e, own)
      | inr foreign ↦ let e = near_foreign n i foreign in omega (arith, e)
    ]

pub place_at_below : (n : ℕ) (b : Bool) (i : ℕ) → i ≤ n → place_at n b i < places n
place_at_below n true i h = omega (arith, h)
place_at_below n false i h = omega (arith, h)

pub place_below : (n : ℕ) (l : Literal) → place n l < places n
place_below n l = place_at_below n l.positive (near n l.atom) (near-le n l.atom)

pub literal_at-place_at : (n : ℕ) (b : Bool) (i : ℕ) → i ≤ n → literal_at n (place_at n b i) ≡ literal b i
literal_at-place_at n true i h = ap (λ b. cond b (literal true i) (literal false (i - (n + 1)))) (le-leb i n h)
literal_at-place_at n false i h =
    let there : n + 1 + i - (n + 1) ≡ i = omega arith in
    ap (λ b. cond b (literal true (n + 1 + i)) (literal false (n + 1 + i - (n + 1)))) (lt-leb (n + 1 + i) n (omega arith)) ∙ ap (literal false) there

-- ---- what they cost

module _ (t : Task) (s : State) where
  near_cost : (k : ℕ) (b : Bool) (i : ℕ) → cost_in (table_after t s k) (literal b (near (length t.atoms) i)) ≡ cost_in (table_after t s k) (literal b i)
  near_cost k b i =
      elim (cases_lt i (length t.atoms)) [
        | inl own ↦ ap (λ j. cost_in (table_after t s k) (literal b j)) (near_own (length t.atoms) i own)
        | inr foreign ↦
            ap (λ j. cost_in (table_after t s k) (literal b j)) (near_foreign (length t.atoms) i foreign)
            ∙ (foreign_after t s k (literal b (length t.atoms)) (omega arith) ∙ sym (foreign_after t s k (literal b i) foreign))
      ]

  pub value_at-place : (l : Literal) → final_value t s (place (length t.atoms) l) ≡ cost_in (table_after t s (2 * length t.atoms)) l
  value_at-place l =
      ap (cost_in (table_after t s (2 * length t.atoms))) (literal_at-place_at (length t.atoms) l.positive (near (length t.atoms) l.atom) (near-le (length t.atoms) l.atom))
      ∙ near_cost (2 * length t.atoms) l.positive l.atom

  dearest_from : (c : Option ℕ) (ls : List Literal) → fold (λ c p. greater c (final_value t s p)) c (map (place (length t.atoms)) ls) ≡ fold (λ c l. greater c (cost_in (table_after t s (2 * length t.atoms)) l)) c ls
  dearest_from c [] = refl
  dearest_from c (l ∷ ls) =
      ap (λ v. fold (λ c p. greater c (final_value t s p)) (greater c v) (map (place (length t.atoms)) ls)) (value_at-place l)
      ∙ dearest_from (greater c (cost_in (table_after t s (2 * length t.atoms)) l)) ls

  -- a rule that asks for nothing asks for what costs nothing
  dearest_asked : (ls : List Literal) → dearest (table_after t s (2 * length t.atoms)) (asked_of (length t.atoms) ls) ≡ dearest (table_after t s (2 * length t.atoms)) ls
  unfolding dearest
  dearest_asked [] = ap (greater (Some 0)) (foreign_after t s (2 * length t.atoms) (literal false (length t.atoms)) (omega arith))
  dearest_asked (l ∷ ls) = refl

  cost_of_asked : (o : Option Action) → plus_price (price_by t o) (dearest_at t s (map (place (length t.atoms)) (asked_of (length t.atoms) (asked_by t o)))) ≡ plus_price (price_by t o) (dearest (table_after t s (2 * length t.atoms)) (asked_by t o))
  unfolding dearest
  cost_of_asked o =
      ap (plus_price (price_by t o)) (dearest_from (Some 0) (asked_of (length t.atoms) (asked_by t o)) ∙ dearest_asked (asked_by t o))

  pub rule_cost-literals : (r : ℕ) → rule_cost t s r ≡ plus_price (price_by t (slice_get t.actions r)) (dearest (table_after t s (2 * length t.atoms)) (asked_by t (slice_get t.actions r)))
  unfolding rule_cost needs
  rule_cost-literals r = cost_of_asked (slice_get t.actions r)

  -- the rule of an action costs what the action does
  pub rule_cost-action : (r : ℕ) (a : Action) → slice_get t.actions r ≡ Some a → rule_cost t s r ≡ cost_by t (table_after t s (2 * length t.atoms)) a
  unfolding cost_by
  rule_cost-action r a is =
      rule_cost-literals r
      ∙ ap (λ o. plus_price (price_by t o) (dearest (table_after t s (2 * length t.atoms)) (asked_by t o))) is

  nothing_more : (o : Option ℕ) → plus_price 0 o ≡ o
  nothing_more None = refl
  nothing_more (Some v) = let e : 0 + v ≡ v = omega arith in ap Some e

  -- that of the goal is the estimate
  pub rule_cost-goal : rule_cost t s (length t.actions) ≡ hmax t s
  unfolding hmax
  rule_cost-goal =
      rule_cost-literals (length t.actions)
      ∙ (ap (λ o. plus_price (price_by t o) (dearest (table_after t s (2 * length t.atoms)) (asked_by t o))) (slice_get_past t.actions (length t.actions) (omega arith))
      ∙ nothing_more (dearest (table_after t s (2 * length t.atoms)) t.goal.literals))

-- the places that rules need are there
pub needs-below : (t : Task) (r p : ℕ) → Contains (needs t r) p → p < places (length t.atoms)
unfolding needs
needs-below t r p m =
    let from = IsFrom-from_map (place (length t.atoms)) (asked t r) p m in
    let h = place_below (length t.atoms) from.source in
    let e = from.is in
    omega (arith, h, e)

-- ---- prices

-- the prices that are kept are those of the rules
pub price_there : (t : Task) (actions : List Action) (r : ℕ) → get_or (map (price t) actions ++ 0 ∷ []) r 0 ≡ price_by t (slice_get actions r)
price_there t [] zero = refl
price_there t [] (suc r) = refl
price_there t (a ∷ actions) zero = refl
price_there t (a ∷ actions) (suc r) = price_there t actions r

pub price_listed : (t : Task) (actions : List Action) (r : ℕ) → get_or (map (price t) actions) r 0 ≡ price_by t (slice_get actions r)
price_listed t [] r = refl
price_listed t (a ∷ actions) zero = refl
price_listed t (a ∷ actions) (suc r) = price_listed t actions r
