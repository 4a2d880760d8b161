-- The bound is no greater than the cost of any goal plan of the list, and it is the cost of one of
-- them.
use Rattle.std.proofs.Common.{◌≡◌, ℕ, ◌≤◌, List, [], ◌∷◌, Option, Some, None, Contains, ◌⊎◌, inl, inr, refl, sym, ap, ◌∙◌, subst, arith, min}
use Rattle.std.proofs.lemmas.Bool.{cases_lt}
use Rattle.std.proofs.lemmas.Option.{none-some}
use Rattle.hd_base.proofs.Members.{Contains-first, Contains-later, Contains-cons_cases, Contains-nil}
use Rattle.hd_task.specs.declared.task.Task.{Task}
use Rattle.hd_task.specs.Plans.{exec}
use Rattle.hd_task.specs.Expansions.{lesser, goal_cost, bound_of}

-- ---- costs in order, if none is greater than any

abbrev pub AtMost : Option ℕ → Option ℕ → Type 0
AtMost None None = Unit {0}
AtMost None (Some c) = ⊥
AtMost (Some b) None = Unit {0}
AtMost (Some b) (Some c) = b ≤ c

at_most_itself : (a : Option ℕ) → AtMost a a
at_most_itself None = tt
at_most_itself (Some a) = omega arith

at_most_both : (a b c : Option ℕ) → AtMost a b → AtMost b c → AtMost a c
at_most_both None None c ab bc = bc
at_most_both None (Some b) c ab bc = absurd ab
at_most_both (Some a) b None ab bc = tt
at_most_both (Some a) None (Some c) ab bc = absurd bc
at_most_both (Some a) (Some b) (Some c) ab bc = omega (arith, ab, bc)

-- what is no greater than a cost is one
pub cost_from_at_most : (o : Option ℕ) (c : ℕ) → AtMost o (Some c) → (b : ℕ) × (o ≡ Some b) × (b ≤ c)
cost_from_at_most None c least = absurd least
cost_from_at_most (Some b) c least = (b, refl, least)

-- the lesser of two is no greater than the first
below_first : (a b : Option ℕ) → AtMost (lesser a b) a
below_first None None = tt
below_first None (Some b) = tt
below_first (Some a) None = omega arith
below_first (Some a) (Some b) = omega arith

-- nor than the second
below_second : (a b : Option ℕ) → AtMost (lesser a b) b
below_second None b = at_most_itself b
below_second (Some a) None = tt
below_second (Some a) (Some b) = omega arith

-- and it is one of them
one_of_both : (a b : Option ℕ) → (lesser a b ≡ a) ⊎ (lesser a b ≡ b)
one_of_both None b = inr refl
one_of_both (Some a) None = inl refl
one_of_both (Some a) (Some b) =
    elim (cases_lt b a) [
      | inl lt ↦ let second : min a b ≡ b = omega arith in inr (ap Some second)
      | inr le ↦ let first : min a b ≡ a = omega arith in inl (ap Some first)
    ]

-- ---- the bound

-- it is no greater than what a plan of the list costs where the goal holds
pub bound_at_most : (t : Task) (expanded : List (List ℕ)) (p : List ℕ) → Contains expanded p → AtMost (bound_of t expanded) (goal_cost t (exec t p))
bound_at_most t [] p among = absurd (Contains-nil p among)
bound_at_most t (q ∷ expanded) p among =
    let first = goal_cost t (exec t q) in
    let rest = bound_of t expanded in
    elim (Contains-cons_cases q expanded p among) [
      | inl same ↦ subst (λ (p : List ℕ). AtMost (lesser first rest) (goal_cost t (exec t p))) same (below_first first rest)
      | inr later ↦ at_most_both (lesser first rest) rest (goal_cost t (exec t p)) (below_second first rest) (bound_at_most t expanded p later)
    ]

-- a plan of the list costs just that
abbrev pub IsReached : Task → List (List ℕ) → ℕ → Type 0
IsReached t expanded c = (p : List ℕ) × Contains expanded p × (goal_cost t (exec t p) ≡ Some c)

pub bound_reached : (t : Task) (expanded : List (List ℕ)) (c : ℕ) → bound_of t expanded ≡ Some c → IsReached t expanded c
bound_reached t [] c is = absurd (none-some c is)
bound_reached t (q ∷ expanded) c is =
    elim (one_of_both (goal_cost t (exec t q)) (bound_of t expanded)) [
      | inl first ↦ (q, Contains-first q expanded, sym first ∙ is)
      | inr rest ↦ let later = bound_reached t expanded c (sym rest ∙ is) in (later.0, Contains-later q expanded later.0 later.1, later.2)
    ]
