-- Each plan of a legal list goes through: its steps are applicable, one after the other.
use Rattle.std.proofs.Common.{◌≡◌, ℕ, zero, suc, ◌+◌, ◌<◌, true, Option, Some, List, [], ◌∷◌, ◌++◌, take, length, get_or, Contains, inl, inr, refl, sym, ap, ◌∙◌, subst, arith, option_and_then}
use Rattle.std.specs.Prelude.{flat_map}
use Rattle.std.proofs.lemmas.Bool.{cases_lt, and_from, and_parts}
use Rattle.std.proofs.lemmas.List.{take_more, take_all}
use Rattle.std.proofs.lemmas.List.Elements.{Contains-append_cases}
use Rattle.hd_base.proofs.Members.{Contains-first, Contains-later, Contains-cons_cases, Contains-nil, IsFrom-from_map, passes-from_filter}
use Rattle.hd_task.specs.declared.task.Task.{Task}
use Rattle.hd_task.specs.Effects.{numbers_below}
use Rattle.hd_task.specs.Plans.{Node, start, step_by, exec, exec_from}
use Rattle.hd_task.specs.Expansions.{is_applicable, applicable_at, followed_by, children, IsNext, IsLegal}
use Rattle.hplan.specs.PlanText.{goes_from, goes_through}

-- one more applicable step
goes-push : (t : Task) (r : Option Node) (p : List ℕ) (n : ℕ) → goes_from t r p ≡ true → is_applicable t (exec_from t r p) n ≡ true → goes_from t r (p ++ n ∷ []) ≡ true
goes-push t r [] n through applicable = and_from (is_applicable t r n) true applicable refl
goes-push t r (m ∷ p) n through applicable =
    let after = option_and_then (λ (q : Node). step_by t q m) r in
    let k = and_parts (is_applicable t r m) (goes_from t after p) through in
    and_from (is_applicable t r m) (goes_from t after (p ++ n ∷ [])) k.0 (goes-push t after p n k.1 applicable)

child_goes : (t : Task) (q p : List ℕ) → goes_through t q ≡ true → Contains (children t q) p → goes_through t p ≡ true
unfolding applicable_at
child_goes t q p through child =
    let k = IsFrom-from_map (followed_by q) (applicable_at t (exec t q)) p child in
    let applicable : is_applicable t (exec t q) k.source ≡ true =
    passes-from_filter (is_applicable t (exec t q)) (numbers_below (length t.actions)) k.source k.among in
    subst (λ (x : List ℕ). goes_through t x ≡ true) k.is (goes-push t (Some (start t)) q k.source through applicable)

-- what children of plans that go through are
children_go :
    (t : Task) (expanded : List (List ℕ)) (p : List ℕ)
    → ((q : List ℕ) → Contains expanded q → goes_through t q ≡ true) → Contains (flat_map (children t) expanded) p → goes_through t p ≡ true
children_go t [] p through child = absurd (Contains-nil p child)
children_go t (q ∷ expanded) p through child =
    elim (Contains-append_cases (children t q) (flat_map (children t) expanded) p child) [
      | inl c ↦ child_goes t q p (through q (Contains-first q expanded)) c
      | inr c ↦ children_go t expanded p (λ (x : List ℕ) (k : Contains expanded x). through x (Contains-later q expanded x k)) c
    ]

next_goes :
    (t : Task) (expanded : List (List ℕ)) (p : List ℕ)
    → ((q : List ℕ) → Contains expanded q → goes_through t q ≡ true) → IsNext t expanded p → goes_through t p ≡ true
next_goes t expanded p through next =
    elim (Contains-cons_cases [] (flat_map (children t) expanded) p next.generated_before) [
      | inl e ↦ subst (λ (x : List ℕ). goes_through t x ≡ true) e refl
      | inr c ↦ children_go t expanded p through c
    ]

one_more :
    (t : Task) (expanded : List (List ℕ)) (m : ℕ) → IsLegal t expanded
    → ((q : List ℕ) → Contains (take m expanded) q → goes_through t q ≡ true)
    → (m < length expanded) → (p : List ℕ) → Contains (take m expanded ++ get_or expanded m [] ∷ []) p → goes_through t p ≡ true
one_more t expanded m legal through within p among =
    elim (Contains-append_cases (take m expanded) (get_or expanded m [] ∷ []) p among) [
      | inl c ↦ through p c
      | inr c ↦
          elim (Contains-cons_cases (get_or expanded m []) [] p c) [
            | inl e ↦ subst (λ (x : List ℕ). goes_through t x ≡ true) e (next_goes t (take m expanded) (get_or expanded m []) through (legal m [] within))
            | inr c ↦ absurd (Contains-nil p c)
          ]
    ]

all_go : (t : Task) (expanded : List (List ℕ)) (m : ℕ) → IsLegal t expanded → (p : List ℕ) → Contains (take m expanded) p → goes_through t p ≡ true
all_go t expanded zero legal p among = absurd (Contains-nil p among)
all_go t expanded (suc m) legal p among =
    let next : suc m ≡ m + 1 = omega arith in
    elim (cases_lt m (length expanded)) [
      | inl within ↦
          one_more t expanded m legal (all_go t expanded m legal) within p
          (subst (λ (xs : List (List ℕ)). Contains xs p) (ap (λ (k : ℕ). take k expanded) next ∙ take_more expanded m [] within) among)
      | inr past ↦
          let whole : take (suc m) expanded ≡ take m expanded =
          take_all (suc m) expanded (omega arith) ∙ sym (take_all m expanded past) in
          all_go t expanded m legal p (subst (λ (xs : List (List ℕ)). Contains xs p) whole among)
    ]

-- each plan of a legal list goes through
pub legal_goes : (t : Task) (expanded : List (List ℕ)) (p : List ℕ) → IsLegal t expanded → Contains expanded p → goes_through t p ≡ true
legal_goes t expanded p legal among =
    all_go t expanded (length expanded) legal p
    (subst (λ (xs : List (List ℕ)). Contains xs p) (sym (take_all (length expanded) expanded (omega arith))) among)
