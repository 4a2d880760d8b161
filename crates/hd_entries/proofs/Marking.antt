-- The marks when a plan is expanded or settled.
use Rattle.std.proofs.Common.{◌≡◌, ◌≢◌, ℕ, zero, suc, ◌+◌, ◌-◌, ◌<◌, ◌≤◌, Bool, true, false, List, [], ◌∷◌, ◌++◌, set, replicate, take, length, get_or, Contains, All, inl, inr, refl, sym, ap, ◌∙◌, subst, arith, length-append, length-set, get_or-set_same, get_or-set_other, true≢false}
use Rattle.std.proofs.lemmas.Bool.{cases_lt, cases_eq}
use Rattle.std.proofs.lemmas.List.{get_or_append_left, get_or-append_right, get_or-replicate, length-replicate, get_or_default}
use Rattle.std.proofs.lemmas.List.Elements.{Contains-append_left, Contains-push, Contains-push_cases, Contains-get_or}
use Rattle.hd_base.proofs.Members.{Contains-from_take, IsFrom, IsFrom-from_map}
use Rattle.hd_task.specs.declared.task.Task.{Task}
use Rattle.hd_task.specs.Plans.{exec}
use Rattle.hd_task.specs.Expansions.{followed_by, applicable_at, children, generated, IsNext, IsLegal}
use Rattle.hd_task.specs.Covers.{Estimate, IsJustified, IsCovered}
use Rattle.hd_task.proofs.Growing.{generated-push, generated_parent, generated_once, legal_push, justified_grows}
use Rattle.hd_entries.specs.Marks.{IsPlanSettled, IsMarked}

settled_grows : (t : Task) (h : Estimate) (expanded more : List (List ℕ)) (p : List ℕ) → IsPlanSettled t h expanded p → IsPlanSettled t h (expanded ++ more) p
settled_grows t h expanded more p (inl c) = inl (Contains-append_left expanded more p c)
settled_grows t h expanded more p (inr j) = inr (justified_grows t h expanded more p j)

-- a legal list has the parent of each of its plans
legal_parent : (t : Task) (expanded : List (List ℕ)) (p : List ℕ) (a : ℕ) → IsLegal t expanded → Contains expanded (followed_by p a) → Contains expanded p
legal_parent t expanded p a legal c =
    let next = legal c.0 (followed_by p a) c.1 in
    let gen : Contains (generated t (take c.0 expanded)) (followed_by p a) = subst (Contains (generated t (take c.0 expanded))) c.2 next.generated_before in
    Contains-from_take c.0 expanded p (generated_parent t (take c.0 expanded) p a gen)

-- two places of a legal list's generated plans hold two plans
pub apart : (t : Task) (expanded : List (List ℕ)) (i j : ℕ) → IsLegal t expanded → i ≢ j → i < length (generated t expanded) → j < length (generated t expanded) → get_or (generated t expanded) i [] ≢ get_or (generated t expanded) j []
apart t expanded i j legal ne hi hj e =
    elim (cases_lt i j) [
      | inl lt ↦ generated_once t expanded legal i j [] lt hj e
      | inr le ↦ generated_once t expanded legal j i [] (omega arith) hi (sym e)
    ]

-- what a place becomes when the plan at place k, this one, is expanded, by its mark and its plan
-- before and after: it stays as it was; it is k itself, and marked; or it is that of a plan which
-- comes
data Becomes (k j before : ℕ) (p : List ℕ) (mark mark' : Bool) (plan plan' : List ℕ) : Type 0 where
  Stays : j < before → j ≢ k → mark' ≡ mark → plan' ≡ plan → Becomes k j before p mark mark' plan plan'
  Expands : mark' ≡ true → plan' ≡ p → Becomes k j before p mark mark' plan plan'
  Comes : (n : ℕ) → mark' ≡ false → plan' ≡ followed_by p n → Becomes k j before p mark mark' plan plan'

module _ (t : Task) (h : Estimate) (expanded : List (List ℕ)) (marks : List Bool) (k : ℕ) (m : IsMarked t h expanded marks) (within : k < length marks) (open_k : get_or marks k true ≡ false) where
  abbrev p : List ℕ
  p = get_or (generated t expanded) k []

  abbrev longer : List (List ℕ)
  longer = expanded ++ p ∷ []

  -- the marks after it: that of the plan is set, and those of its children are not
  abbrev fresh : List Bool
  fresh = replicate (length (children t p)) false

  abbrev marks_after : List Bool
  marks_after = set marks k true ++ fresh

  kept_len : length (set marks k true) ≡ length marks
  kept_len = length-set marks k true

  after_len : length marks_after ≡ length marks + length (children t p)
  after_len = length-append (set marks k true) fresh ∙ omega (arith, kept_len, length-replicate (length (children t p)) false)

  -- a place of the marks before
  old_place : (j : ℕ) → j < length marks
      → (get_or marks_after j true ≡ get_or (set marks k true) j true) × (get_or (generated t longer) j [] ≡ get_or (generated t expanded) j [])
  old_place j lt =
      let in_plans : j < length (generated t expanded) = omega (arith, m.one_each, lt) in
      let in_marks : j < length (set marks k true) = omega (arith, kept_len, lt) in (
        get_or_append_left (set marks k true) fresh true j in_marks,
        ap (λ plans. get_or plans j []) (generated-push t expanded p) ∙ get_or_append_left (generated t expanded) (children t p) [] j in_plans,
      )

  -- a place after them: no mark is set there, and a child of the plan stands there
  new_place : (j : ℕ) → length marks ≤ j → j < length marks_after
      → (get_or marks_after j true ≡ false) × IsFrom (followed_by p) (applicable_at t (exec t p)) (get_or (generated t longer) j [])
  new_place j past lt =
      let i = j - length marks in
      let inside : i < length (children t p) = omega (arith, after_len, past, lt) in
      let at : get_or (generated t longer) j [] ≡ get_or (children t p) i [] =
      ap (λ plans. get_or plans j []) (generated-push t expanded p)
      ∙ get_or-append_right (generated t expanded) (children t p) (length marks) j [] (sym m.one_each) past
      in (
        get_or-append_right (set marks k true) fresh (length marks) j true kept_len past ∙ get_or-replicate (length (children t p)) i false true inside,
        subst (IsFrom (followed_by p) (applicable_at t (exec t p))) (sym at)
            (IsFrom-from_map (followed_by p) (applicable_at t (exec t p)) (get_or (children t p) i []) (Contains-get_or (children t p) i [] inside)),
      )

  becomes : (j : ℕ) → j < length marks_after
      → Becomes k j (length marks) p (get_or marks j true) (get_or marks_after j true) (get_or (generated t expanded) j []) (get_or (generated t longer) j [])
  becomes j lt =
      elim (cases_lt j (length marks)) [
        | inl old ↦
            let there = old_place j old in
            elim (cases_eq j k) [
              | inl same ↦
                  Expands (there.0 ∙ (ap (λ j. get_or (set marks k true) j true) same ∙ get_or-set_same marks k true true within))
                  (there.1 ∙ ap (λ j. get_or (generated t expanded) j []) same)
              | inr other ↦ Stays old other (there.0 ∙ get_or-set_other marks k j true true other) there.1
            ]
        | inr past ↦ let there = new_place j past lt in Comes there.1.source there.0 (sym there.1.is)
      ]

  settled_after : (j : ℕ) → j < length marks_after → get_or marks_after j true ≡ true → IsPlanSettled t h longer (get_or (generated t longer) j [])
  settled_after j lt marked =
      elim (becomes j lt) [
        | Stays old other mark plan ↦
            subst (IsPlanSettled t h longer) (sym plan)
            (settled_grows t h expanded (p ∷ []) (get_or (generated t expanded) j []) (m.settled j old (sym mark ∙ marked)))
        | Expands mark plan ↦ inl (subst (Contains longer) (sym plan) (Contains-push expanded p))
        | Comes n mark plan ↦ absurd (true≢false (sym marked ∙ mark))
      ]

  unsettled_after : (j : ℕ) → j < length marks_after → get_or marks_after j true ≡ false → Contains longer (get_or (generated t longer) j []) → ⊥
  unsettled_after j lt open_j among =
      elim (becomes j lt) [
        | Stays old other mark plan ↦
            elim (Contains-push_cases expanded p (get_or (generated t expanded) j []) (subst (Contains longer) plan among)) [
              | inl before ↦ m.unsettled j old (sym mark ∙ open_j) before
              | inr is ↦ apart t expanded k j m.legal (λ x. other (sym x)) (omega (arith, m.one_each, within)) (omega (arith, m.one_each, old)) is
            ]
        | Expands mark plan ↦ true≢false (sym mark ∙ open_j)
        | Comes n mark plan ↦
            elim (Contains-push_cases expanded p (followed_by p n) (subst (Contains longer) plan among)) [
              | inl before ↦ m.unsettled k within open_k (legal_parent t expanded p n m.legal before)
              | inr is ↦ omega (arith, ap length is, length-append p (n ∷ []))
            ]
      ]

  -- the plan at place k is expanded: its mark, and marks for what it generates
  pub expanded_marks : IsMarked t h longer marks_after
  expanded_marks =
      let may_follow : IsNext t expanded p =
      record { generated_before = Contains-get_or (generated t expanded) k [] (omega (arith, m.one_each, within)); is_new = m.unsettled k within open_k }
      in
      let plans : length (generated t longer) ≡ length (generated t expanded) + length (children t p) =
      ap length (generated-push t expanded p) ∙ length-append (generated t expanded) (children t p)
      in
      record {
        legal = legal_push t expanded p m.legal may_follow;
        one_each = omega (arith, after_len, m.one_each, plans);
        settled = settled_after;
        unsettled = unsettled_after;
      }

  -- the plan at place k is justified: its mark
  pub settled_marks : IsJustified t h expanded p → IsMarked t h expanded (set marks k true)
  settled_marks just = record {
    legal = m.legal;
    one_each = kept_len ∙ m.one_each;
    settled = λ j lt marked.
        elim (cases_eq j k) [
          | inl same ↦ inr (subst (λ j. IsJustified t h expanded (get_or (generated t expanded) j [])) (sym same) just)
          | inr other ↦ m.settled j (omega (arith, kept_len, lt)) (sym (get_or-set_other marks k j true true other) ∙ marked)
        ];
    unsettled = λ j lt open_j.
        elim (cases_eq j k) [
          | inl same ↦
              let set_k : get_or (set marks k true) j true ≡ true = ap (λ j. get_or (set marks k true) j true) same ∙ get_or-set_same marks k true true within in
              absurd (true≢false (sym set_k ∙ open_j))
          | inr other ↦ m.unsettled j (omega (arith, kept_len, lt)) (sym (get_or-set_other marks k j true true other) ∙ open_j)
        ];
  }

-- where all are marked, the list is covered
pub all_marked : (t : Task) (h : Estimate) (expanded : List (List ℕ)) (marks : List Bool) → IsMarked t h expanded marks → All (λ m. m ≡ true) marks → IsCovered t h expanded
all_marked t h expanded marks m all q c =
    let lt : c.0 < length marks = omega (arith, m.one_each) in
    let is : get_or (generated t expanded) c.0 [] ≡ q = get_or_default (generated t expanded) c.0 [] q c.1 ∙ c.2 in
    subst (IsPlanSettled t h expanded) is (m.settled c.0 lt (all c.0 true lt))

-- before anything is expanded
pub none_marked : (t : Task) (h : Estimate) → IsMarked t h [] (false ∷ [])
none_marked t h = record {
  legal = λ n d h. absurd (omega arith);
  one_each = refl;
  settled = λ k lt e. absurd (first k lt e);
  unsettled = λ k lt e c. omega arith;
}
  where
    first : (k : ℕ) → k < 1 → get_or (false ∷ []) k true ≡ true → ⊥
    first zero lt e = true≢false (sym e)
    first (suc k) lt e = omega arith
