-- Marks that are set and taken back, and how many there are.
use Rattle.std.proofs.Common.{◌≡◌, ℕ, ◌+◌, ◌<◌, Bool, true, false, cond, List, [], ◌∷◌, length, get_or, set, Contains, ◌⊎◌, inl, inr, refl, sym, ap, ◌∙◌, subst, arith, get_or-set_same, get_or-set_other}
use Rattle.std.specs.List.{AllByRecursion, count_by, fold}
use Rattle.std.proofs.lemmas.Bool.{cases_eq}
use Rattle.std.proofs.lemmas.List.{length-set, same_lists, get_or_default}
use Rattle.std.proofs.lemmas.List.Sums.{sum_by-set}
use Rattle.hd_tables.specs.Places.{AreKids}
use Rattle.hd_base.proofs.Members.{Contains-first, Contains-later, Contains-nil, Contains-cons_cases}
use Rattle.hd_base.proofs.Tests.{count_by-set}

-- one mark more
pub count_settled : (marks : List Bool) (k : ℕ) → k < length marks → get_or marks k true ≡ false → count_by (λ m. m) (set marks k true) ≡ count_by (λ m. m) marks + 1
count_settled marks k lt unset = count_by-set (λ m. m) marks k true true lt unset refl

-- one mark less
pub count_reopened : (marks : List Bool) (k : ℕ) → k < length marks → get_or marks k false ≡ true → count_by (λ m. m) (set marks k false) + 1 ≡ count_by (λ m. m) marks
count_reopened marks k lt was =
    let f : Bool → ℕ = λ x. cond x 1 0 in
    let before : f (get_or marks k false) ≡ 1 = ap (λ (b : Bool). cond b 1 0) was in
    omega (arith, before, sum_by-set f marks k false false lt)

-- ---- a table's marks

-- another mark where the counts tell
pub marked_kept : (firsts actions : List ℕ) (marks : List Bool) (settled settled' k : ℕ) (b : Bool) → AreKids firsts actions marks settled
    → settled' ≡ count_by (λ m. m) (set marks k b) → AreKids firsts actions (set marks k b) settled'
marked_kept firsts actions marks settled settled' k b h is = record {
  some = h.some;
  root_is = h.root_is;
  begins = h.begins;
  ends = h.ends;
  ordered = h.ordered;
  rising = h.rising;
  numbered = h.numbered;
  one_each = length-set marks k b ∙ h.one_each;
  settled_is = is;
}

pub settled_kept : (firsts actions : List ℕ) (marks : List Bool) (settled settled' k : ℕ) → AreKids firsts actions marks settled
    → k < length actions → get_or marks k true ≡ false → settled' ≡ settled + 1 → AreKids firsts actions (set marks k true) settled'
settled_kept firsts actions marks settled settled' k h lt unset more =
    let each = h.one_each in
    let was = h.settled_is in
    let now = count_settled marks k (omega (arith, lt, each)) unset in
    marked_kept firsts actions marks settled settled' k true h (omega (arith, more, was, now))

pub reopened_kept : (firsts actions : List ℕ) (marks : List Bool) (settled settled' k : ℕ) → AreKids firsts actions marks settled
    → k < length actions → get_or marks k false ≡ true → settled' + 1 ≡ settled → AreKids firsts actions (set marks k false) settled'
reopened_kept firsts actions marks settled settled' k h lt was_set less =
    let each = h.one_each in
    let was = h.settled_is in
    let now = count_reopened marks k (omega (arith, lt, each)) was_set in
    marked_kept firsts actions marks settled settled' k false h (omega (arith, less, was, now))

-- a mark that is set is one of those that are counted
pub some_settled : (marks : List Bool) (k : ℕ) → k < length marks → get_or marks k false ≡ true → 0 < count_by (λ m. m) marks
some_settled marks k lt was = let h = count_reopened marks k lt was in omega (arith, h)

-- ---- marks that are taken back

-- a mark at each of these places
abbrev mark_all : Bool → List Bool → List ℕ → List Bool
mark_all b marks places = fold (λ ms k. set ms k b) marks places

length-mark_all : (b : Bool) (marks : List Bool) (places : List ℕ) → length (mark_all b marks places) ≡ length marks
length-mark_all b marks [] = refl
length-mark_all b marks (k ∷ places) = length-mark_all b (set marks k b) places ∙ length-set marks k b

-- only these places are marked
marked_there : (marks : List Bool) (places : List ℕ) (i : ℕ) (d : Bool) → (get_or (mark_all true marks places) i d ≡ get_or marks i d) ⊎ Contains places i
marked_there marks [] i d = inl refl
marked_there marks (k ∷ places) i d =
    elim (cases_eq i k) [
      | inl same ↦ inr (subst (Contains (k ∷ places)) (sym same) (Contains-first k places))
      | inr other ↦
          elim (marked_there (set marks k true) places i d) [
            | inl e ↦ inl (e ∙ get_or-set_other marks k i true d other)
            | inr c ↦ inr (Contains-later k places i c)
          ]
    ]

-- marks that differ from others at most at these places, where the others have none, become the
-- others
taken_back : (marks others : List Bool) (places : List ℕ) → length marks ≡ length others → AllByRecursion (λ k. get_or others k true ≡ false) places
    → ((i : ℕ) (d : Bool) → i < length marks → (get_or marks i d ≡ get_or others i d) ⊎ Contains places i) → mark_all false marks places ≡ others
taken_back marks others [] len unset h =
    same_lists marks others len (λ i d lt. elim (h i d lt) [ inl e ↦ e | inr c ↦ absurd (Contains-nil i c) ])
taken_back marks others (k ∷ places) len unset h =
    taken_back (set marks k false) others places (length-set marks k false ∙ len) unset.1
    (λ i d lt.
    let within : i < length marks = omega (arith, lt, length-set marks k false) in
    elim (cases_eq i k) [
      | inl same ↦
          let among : i < length others = omega (arith, within, len) in
          inl (ap (λ (j : ℕ). get_or (set marks k false) j d) same
          ∙ (get_or-set_same marks k false d (omega (arith, within, same))
          ∙ (sym unset.0 ∙ (ap (λ (j : ℕ). get_or others j true) (sym same) ∙ get_or_default others i true d among))))
      | inr other ↦
          elim (h i d within) [
            | inl e ↦ inl (get_or-set_other marks k i false d other ∙ e)
            | inr c ↦
                elim (Contains-cons_cases k places i c) [
                  | inl first ↦ absurd (other (sym first))
                  | inr later ↦ inr later
                ]
          ]
    ])

pub marks_back : (marks : List Bool) (places : List ℕ) → AllByRecursion (λ k. get_or marks k true ≡ false) places → mark_all false (mark_all true marks places) places ≡ marks
marks_back marks places unset =
    taken_back (mark_all true marks places) marks places (length-mark_all true marks places) unset (λ i d _. marked_there marks places i d)
