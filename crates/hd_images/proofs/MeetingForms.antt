-- Forms that are met one after the other.
use Rattle.std.proofs.Common.{◌≡◌, ℕ, ◌<◌, ◌≤◌, true, false, List, [], ◌∷◌, ◌++◌, length, Contains, ◌⊎◌, inl, inr, refl, ap, ◌∙◌, subst, arith}
use Rattle.std.specs.Prelude.{if◌then◌else◌}
use Rattle.std.proofs.lemmas.List.Elements.{Contains-append_left, Contains-append_right, Contains-push, Contains-push_cases}
use Rattle.hd_base.proofs.Members.{Contains-nil, Contains-first, Contains-later, Contains-cons_cases}
use Rattle.hd_lifted.proofs.Passing.{passing-from_any}
use Rattle.hd_lifted.proofs.Sound.{same-true}
use Rattle.hd_lifted.specs.declared.schema.Ground.{Ground}
use Rattle.hd_lifted.specs.States.{same, is_listed}
use Rattle.hd_images.specs.Meeting.{with_form, with_forms, IsMet}

pub with_forms-append : (forms xs ys : List Ground) → with_forms (with_forms forms xs) ys ≡ with_forms forms (xs ++ ys)
with_forms-append forms [] ys = refl
with_forms-append forms (x ∷ xs) ys = with_forms-append (with_form forms x) xs ys

-- ---- which forms there are

pub listed-contains : (forms : List Ground) (g : Ground) → is_listed forms g ≡ true → Contains forms g
listed-contains forms g e =
    let p = passing-from_any (λ (a : Ground). same a g) forms e in
    subst (Contains forms) (same-true p.value g p.passes) p.among

kept_by : (forms : List Ground) (g x : Ground) → Contains forms x → Contains (with_form forms g) x
kept_by forms g x c =
    elim (is_listed forms g) as (λ b. Contains (if b then forms else forms ++ g ∷ []) x) [ true ↦ c | false ↦ Contains-append_left forms (g ∷ []) x c ]

added_by : (forms : List Ground) (g : Ground) → Contains (with_form forms g) g
added_by forms g =
    elim (is_listed forms g) as (λ b. is_listed forms g ≡ b → Contains (if b then forms else forms ++ g ∷ []) g) [
      | true ↦ λ e. listed-contains forms g e
      | false ↦ λ _. Contains-push forms g
    ] refl

from_with : (forms : List Ground) (g x : Ground) → Contains (with_form forms g) x → Contains forms x ⊎ (g ≡ x)
from_with forms g x =
    elim (is_listed forms g) as (λ b. Contains (if b then forms else forms ++ g ∷ []) x → Contains forms x ⊎ (g ≡ x)) [
      | true ↦ λ c. inl c
      | false ↦ λ c. Contains-push_cases forms g x c
    ]

pub with_forms-first : (forms gs : List Ground) (x : Ground) → Contains forms x → Contains (with_forms forms gs) x
with_forms-first forms [] x c = c
with_forms-first forms (g ∷ gs) x c = with_forms-first (with_form forms g) gs x (kept_by forms g x c)

pub with_forms-second : (forms gs : List Ground) (x : Ground) → Contains gs x → Contains (with_forms forms gs) x
with_forms-second forms [] x c = absurd (Contains-nil x c)
with_forms-second forms (g ∷ gs) x c =
    elim (Contains-cons_cases g gs x c) [
      | inl e ↦ with_forms-first (with_form forms g) gs x (subst (Contains (with_form forms g)) e (added_by forms g))
      | inr k ↦ with_forms-second (with_form forms g) gs x k
    ]

pub with_forms-cases : (forms gs : List Ground) (x : Ground) → Contains (with_forms forms gs) x → Contains forms x ⊎ Contains gs x
with_forms-cases forms [] x c = inl c
with_forms-cases forms (g ∷ gs) x c =
    elim (with_forms-cases (with_form forms g) gs x c) [
      | inl k ↦ elim (from_with forms g x k) [ inl m ↦ inl m | inr e ↦ inr (subst (Contains (g ∷ gs)) e (Contains-first g gs)) ]
      | inr k ↦ inr (Contains-later g gs x k)
    ]

-- ---- all that was met, or more than a limit

pub IsMet-none : (limit : ℕ) → IsMet limit [] []
IsMet-none limit = record { within = λ g c. c; whole = λ _. refl }

pub IsMet-more : (limit : ℕ) (met ms forms new : List Ground) → IsMet limit met forms → length forms ≤ limit → new ≡ with_forms forms ms → IsMet limit (met ++ ms) new
IsMet-more limit met ms forms new is fits now = record {
  within = λ g c.
      elim (with_forms-cases forms ms g (subst (λ fs. Contains fs g) now c)) [
        | inl k ↦ Contains-append_left met ms g (is.within g k)
        | inr k ↦ Contains-append_right met ms g k
      ];
  whole = λ _. now ∙ (ap (λ fs. with_forms fs ms) (is.whole fits) ∙ with_forms-append [] met ms);
}

pub IsMet-over : (limit : ℕ) (met ms forms : List Ground) → IsMet limit met forms → limit < length forms → IsMet limit (met ++ ms) forms
IsMet-over limit met ms forms is over = record {
  within = λ g c. Contains-append_left met ms g (is.within g c);
  whole = λ fits. absurd (omega arith);
}
