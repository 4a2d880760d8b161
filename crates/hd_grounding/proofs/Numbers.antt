-- The numbers of ground forms.
use Rattle.std.proofs.Common.{◌≡◌, ℕ, Bool, true, false, cond, List, Contains, get_or, Some, None, slice_get, refl, sym, ap, ◌∙◌, true≢false}
use Rattle.std.specs.Prelude.{is_some}
use Rattle.std.specs.List.{list_any, position_or_len}
use Rattle.std.proofs.lemmas.Option.{slice_get-get_or}
use Rattle.std.proofs.lemmas.List.Quantifiers.{position-Some}
use Rattle.hd_base.proofs.Tests.{list_any-from_contains, nat_lt-position_or_len}
use Rattle.hd_lifted.specs.declared.schema.Ground.{Ground}
use Rattle.hd_lifted.specs.States.{same}
use Rattle.hd_lifted.proofs.Sound.{same-true, same-refl}
use Rattle.hd_grounding.specs.Images.{number_of}

-- ---- numbers

is_some-cond : {A : Type 0} (b : Bool) (x : A) → is_some (cond b (Some x) None) ≡ b
is_some-cond true x = refl
is_some-cond false x = refl

numbered-test : (forms : List Ground) (g : Ground) → is_some (number_of forms g) ≡ list_any (λ h. same h g) forms
numbered-test forms g =
    ap (λ b. is_some (cond b (Some (position_or_len (λ h. same h g) forms)) None)) (nat_lt-position_or_len (λ h. same h g) forms)
    ∙ is_some-cond (list_any (λ h. same h g) forms) (position_or_len (λ h. same h g) forms)

numbered : (forms : List Ground) (g : Ground) → Contains forms g → is_some (number_of forms g) ≡ true
numbered forms g c = numbered-test forms g ∙ list_any-from_contains (λ h. same h g) forms g c (same-refl g)

-- what has a number stands at its place
pub number_of-place : (forms : List Ground) (g : Ground) (k : ℕ) → number_of forms g ≡ Some k → slice_get forms k ≡ Some g
number_of-place forms g k e =
    let found = position-Some (λ h. same h g) forms k g e in
    slice_get-get_or forms k g found.0 ∙ ap Some (same-true (get_or forms k g) g found.1)

-- what has no number is not there
pub number_of-none : (forms : List Ground) (g : Ground) → number_of forms g ≡ None → Contains forms g → ⊥
number_of-none forms g e c = true≢false (sym (numbered forms g c) ∙ ap is_some e)

-- what is there has a number
pub record HasNumber (forms : List Ground) (g : Ground) : Type 0 where
  pub number : ℕ
  pub is : number_of forms g ≡ Some number
  pub place : slice_get forms number ≡ Some g

pub number_of-there : (forms : List Ground) (g : Ground) → Contains forms g → HasNumber forms g
number_of-there forms g c =
    elim (number_of forms g) as (λ o. number_of forms g ≡ o → HasNumber forms g) [
      | None ↦ λ e. absurd (number_of-none forms g e c)
      | Some k ↦ λ e. record { number = k; is = e; place = number_of-place forms g k e }
    ] refl
