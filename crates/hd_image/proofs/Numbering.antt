-- Versions, and the numbers that stand for parents.
use Rattle.std.proofs.Common.{◌≡◌, ◌≢◌, ◌⊎◌, inl, inr, ℕ, ◌^◌, ◌<◌, ◌≤◌, ◌==◌, ◌||◌, nat_lt, List, [], ◌∷◌, true, false, refl, sym, ◌∙◌, subst, arith}
use Rattle.std.specs.List.{list_all, AllByRecursion}
use Rattle.std.proofs.lemmas.Bool.{eqb-true, eqb-false, ltb-true, and_parts}
use Rattle.hd_task.specs.declared.plan.Kid.{Kid}
use Rattle.hd_task.specs.declared.plan.TheConstants.{ROOT_PARENT}
use Rattle.hd_image.specs.declared.version.Version.{Version}
use Rattle.hd_image.specs.declared.version.Version.TheVariants.{One, Two}
use Rattle.hd_image.specs.Image.{version_byte, parent_width, root_number, most_of, fits_parent, HasNumber, parent_number}

-- ---- versions

pub no_version : (b : ℕ) → b ≢ 1 → b ≢ 2 → (v : Version) → b ≢ version_byte v
no_version b one two One = one
no_version b one two Two = two

pub version_one : (v w : Version) → version_byte v ≡ version_byte w → v ≡ w
version_one One One e = refl
version_one One Two e = absurd (omega (arith, e))
version_one Two One e = absurd (omega (arith, e))
version_one Two Two e = refl

pub root_fits : (v : Version) → root_number v < 256 ^ parent_width v
root_fits One = omega arith
root_fits Two = omega arith

pub root_greatest : (v : Version) (n : ℕ) → n < 256 ^ parent_width v → n ≤ root_number v
root_greatest One n lt = omega (arith, lt)
root_greatest Two n lt = omega (arith, lt)

pub root_within : (v : Version) → root_number v ≤ ROOT_PARENT
root_within One = omega arith
root_within Two = omega arith

-- ---- parents

-- the root's parent, by its number
pub record IsRoot (v : Version) (parent : ℕ) : Type 0 where
  pub is : parent ≡ ROOT_PARENT
  pub told : parent_number v parent ≡ root_number v

-- another parent, by itself
pub record IsOwn (v : Version) (parent : ℕ) : Type 0 where
  pub not : parent ≢ ROOT_PARENT
  pub told : parent_number v parent ≡ parent
  pub below : parent < root_number v

own_below : (v : Version) (p : ℕ) → HasNumber v p → p ≢ ROOT_PARENT → p < root_number v
own_below v p has not = elim has [ inl is ↦ absurd (not is) | inr lt ↦ lt ]

pub parent_cases : (v : Version) (p : ℕ) → HasNumber v p → IsRoot v p ⊎ IsOwn v p
parent_cases v p has =
    elim (p == ROOT_PARENT) as (λ b. (p == ROOT_PARENT) ≡ b → IsRoot v p ⊎ IsOwn v p) [
      | true ↦ λ e. inl (record { is = eqb-true p ROOT_PARENT e; told = rw e refl })
      | false ↦ λ e. let not = eqb-false p ROOT_PARENT e in inr (record { not = not; told = rw e refl; below = own_below v p has not })
    ] refl

pub number_fits : (v : Version) (p : ℕ) → HasNumber v p → parent_number v p < 256 ^ parent_width v
number_fits v p has =
    elim (parent_cases v p has) [
      | inl root ↦ subst (λ (n : ℕ). n < 256 ^ parent_width v) (sym root.told) (root_fits v)
      | inr own ↦ subst (λ (n : ℕ). n < 256 ^ parent_width v) (sym own.told) (let fits = root_fits v in let below = own.below in
          omega (arith, fits, below))
    ]

-- two parents have two numbers
pub parent_one : (v : Version) (p q : ℕ) → HasNumber v p → HasNumber v q → parent_number v p ≡ parent_number v q → p ≡ q
parent_one v p q hp hq e =
    elim (parent_cases v p hp) [
      | inl a ↦ elim (parent_cases v q hq) [
        | inl b ↦ a.is ∙ sym b.is
        | inr b ↦ let same : root_number v ≡ q = sym a.told ∙ (e ∙ b.told) in absurd (omega (arith, same, b.below))
      ]
      | inr a ↦ elim (parent_cases v q hq) [
        | inl b ↦ let same : p ≡ root_number v = sym a.told ∙ (e ∙ b.told) in absurd (omega (arith, same, a.below))
        | inr b ↦ sym a.told ∙ (e ∙ b.told)
      ]
    ]

-- each other number stands for itself
pub number_told : (v : Version) (n : ℕ) → n < 256 ^ parent_width v → n ≢ root_number v → HasNumber v n × (parent_number v n ≡ n)
number_told v n lt not =
    let most = root_greatest v n lt in
    let within = root_within v in
    let below : n < root_number v = omega (arith, most, not) in
    elim (parent_cases v n (inr below)) [
      | inl root ↦ absurd (let is = root.is in omega (arith, is, below, within))
      | inr own ↦ (inr below, own.told)
    ]

-- ---- parents that may be written

fits_told : (v : Version) (p : ℕ) → fits_parent v p ≡ true → HasNumber v p
fits_told v p fits =
    elim (p == ROOT_PARENT) as (λ b. (p == ROOT_PARENT) ≡ b → (b || nat_lt p (most_of v)) ≡ true → HasNumber v p) [
      | true ↦ λ e f. inl (eqb-true p ROOT_PARENT e)
      | false ↦ λ e f. let below : p < most_of v = ltb-true p (most_of v) f in inr (omega (arith, below))
    ] refl fits

pub all_told : (v : Version) (kids : List Kid) → list_all (λ kid. fits_parent v kid.parent) kids ≡ true
    → AllByRecursion (λ kid. HasNumber v kid.parent) kids
all_told v [] fit = tt
all_told v (kid ∷ kids) fit =
    let parts = and_parts (fits_parent v kid.parent) (list_all (λ kid. fits_parent v kid.parent) kids) fit in
    (fits_told v kid.parent parts.0, all_told v kids parts.1)
