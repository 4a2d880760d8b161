-- The values of fluents in bytes: one that is read, and one that is replaced.
use Rattle.std.proofs.Common.{◌≡◌, ℕ, zero, suc, ◌+◌, ◌*◌, ◌<◌, ◌≤◌, List, [], ◌∷◌, ◌++◌, length, take, drop, set, refl, sym, ap, ap₂, ◌∙◌, arith}
use Rattle.std.specs.Prelude.{ℤ, Some, None, slice_get}
use Rattle.std.specs.Int.{w64, cast_signed, from_le_bytes}
use Rattle.std.specs.Int.RustNames.{FitsSigned}
use Rattle.std.specs.List.{flat_map, AllByRecursion}
use Rattle.std.proofs.lemmas.List.{append_assoc, drop-drop}
use Rattle.std.proofs.Math.Seq.{take-add, take-append-add, drop-append-add}
use Rattle.hd_pack.specs.Packing.{value_bytes, values_in, replaced}

eight_more : (j : ℕ) → 8 * suc j ≡ 8 + 8 * j
eight_more j = omega arith

-- ---- reading

pub value_within : (xs : List ℕ) (j : ℕ) → 8 * j + 8 ≤ length xs → slice_get (values_in xs) j ≡ Some (cast_signed w64 (from_le_bytes w64 (take 8 (drop (8 * j) xs))))
value_within [] j le = absurd (omega (arith, le))
value_within (a ∷ []) j le = absurd (omega (arith, le))
value_within (a ∷ b ∷ []) j le = absurd (omega (arith, le))
value_within (a ∷ b ∷ c ∷ []) j le = absurd (omega (arith, le))
value_within (a ∷ b ∷ c ∷ d ∷ []) j le = absurd (omega (arith, le))
value_within (a ∷ b ∷ c ∷ d ∷ e ∷ []) j le = absurd (omega (arith, le))
value_within (a ∷ b ∷ c ∷ d ∷ e ∷ f ∷ []) j le = absurd (omega (arith, le))
value_within (a ∷ b ∷ c ∷ d ∷ e ∷ f ∷ g ∷ []) j le = absurd (omega (arith, le))
value_within (a ∷ b ∷ c ∷ d ∷ e ∷ f ∷ g ∷ h ∷ more) zero le = refl
value_within (a ∷ b ∷ c ∷ d ∷ e ∷ f ∷ g ∷ h ∷ more) (suc j) le =
    value_within more j (omega (arith, le))
    ∙ ap (λ (ys : List ℕ). Some (cast_signed w64 (from_le_bytes w64 (take 8 ys))))
    (drop-drop (8 * j) 8 (a ∷ b ∷ c ∷ d ∷ e ∷ f ∷ g ∷ h ∷ more) ∙ ap (λ n. drop n (a ∷ b ∷ c ∷ d ∷ e ∷ f ∷ g ∷ h ∷ more)) (sym (eight_more j)))

pub value_beyond : (xs : List ℕ) (j : ℕ) → length xs < 8 * j + 8 → slice_get (values_in xs) j ≡ None
value_beyond [] j lt = refl
value_beyond (a ∷ []) j lt = refl
value_beyond (a ∷ b ∷ []) j lt = refl
value_beyond (a ∷ b ∷ c ∷ []) j lt = refl
value_beyond (a ∷ b ∷ c ∷ d ∷ []) j lt = refl
value_beyond (a ∷ b ∷ c ∷ d ∷ e ∷ []) j lt = refl
value_beyond (a ∷ b ∷ c ∷ d ∷ e ∷ f ∷ []) j lt = refl
value_beyond (a ∷ b ∷ c ∷ d ∷ e ∷ f ∷ g ∷ []) j lt = refl
value_beyond (a ∷ b ∷ c ∷ d ∷ e ∷ f ∷ g ∷ h ∷ more) zero lt = absurd (omega (arith, lt))
value_beyond (a ∷ b ∷ c ∷ d ∷ e ∷ f ∷ g ∷ h ∷ more) (suc j) lt = value_beyond more j (omega (arith, lt))

-- ---- replacing

pub length-values : (vs : List ℤ) → length (flat_map value_bytes vs) ≡ 8 * length vs
length-values [] = refl
length-values (v ∷ vs) = let ih = length-values vs in omega (arith, ih)

pub value_replaced : (vs : List ℤ) (j : ℕ) (v : ℤ) → j < length vs → replaced (8 * j) (flat_map value_bytes vs) (value_bytes v) ≡ flat_map value_bytes (set vs j v)
value_replaced [] j v lt = absurd (omega (arith, lt))
value_replaced (w ∷ vs) zero v lt = refl
value_replaced (w ∷ vs) (suc j) v lt =
    ap (λ n. replaced n (flat_map value_bytes (w ∷ vs)) (value_bytes v)) (eight_more j)
    ∙ (ap₂ (λ (front back : List ℕ). front ++ (value_bytes v ++ drop 8 back)) (take-add 8 (8 * j) (flat_map value_bytes (w ∷ vs))) (sym (drop-drop (8 * j) 8 (flat_map value_bytes (w ∷ vs))))
    ∙ ap (λ (ns : List ℕ). value_bytes w ++ ns) (value_replaced vs j v (omega (arith, lt))))

pub fit-set : (vs : List ℤ) (j : ℕ) (v : ℤ) → FitsSigned w64 v → AllByRecursion (FitsSigned w64) vs → AllByRecursion (FitsSigned w64) (set vs j v)
fit-set [] j v fits all = all
fit-set (w ∷ vs) zero v fits all = (fits, all.1)
fit-set (w ∷ vs) (suc j) v fits all = (all.0, fit-set vs j v fits all.1)

-- with more bytes before those of the values
pub replaced_behind : (front : List ℕ) (n : ℕ) (xs ys : List ℕ) → replaced (length front + n) (front ++ xs) ys ≡ front ++ replaced n xs ys
replaced_behind front n xs ys =
    ap₂ (λ (a b : List ℕ). a ++ (ys ++ drop 8 b)) (take-append-add front xs n) (drop-append-add front xs n)
    ∙ append_assoc front (take n xs) (ys ++ drop 8 (drop n xs))
