-- There and back again.
use Rattle.std.proofs.Common.{◌≡◌, ℕ, ◌+◌, ◌<◌, ◌≤◌, List, [], ◌∷◌, ◌++◌, length, map, take, drop, refl, sym, ap, ap₂, ◌∙◌, arith}
use Rattle.std.specs.Prelude.{ℤ, Bool, true, false, nat_eq, ◌&&◌}
use Rattle.std.specs.Int.{w64, cast_signed, cast_unsigned, from_le_bytes}
use Rattle.std.specs.Int.RustNames.{FitsSigned}
use Rattle.std.specs.Cmp.Lexicographic.{pointwise}
use Rattle.std.proofs.lemmas.List.{append_assoc, length-append}
use Rattle.std.specs.List.{flat_map, range_with_len, AllByRecursion}
use Rattle.std.proofs.Math.Facts.{Fits-of_z, Fits-lt-pow}
use Rattle.std.proofs.lemmas.Bool.{eqb-true}
use Rattle.std.proofs.lemmas.Bool.Decides.{Decides-eqb}
use Rattle.std.proofs.lemmas.Slice.Eq.{slice_eq-Decides}
use Rattle.std.proofs.lemmas.Int.{to_z-of_z}
use Rattle.std.proofs.lemmas.Nat.{from_le_bytes-to_le_bytes_8}
use Rattle.std.proofs.lemmas.List.FromFn.{length-map-range_with_len}
use Rattle.std.proofs.Math.Seq.{drop-append_seam}
use Rattle.hd_task.specs.declared.state.State.{State}
use Rattle.hd_pack.specs.Packing.{atom_bytes, atom_in, bytes_for, value_bytes, values_in, packed_bytes, unpacked, same_packing}
use Rattle.hd_pack.proofs.AtomBits.{length-atom_bytes, atoms_back}

pub value_back : (v : ℤ) → FitsSigned w64 v → cast_signed w64 (from_le_bytes w64 (value_bytes v)) ≡ v
value_back v fits = ap (cast_signed w64) (from_le_bytes-to_le_bytes_8 (cast_unsigned w64 v) (Fits-lt-pow (Fits-of_z fits))) ∙ to_z-of_z w64 v fits

pub values_back : (vs : List ℤ) → AllByRecursion (FitsSigned w64) vs → values_in (flat_map value_bytes vs) ≡ vs
values_back [] fit = refl
values_back (v ∷ vs) fit = ap₂ (λ (x : ℤ) (xs : List ℤ). x ∷ xs) (value_back v fit.0) (values_back vs fit.1)

pub unpacked_packed : (s : State) → AllByRecursion (FitsSigned w64) s.fluents → unpacked (length s.atoms) (packed_bytes s) ≡ s
unfolding packed_bytes unpacked
unpacked_packed s fit =
    let values : drop (bytes_for (length s.atoms)) (atom_bytes s.atoms ++ flat_map value_bytes s.fluents) ≡ flat_map value_bytes s.fluents =
    ap (λ n. drop n (atom_bytes s.atoms ++ flat_map value_bytes s.fluents)) (sym (length-atom_bytes s.atoms)) ∙ drop-append_seam (atom_bytes s.atoms) (flat_map value_bytes s.fluents) in
    ap₂ (λ (bs : List Bool) (vs : List ℤ). record { atoms = bs; fluents = vs }) (atoms_back s.atoms (flat_map value_bytes s.fluents)) (ap values_in values ∙ values_back s.fluents fit)

pub values_step : (xs : List ℕ) → 8 ≤ length xs → values_in xs ≡ cast_signed w64 (from_le_bytes w64 (take 8 xs)) ∷ values_in (drop 8 xs)
values_step ([]) le = absurd (omega (arith, le))
values_step (a ∷ []) le = absurd (omega (arith, le))
values_step (a ∷ b ∷ []) le = absurd (omega (arith, le))
values_step (a ∷ b ∷ c ∷ []) le = absurd (omega (arith, le))
values_step (a ∷ b ∷ c ∷ d ∷ []) le = absurd (omega (arith, le))
values_step (a ∷ b ∷ c ∷ d ∷ e ∷ []) le = absurd (omega (arith, le))
values_step (a ∷ b ∷ c ∷ d ∷ e ∷ f ∷ []) le = absurd (omega (arith, le))
values_step (a ∷ b ∷ c ∷ d ∷ e ∷ f ∷ g ∷ []) le = absurd (omega (arith, le))
values_step (a ∷ b ∷ c ∷ d ∷ e ∷ f ∷ g ∷ h ∷ more) le = refl

pub values_none : (xs : List ℕ) → length xs < 8 → values_in xs ≡ []
values_none ([]) lt = refl
values_none (a ∷ []) lt = refl
values_none (a ∷ b ∷ []) lt = refl
values_none (a ∷ b ∷ c ∷ []) lt = refl
values_none (a ∷ b ∷ c ∷ d ∷ []) lt = refl
values_none (a ∷ b ∷ c ∷ d ∷ e ∷ []) lt = refl
values_none (a ∷ b ∷ c ∷ d ∷ e ∷ f ∷ []) lt = refl
values_none (a ∷ b ∷ c ∷ d ∷ e ∷ f ∷ g ∷ []) lt = refl
values_none (a ∷ b ∷ c ∷ d ∷ e ∷ f ∷ g ∷ h ∷ more) lt = absurd (omega (arith, lt))

pub values_next : (vs total : List ℤ) (xs : List ℕ) (v : ℤ) → 8 ≤ length xs → v ≡ cast_signed w64 (from_le_bytes w64 (take 8 xs)) → vs ++ values_in xs ≡ total
    → (vs ++ v ∷ []) ++ values_in (drop 8 xs) ≡ total
values_next vs total xs v le is all =
    append_assoc vs (v ∷ []) (values_in (drop 8 xs))
    ∙ (ap (λ w. vs ++ w ∷ values_in (drop 8 xs)) is ∙ (ap (λ ws. vs ++ ws) (sym (values_step xs le)) ∙ all))

-- how many atoms and bytes there are
pub length-unpacked : (n : ℕ) (xs : List ℕ) → length (unpacked n xs).atoms ≡ n
unfolding unpacked
length-unpacked n xs = length-map-range_with_len (atom_in xs) 0 n

pub bytes_enough : (n : ℕ) (xs : List ℕ) → xs ≡ packed_bytes (unpacked n xs) → bytes_for n ≤ length xs
unfolding packed_bytes
bytes_enough n xs is =
    let s = unpacked n xs in
    let whole : length xs ≡ length (atom_bytes s.atoms) + length (flat_map value_bytes s.fluents) = ap length is ∙ length-append (atom_bytes s.atoms) (flat_map value_bytes s.fluents) in
    let front : length (atom_bytes s.atoms) ≡ bytes_for n = length-atom_bytes s.atoms ∙ ap bytes_for (length-unpacked n xs) in
    omega (arith, whole, front)

pub unpacked_parts : (n k : ℕ) (xs : List ℕ) (bs : List Bool) (vs : List ℤ) (s : State) → k ≡ bytes_for n → bs ≡ map (atom_in xs) (range_with_len 0 n) → vs ≡ values_in (drop k xs) → unpacked n xs ≡ s
    → record { atoms = bs; fluents = vs } ≡ s
unfolding unpacked
unpacked_parts n k xs bs vs s ek eb ev is =
    ap₂ (λ (bs : List Bool) (vs : List ℤ). record { atoms = bs; fluents = vs }) eb (ev ∙ ap (λ m. values_in (drop m xs)) ek) ∙ is

-- two packings
pub differ : (n m : ℕ) → (n ≡ m → ⊥) → nat_eq n m ≡ false
differ n m other =
    elim (nat_eq n m) as (λ b. nat_eq n m ≡ b → nat_eq n m ≡ false) [
      | true ↦ λ e. absurd (other (eqb-true n m e))
      | false ↦ λ e. e
    ] refl

pub same_is : (n m : ℕ) (xs ys : List ℕ) (s t : State) → unpacked n xs ≡ s → unpacked m ys ≡ t → xs ≡ packed_bytes (unpacked n xs) → ys ≡ packed_bytes (unpacked m ys)
    → same_packing s t ≡ (nat_eq n m && pointwise nat_eq xs ys)
unfolding same_packing
same_is n m xs ys s t es et ex ey =
    ap₂ (λ (u v : State). nat_eq (length u.atoms) (length v.atoms) && pointwise nat_eq (packed_bytes u) (packed_bytes v)) (sym es) (sym et)
    ∙ ap₂ (λ (a b : Bool). a && b) (ap₂ nat_eq (length-unpacked n xs) (length-unpacked m ys)) (ap₂ (pointwise nat_eq) (sym ex) (sym ey))

pub same_states : (n m : ℕ) (xs ys : List ℕ) (s t : State) → unpacked n xs ≡ s → unpacked m ys ≡ t → n ≡ m → pointwise nat_eq xs ys ≡ true → s ≡ t
same_states n m xs ys s t es et en same = sym es ∙ (ap₂ unpacked en ((slice_eq-Decides Decides-eqb xs ys (pointwise nat_eq xs ys) refl).0 same) ∙ et)

-- a state's bytes, made one part after the other
pub packed_whole : (s : State) (none atoms all packed : List ℕ) (bs : List Bool) (vs : List ℤ) → none ≡ [] → atoms ≡ none ++ atom_bytes bs → all ≡ atoms ++ flat_map value_bytes vs → packed ≡ all → bs ≡ s.atoms → vs ≡ s.fluents
    → packed ≡ packed_bytes s
unfolding packed_bytes
packed_whole s none atoms all packed bs vs en ea el ep eb ev =
    ep ∙ (el ∙ ap₂ (λ (xs ys : List ℕ). xs ++ ys) (ea ∙ ap₂ (λ (xs ys : List ℕ). xs ++ ys) en (ap atom_bytes eb)) (ap (flat_map value_bytes) ev))

pub packed_back : (s : State) (n : ℕ) (xs : List ℕ) → n ≡ length s.atoms → xs ≡ packed_bytes s → AllByRecursion (FitsSigned w64) s.fluents → unpacked n xs ≡ s
packed_back s n xs en ex fit = ap₂ unpacked en ex ∙ unpacked_packed s fit

pub packed_keeps : (s : State) (n : ℕ) (xs : List ℕ) → n ≡ length s.atoms → xs ≡ packed_bytes s → AllByRecursion (FitsSigned w64) s.fluents → xs ≡ packed_bytes (unpacked n xs)
packed_keeps s n xs en ex fit = ex ∙ ap packed_bytes (sym (packed_back s n xs en ex fit))
