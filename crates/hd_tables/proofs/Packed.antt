-- Packed states one after the other: where each stands, and one more.
use Rattle.std.proofs.Common.{◌≡◌, ℕ, zero, suc, ◌+◌, ◌*◌, ◌<◌, ◌≤◌, List, [], ◌∷◌, ◌++◌, Some, length, take, drop, slice_get, refl, sym, ap, ap₂, ◌∙◌, subst, arith, length-append, length-drop, length-take-le, take_all, drop_of_length-le}
use Rattle.std.proofs.Math.Seq.{drop-drop}
use Rattle.std.proofs.lemmas.List.{take-append-le}
use Rattle.std.specs.Prelude.{Bool, true, ◌&&◌, nat_eq}
use Rattle.std.specs.Cmp.Lexicographic.{pointwise}
use Rattle.std.proofs.lemmas.Bool.{eqb-true}
use Rattle.std.specs.Int.{w64}
use Rattle.std.specs.Int.RustNames.{FitsSigned}
use Rattle.std.specs.List.{AllByRecursion}
use Rattle.hd_task.specs.declared.state.State.{State}
use Rattle.hd_pack.specs.Packing.{packed_bytes, unpacked, same_packing, IsPacking}
use Rattle.hd_pack.proofs.Trips.{length-unpacked}
use Rattle.hd_task.specs.declared.task.TheConstants.{MAX_ATOMS, MAX_FLUENTS}
use Rattle.hd_pack.specs.Packing.{bytes_for}
use Rattle.hd_pack.proofs.Packings.{Parts, state_of, parts_of, packing_of, length-bytes}
use Rattle.hd_tables.specs.Rows.{row_in, states_in, AreRows, IsWhole}

-- no atoms and no fluents
pub parts_empty : (xs : List ℕ) → xs ≡ [] → Parts 0 xs (record { atoms = []; fluents = [] })
unfolding packed_bytes
parts_empty xs is = record { count = refl; bytes = is; fit = tt }

-- the row after the first is the first of the others
row_after : (width : ℕ) (bytes : List ℕ) (place : ℕ) → row_in width (drop width bytes) place ≡ row_in width bytes (suc place)
row_after width bytes place = ap (take width) (drop-drop (place * width) width bytes ∙ ap (λ (n : ℕ). drop n bytes) (omega arith))

module _ (state : List ℕ → State) where
  pub rows_count : (width : ℕ) (bytes : List ℕ) (count : ℕ) → length (states_in state width bytes count) ≡ count
  rows_count width bytes zero = refl
  rows_count width bytes (suc count) = ap suc (rows_count width (drop width bytes) count)

module _ (P : List ℕ → Type 0) where
  pub rows_length : (width : ℕ) (bytes : List ℕ) (count : ℕ) → AreRows P width bytes count → length bytes ≡ count * width
  rows_length width bytes zero all = let e : length bytes ≡ 0 = ap length all in omega arith
  rows_length width bytes (suc count) all =
      let rest = rows_length width (drop width bytes) count all.2 in
      let le = all.0 in
      omega (arith, rest, le, length-drop width bytes)

  -- the row at a place is within the bytes
  pub row_within : (width : ℕ) (bytes : List ℕ) (count place : ℕ) → AreRows P width bytes count → place < count → place * width + width ≤ length bytes
  row_within width bytes zero place all lt = absurd (omega arith)
  row_within width bytes (suc count) zero all lt = let le = all.0 in omega (arith, le)
  row_within width bytes (suc count) (suc place) all lt =
      let le = row_within width (drop width bytes) count place all.2 (omega arith) in
      let first = all.0 in
      omega (arith, le, first, length-drop width bytes)

  -- and is as it should be
  pub row_fits : (width : ℕ) (bytes : List ℕ) (count place : ℕ) → AreRows P width bytes count → place < count → P (row_in width bytes place)
  row_fits width bytes zero place all lt = absurd (omega arith)
  row_fits width bytes (suc count) zero all lt =
      let none : 0 * width ≡ 0 = omega arith in
      subst (λ (n : ℕ). P (take width (drop n bytes))) (sym none) all.1
  row_fits width bytes (suc count) (suc place) all lt =
      subst P (row_after width bytes place) (row_fits width (drop width bytes) count place all.2 (omega arith))

-- the state at a place
pub row_there :
    (state : List ℕ → State) (width : ℕ) (bytes : List ℕ) (count place : ℕ) → place < count
    → slice_get (states_in state width bytes count) place ≡ Some (state (row_in width bytes place))
row_there state width bytes zero place lt = absurd (omega arith)
row_there state width bytes (suc count) zero lt =
    let none : 0 * width ≡ 0 = omega arith in
    ap (λ (n : ℕ). Some (state (take width (drop n bytes)))) (sym none)
row_there state width bytes (suc count) (suc place) lt =
    row_there state width (drop width bytes) count place (omega arith)
    ∙ ap (λ (xs : List ℕ). Some (state xs)) (row_after width bytes place)

-- ---- one more

front_same : (width : ℕ) (xs ys : List ℕ) → width ≤ length xs → take width (xs ++ ys) ≡ take width xs
front_same width xs ys le = take-append-le width xs ys le

drop-append-le : (width : ℕ) (xs ys : List ℕ) → width ≤ length xs → drop width (xs ++ ys) ≡ drop width xs ++ ys
drop-append-le zero xs ys le = refl
drop-append-le (suc width) [] ys le = absurd (omega (arith, le))
drop-append-le (suc width) (x ∷ xs) ys le = drop-append-le width xs ys (omega (arith, le))

module _ (P : List ℕ → Type 0) where
  pub rows_push : (width : ℕ) (bytes more : List ℕ) (count : ℕ) → AreRows P width bytes count → length more ≡ width → P more → AreRows P width (bytes ++ more) (suc count)
  rows_push width bytes more zero all len fits =
      let is : bytes ++ more ≡ more = ap (λ (xs : List ℕ). xs ++ more) all in
      let whole : take width more ≡ more = take_all width more (omega (arith, len)) in (
        (let e = ap length is in omega (arith, e, len)),
        subst P (sym (ap (take width) is ∙ whole)) fits,
        ap (drop width) is ∙ drop_of_length-le more (omega (arith, len)),
      )
  rows_push width bytes more (suc count) all len fits = (
    (let le = all.0 in omega (arith, le, length-append bytes more)),
    subst P (sym (front_same width bytes more all.0)) all.1,
    subst (λ (xs : List ℕ). AreRows P width xs (suc count)) (sym (drop-append-le width bytes more all.0)) (rows_push width (drop width bytes) more count all.2 len fits),
  )

  pub states_push :
      (state : List ℕ → State) (width : ℕ) (bytes more : List ℕ) (count : ℕ) → AreRows P width bytes count → length more ≡ width
      → states_in state width (bytes ++ more) (suc count) ≡ states_in state width bytes count ++ state more ∷ []
  states_push state width bytes more zero all len =
      let is : bytes ++ more ≡ more = ap (λ (xs : List ℕ). xs ++ more) all in
      ap (λ (xs : List ℕ). state xs ∷ []) (ap (take width) is ∙ take_all width more (omega (arith, len)))
  states_push state width bytes more (suc count) all len =
      ap₂ (λ (s : State) (ss : List State). s ∷ ss) (ap state (front_same width bytes more all.0))
      (ap (λ (xs : List ℕ). states_in state width xs (suc count)) (drop-append-le width bytes more all.0)
      ∙ states_push state width (drop width bytes) more count all.2 len)

-- ---- the packing of a state that is given

pub parts_given : (atoms : ℕ) (s : State) → length s.atoms ≡ atoms → AllByRecursion (FitsSigned w64) s.fluents → Parts atoms (packed_bytes s) s
parts_given atoms s count fit = record { count = sym count; bytes = refl; fit = fit }

-- ---- the packing of a state of so many atoms and fluents

pub whole_of : (atoms fluents : ℕ) (bytes : List ℕ) (s : State) → Parts atoms bytes s → length s.fluents ≡ fluents → atoms ≤ MAX_ATOMS → fluents ≤ MAX_FLUENTS → IsWhole atoms fluents bytes
whole_of atoms fluents bytes s parts count few_atoms few = record {
  packing = packing_of atoms bytes s parts;
  values = ap (λ (u : State). length u.fluents) (state_of atoms bytes s parts) ∙ count;
  few_atoms = few_atoms;
  few = few;
}

-- what a row and the bytes of a packed state tell of both
pub packing_is : (n : ℕ) (xs ys : List ℕ) (s t : State) → unpacked n xs ≡ s → IsPacking n xs → ys ≡ packed_bytes t → same_packing s t ≡ (nat_eq n (length t.atoms) && pointwise nat_eq xs ys)
unfolding same_packing
packing_is n xs ys s t es packing ey =
    ap (λ (u : State). nat_eq (length u.atoms) (length t.atoms) && pointwise nat_eq (packed_bytes u) (packed_bytes t)) (sym es)
    ∙ ap₂ (λ (k : ℕ) (b : Bool). nat_eq k (length t.atoms) && b) (length-unpacked n xs) (ap₂ (pointwise nat_eq) (sym packing.packed) (sym ey))

-- a packed state with the bytes of a row is the row's
pub packed_is : (n : ℕ) (xs ys : List ℕ) (s t : State) → unpacked n xs ≡ s → ys ≡ packed_bytes t → nat_eq (length t.atoms) n ≡ true → xs ≡ ys → AllByRecursion (FitsSigned w64) t.fluents → s ≡ t
packed_is n xs ys s t es ey count same fit =
    sym es ∙ state_of n xs t (record { count = sym (eqb-true (length t.atoms) n count); bytes = same ∙ ey; fit = fit })

-- the bytes of a row
pub row_length : (width : ℕ) (bytes : List ℕ) (place : ℕ) → place * width + width ≤ length bytes → length (row_in width bytes place) ≡ width
row_length width bytes place le = length-take-le width (drop (place * width) bytes) (omega (arith, le, length-drop (place * width) bytes))

-- a row of so many bytes has so many fluents
pub row_whole : (atoms fluents : ℕ) (bytes : List ℕ) → IsPacking atoms bytes → length bytes ≡ bytes_for atoms + 8 * fluents → atoms ≤ MAX_ATOMS → fluents ≤ MAX_FLUENTS → IsWhole atoms fluents bytes
row_whole atoms fluents bytes packing width few_atoms few =
    let e = length-bytes atoms bytes (unpacked atoms bytes) (parts_of atoms bytes (unpacked atoms bytes) refl packing) in
    record { packing = packing; values = omega (arith, e, width); few_atoms = few_atoms; few = few }
