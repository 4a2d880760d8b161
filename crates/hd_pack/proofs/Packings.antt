-- What stands in the bytes of a packing: the atoms and values of its state, also after a change.
use Rattle.std.proofs.Math.Seq.{take-append_seam}
use Rattle.std.proofs.Common.{◌≡◌, ℕ, ◌+◌, ◌*◌, ◌<◌, ◌≤◌, ◌/◌, Bool, false, not, List, ◌++◌, length, take, drop, get_or, map, sym, ap, ap₂, ◌∙◌, subst, arith, length-set}
use Rattle.std.specs.Prelude.{ℤ, Some, None, slice_get}
use Rattle.std.specs.Int.{w64}
use Rattle.std.specs.Int.RustNames.{FitsSigned}
use Rattle.std.specs.List.{flat_map, range_with_len, AllByRecursion}
use Rattle.std.proofs.lemmas.Option.{slice_get-get_or, slice_get_past}
use Rattle.std.proofs.lemmas.List.FromFn.{get_or-map-range_with_len, length-map-range_with_len}
use Rattle.std.proofs.lemmas.List.{length-append}
use Rattle.hd_task.specs.declared.state.State.{State}
use Rattle.hd_zobrist.specs.declared.change.Change.TheVariants.{Atom}
use Rattle.hd_zobrist.specs.Hash.{changed}
use Rattle.hd_pack.specs.Packing.{atom_bytes, atom_in, bytes_for, value_bytes, values_in, packed_bytes, unpacked, flipped, replaced, IsPacking}
use Rattle.hd_pack.specs.Leading.{with_value}
use Rattle.hd_pack.proofs.AtomBits.{length-atom_bytes, flipped_before}
use Rattle.hd_pack.proofs.Trips.{length-unpacked, packed_back, packed_keeps}
use Rattle.hd_pack.proofs.ValueBytes.{fit-set, length-values, replaced_behind, value_replaced}

-- ---- an atom that is read

pub atom_within : (n : ℕ) (xs : List ℕ) (s : State) (i : ℕ) → unpacked n xs ≡ s → i < n → slice_get s.atoms i ≡ Some (atom_in xs i)
unfolding unpacked
atom_within n xs s i is lt =
    let all = map (atom_in xs) (range_with_len 0 n) in
    let count = length-map-range_with_len (atom_in xs) 0 n in
    ap (λ (s : State). slice_get s.atoms i) (sym is)
    ∙ (slice_get-get_or all i false (omega (arith, lt, count))
    ∙ ap (λ (b : Bool). Some b) (get_or-map-range_with_len (atom_in xs) 0 n i i false lt (omega arith)))

pub atom_beyond : (n : ℕ) (xs : List ℕ) (s : State) (i : ℕ) → unpacked n xs ≡ s → n ≤ i → slice_get s.atoms i ≡ None
atom_beyond n xs s i is le =
    let count = length-unpacked n xs in
    ap (λ (s : State). slice_get s.atoms i) (sym is) ∙ slice_get_past (unpacked n xs).atoms i (omega (arith, le, count))

-- ---- a packing and its state

-- what a packing's parts are of its state
pub record Parts (n : ℕ) (xs : List ℕ) (s : State) : Type 0 where
  pub count : n ≡ length s.atoms
  pub bytes : xs ≡ packed_bytes s
  pub fit : AllByRecursion (FitsSigned w64) s.fluents

pub parts_of : (n : ℕ) (xs : List ℕ) (s : State) → unpacked n xs ≡ s → IsPacking n xs → Parts n xs s
parts_of n xs s is packing = record {
  count = sym (length-unpacked n xs) ∙ ap (λ (s : State). length s.atoms) is;
  bytes = packing.packed ∙ ap packed_bytes is;
  fit = subst (λ (s : State). AllByRecursion (FitsSigned w64) s.fluents) is packing.fit;
}

pub state_of : (n : ℕ) (xs : List ℕ) (s : State) → Parts n xs s → unpacked n xs ≡ s
state_of n xs s parts = packed_back s n xs parts.count parts.bytes parts.fit

pub packing_of : (n : ℕ) (xs : List ℕ) (s : State) → Parts n xs s → IsPacking n xs
packing_of n xs s parts = record {
  packed = packed_keeps s n xs parts.count parts.bytes parts.fit;
  fit = subst (λ (s : State). AllByRecursion (FitsSigned w64) s.fluents) (sym (state_of n xs s parts)) parts.fit;
}

-- ---- changes

pub parts_flipped : (n : ℕ) (xs ys : List ℕ) (s : State) (i : ℕ) → Parts n xs s → i < length s.atoms → ys ≡ flipped xs i → Parts n ys (changed s (Atom i))
unfolding packed_bytes
parts_flipped n xs ys s i parts lt is = record {
  count = parts.count ∙ sym (length-set s.atoms i (not (get_or s.atoms i false)));
  bytes = is ∙ (ap (λ (ns : List ℕ). flipped ns i) parts.bytes ∙ flipped_before s.atoms (flat_map value_bytes s.fluents) i lt);
  fit = parts.fit;
}

pub parts_put : (n : ℕ) (xs ys : List ℕ) (s : State) (j : ℕ) (v : ℤ) → Parts n xs s → j < length s.fluents → FitsSigned w64 v → ys ≡ replaced (bytes_for n + 8 * j) xs (value_bytes v) → Parts n ys (with_value s j v)
unfolding packed_bytes
parts_put n xs ys s j v parts lt fits is = record {
  count = parts.count;
  bytes = is
      ∙ (ap₂ (λ (k : ℕ) (ns : List ℕ). replaced (k + 8 * j) ns (value_bytes v)) (ap bytes_for parts.count ∙ sym (length-atom_bytes s.atoms)) parts.bytes
      ∙ (replaced_behind (atom_bytes s.atoms) (8 * j) (flat_map value_bytes s.fluents) (value_bytes v)
      ∙ ap (λ (ns : List ℕ). atom_bytes s.atoms ++ ns) (value_replaced s.fluents j v lt)));
  fit = fit-set s.fluents j v fits parts.fit;
}

-- ---- how many bytes there are

pub length-bytes : (n : ℕ) (xs : List ℕ) (s : State) → Parts n xs s → length xs ≡ bytes_for n + 8 * length s.fluents
unfolding packed_bytes
length-bytes n xs s parts =
    let e : length xs ≡ length (atom_bytes s.atoms ++ flat_map value_bytes s.fluents) = ap length parts.bytes in
    let whole = length-append (atom_bytes s.atoms) (flat_map value_bytes s.fluents) in
    let front = length-atom_bytes s.atoms in
    let back = length-values s.fluents in
    let count : bytes_for n ≡ bytes_for (length s.atoms) = ap bytes_for parts.count in
    omega (arith, e, whole, front, back, count)

pub atom_byte : (n : ℕ) (xs : List ℕ) (s : State) (i : ℕ) → Parts n xs s → i < length s.atoms → i / 8 < length xs
atom_byte n xs s i parts lt = let e = length-bytes n xs s parts in let c = parts.count in omega (arith, e, c, lt)

pub value_place : (n : ℕ) (xs : List ℕ) (s : State) (j : ℕ) → Parts n xs s → j < length s.fluents → bytes_for n + 8 * j + 8 ≤ length xs
value_place n xs s j parts lt = let e = length-bytes n xs s parts in omega (arith, e, lt)

-- ---- a value that is read

pub values_of : (n : ℕ) (xs : List ℕ) (s : State) → unpacked n xs ≡ s → values_in (drop (bytes_for n) xs) ≡ s.fluents
unfolding unpacked
values_of n xs s is = ap (λ (s : State). s.fluents) is

-- bytes that are written over as a whole, by as many
pub refilled_is : (xs ws : List ℕ) → length ws ≡ length xs → take (length xs) (ws ++ drop (length ws) xs) ≡ ws
refilled_is xs ws e = ap (λ (k : ℕ). take k (ws ++ drop (length ws) xs)) (sym e) ∙ take-append_seam ws (drop (length ws) xs)
