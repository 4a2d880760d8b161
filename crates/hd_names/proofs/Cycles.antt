-- The types above others: how many there are, and the cycles of those that are listed.
use Rattle.std.proofs.Common.{◌≡◌, ◌≢◌, ℕ, zero, suc, ◌+◌, ◌-◌, ◌<◌, ◌≤◌, Bool, true, false, inl, inr, List, [], ◌∷◌, ◌++◌, length, Option, Some, None, refl, sym, ap, ◌∙◌, arith}
use Rattle.std.specs.Prelude.{if◌then◌else◌, codes}
use Rattle.std.proofs.lemmas.Bool.{cases_lt}
use Rattle.std.proofs.lemmas.List.{length-map, length-append, length-replicate, get_or-append_right}
use Rattle.hd_base.proofs.Lists.{get_or-replicate_same}
use Rattle.hd_forms.specs.declared.names.NameAt.{NameAt}
use Rattle.hd_terms.specs.declared.tree.Typed.{Typed}
use Rattle.hd_lifted.specs.Types.{parent_of, ancestor, IsOnCycle}
use Rattle.hd_lifted.proofs.Types.{ancestor-object}
use Rattle.hd_base.specs.Names.{is_named}
use Rattle.hd_names.specs.Names.{with_name, names_declared, types_of}
use Rattle.hd_names.specs.Scope.{with_supertype, with_supertypes, type_names, parents_of_others, parents_of}

-- ---- how many types there are

name_grows : (names : List (List ℕ)) (n : List ℕ) → length names ≤ length (with_name names n)
name_grows names n = by (is_named names n) where
  by : (b : Bool) → length names ≤ length (if b then names else names ++ n ∷ [])
  by true = omega arith
  by false = omega (arith, length-append names (n ∷ []))

supertype_grows : (names : List (List ℕ)) (of : Option NameAt) → length names ≤ length (with_supertype names of)
supertype_grows names None = omega arith
supertype_grows names (Some n) = name_grows names n.name

supertypes_grow : (names : List (List ℕ)) (ts : List Typed) → length names ≤ length (with_supertypes names ts)
supertypes_grow names [] = omega arith
supertypes_grow names (t ∷ ts) =
    let first = supertype_grows names t.of in
    let rest = supertypes_grow (with_supertype names t.of) ts in
    omega (arith, first, rest)

-- `object` and the types that are listed are among them
pub types_many : (ts : List Typed) → length ts + 1 ≤ length (type_names ts)
types_many ts =
    let grown = supertypes_grow (codes "object" ∷ names_declared ts) ts in
    let long : length (names_declared ts) ≡ length ts = length-map ts _ in
    omega (arith, grown, long)

-- each type but `object` has a type above it
pub types_long : (ts : List Typed) → length (type_names ts) ≡ length (parents_of ts) + 1
types_long ts =
    let many = types_many ts in
    let both = length-append (types_of (type_names ts) ts) (parents_of_others ts) in
    let listed : length (types_of (type_names ts) ts) ≡ length ts = length-map ts _ in
    let others : length (parents_of_others ts) ≡ length (type_names ts) - 1 - length ts =
    length-replicate (length (type_names ts) - 1 - length ts) 0 in
    omega (arith, many, both, listed, others)

-- ---- cycles

-- above the types that are not listed is `object`
others_below_object : (ts : List Typed) (t : ℕ) → length ts < t → parent_of (parents_of ts) t ≡ 0
others_below_object ts zero lt = refl
others_below_object ts (suc t) lt =
    let listed : length (types_of (type_names ts) ts) ≡ length ts = length-map ts _ in
    get_or-append_right (types_of (type_names ts) ts) (parents_of_others ts) (length ts) t 0 listed (omega arith)
    ∙ get_or-replicate_same (length (type_names ts) - 1 - length ts) (t - length ts) 0

-- a type on a cycle is listed
pub cycle_listed : (ts : List Typed) (t : ℕ) → IsOnCycle (parents_of ts) t → (0 < t) × (t ≤ length ts)
cycle_listed ts t c =
    let above : 0 < t = positive t c.below_object in
    elim (cases_lt (length ts) t) [
      | inl lt ↦
          let end : ancestor (parents_of ts) (suc c.more_steps) t ≡ 0 =
          ap (λ u. ancestor (parents_of ts) c.more_steps u) (others_below_object ts t lt) ∙ ancestor-object (parents_of ts) c.more_steps in
          absurd (c.below_object (sym c.returns ∙ end))
      | inr le ↦ (above, le)
    ]
  where
    positive : (t : ℕ) → t ≢ 0 → 0 < t
    positive zero ne = absurd (ne refl)
    positive (suc t) ne = omega arith
