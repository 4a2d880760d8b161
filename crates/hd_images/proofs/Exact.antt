-- The gathered changes are exactly the effects.
use Rattle.std.proofs.Common.{◌≡◌, ℕ, true, List, [], ◌∷◌, map, filter, length, get_or, Contains, Option, Some, None, slice_get, refl, sym, ap, ap₂, ◌∙◌, subst, true≢false, arith}
use Rattle.std.specs.Prelude.{option_and_then}
use Rattle.std.specs.List.{AllPairs}
use Rattle.std.specs.BTreeMap.{BTreeMap, get, IsOrdered, is_at}
use Rattle.std.specs.Map.{keys_of}
use Rattle.std.specs.Ordering.{nat_cmp, ordering_then, is_eq}
use Rattle.std.specs.Cmp.Lexicographic.{slice_cmp}
use Rattle.std.specs.declared.cmp.Ordering.{Ordering}
use Rattle.std.specs.declared.cmp.Ordering.TheVariants.{Less, Equal, Greater}
use Rattle.std.proofs.lemmas.Cmp.{nat_cmp_total, ranked}
use Rattle.std.proofs.lemmas.List.{length-map, get_or-map}
use Rattle.std.proofs.lemmas.Map.Entries.{btree_map_get_place, place_from_lookup}
use Rattle.std.proofs.lemmas.Map.Keys.{Less-from_sorted}
use Rattle.std.proofs.lemmas.Option.{none-some, slice_get-get_or}
use Rattle.hd_base.proofs.Members.{Contains-map, IsFrom-from_map}
use Rattle.hd_lifted.specs.declared.schema.Ground.{Ground}
use Rattle.hd_lifted.specs.declared.schema.Schema.{Schema}
use Rattle.hd_task.specs.declared.effect.ValueChange.{ValueChange}
use Rattle.hd_task.specs.declared.effect.Effect.{Effect}
use Rattle.hd_lifted.proofs.Passing.{Contains-slice_get}
use Rattle.hd_grounding.specs.Images.{is_on, change_of}
use Rattle.hd_grounding.specs.Grounding.{IsEffectOf, HasEffectsOf}
use Rattle.hd_images.specs.Gathering.{change_in, effect_from}

-- the changes by number are those that a schema's effects make
abbrev AreChangesOf : List Ground → List ℕ → Schema → BTreeMap ℕ ValueChange → Type 0
AreChangesOf fluents objects a m = (n : ℕ) → get nat_cmp m n ≡ change_in fluents objects a.effects n

tied : (o : Ordering) (x y : ℕ) → o ≡ nat_cmp x y → is_eq o ≡ true → x ≡ y
tied Less x y e t = absurd (true≢false (sym t))
tied Equal x y e t = ranked x y Equal e
tied Greater x y e t = absurd (true≢false (sym t))

there : (fluents : List Ground) (objects : List ℕ) (a : Schema) (m : BTreeMap ℕ ValueChange) → AreChangesOf fluents objects a m
    → (x : Effect) → IsEffectOf fluents objects a x → Contains (map effect_from m.entries) x
there fluents objects a m are x is =
    let found : get nat_cmp m x.fluent ≡ Some x.change =
    are x.fluent ∙ (ap (option_and_then (λ g. change_of fluents objects (filter (is_on objects g) a.effects))) is.is_numbered ∙ is.is_change) in
    let p = place_from_lookup (is_at (nat_cmp x.fluent)) m.entries x.change found in
    let same : p.1 ≡ x.fluent = sym (tied (nat_cmp x.fluent p.1) x.fluent p.1 refl p.3) in
    subst (Contains (map effect_from m.entries)) (ap (λ (n : ℕ). let e : Effect = record { fluent = n; change = x.change } in e) same)
    (Contains-map effect_from m.entries (p.1, x.change) (Contains-slice_get m.entries p.0 (p.1, x.change) p.2))

numbered_change : (fluents : List Ground) (objects : List ℕ) (a : Schema) (x : Effect) → change_in fluents objects a.effects x.fluent ≡ Some x.change
    → IsEffectOf fluents objects a x
numbered_change fluents objects a x e =
    let change : Ground → Option ValueChange = λ g. change_of fluents objects (filter (is_on objects g) a.effects) in
    elim (slice_get fluents x.fluent) as (λ o. slice_get fluents x.fluent ≡ o → option_and_then change o ≡ Some x.change → IsEffectOf fluents objects a x) [
      | None ↦ λ _ none. absurd (none-some x.change none)
      | Some g ↦ λ at is. record { fluent = g; is_numbered = at; is_change = is }
    ] refl e

back : (fluents : List Ground) (objects : List ℕ) (a : Schema) (m : BTreeMap ℕ ValueChange) → IsOrdered nat_cmp m → AreChangesOf fluents objects a m
    → (x : Effect) → Contains (map effect_from m.entries) x → IsEffectOf fluents objects a x
back fluents objects a m ordered are x c =
    let from = IsFrom-from_map effect_from m.entries x c in
    let p = from.source in
    let k = from.among in
    let at : slice_get m.entries k.0 ≡ Some (p.0, p.1) = slice_get-get_or m.entries k.0 p k.1 ∙ ap Some k.2 in
    let found = btree_map_get_place nat_cmp_total m k.0 p.0 p.1 ordered at in
    subst (IsEffectOf fluents objects a) from.is (numbered_change fluents objects a (effect_from p) (sym (are p.0) ∙ found))

rising : (m : BTreeMap ℕ ValueChange) → IsOrdered nat_cmp m → AllPairs (λ (x y : Effect). slice_cmp nat_cmp (x.fluent ∷ []) (y.fluent ∷ []) ≡ Less) (map effect_from m.entries)
rising m ordered i j d lt within =
    let long : length (map effect_from m.entries) ≡ length m.entries = length-map m.entries effect_from in
    let keyed : length (keys_of m.entries) ≡ length m.entries = length-map m.entries (λ (e : ℕ × ValueChange). e.0) in
    let p : ℕ × ValueChange = (d.fluent, d.change) in
    let first : get_or (map effect_from m.entries) i d ≡ effect_from (get_or m.entries i p) = get_or-map effect_from m.entries i p d (omega arith) in
    let second : get_or (map effect_from m.entries) j d ≡ effect_from (get_or m.entries j p) = get_or-map effect_from m.entries j p d (omega arith) in
    let one : get_or (keys_of m.entries) i d.fluent ≡ (get_or m.entries i p).0 = get_or-map (λ (e : ℕ × ValueChange). e.0) m.entries i p d.fluent (omega arith) in
    let two : get_or (keys_of m.entries) j d.fluent ≡ (get_or m.entries j p).0 = get_or-map (λ (e : ℕ × ValueChange). e.0) m.entries j p d.fluent (omega arith) in
    ap₂ (λ (x y : ℕ). ordering_then (nat_cmp x y) Equal) (ap (λ (e : Effect). e.fluent) first ∙ sym one) (ap (λ (e : Effect). e.fluent) second ∙ sym two)
    ∙ ap (λ (o : Ordering). ordering_then o Equal) (Less-from_sorted nat_cmp (keys_of m.entries) i j d.fluent ordered lt (omega arith))

pub effects-exactly : (fluents : List Ground) (objects : List ℕ) (a : Schema) (m : BTreeMap ℕ ValueChange) → IsOrdered nat_cmp m → AreChangesOf fluents objects a m
    → HasEffectsOf fluents objects a (map effect_from m.entries)
effects-exactly fluents objects a m ordered are = record {
  exactly = λ x. (there fluents objects a m are x, back fluents objects a m ordered are x);
  rising = rising m ordered;
}
