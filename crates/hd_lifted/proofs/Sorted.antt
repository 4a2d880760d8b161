-- Sorted lists are in the order of their keys.
use Rattle.std.proofs.Common.{◌≡◌, ℕ, ◌<◌, Bool, true, false, List, length, get_or, Contains, refl, sym, ◌∙◌, subst, true≢false, arith}
use Rattle.std.specs.Prelude.{nat_eq}
use Rattle.std.specs.List.{list_any, IsDistinct}
use Rattle.std.specs.List.Sorted.{IsSorted}
use Rattle.std.specs.declared.cmp.Ordering.{Ordering}
use Rattle.std.specs.declared.cmp.Ordering.TheVariants.{Less, Equal, Greater}
use Rattle.std.specs.Ordering.{nat_cmp, is_lt, is_eq, ordering_reverse}
use Rattle.std.specs.Cmp.Lexicographic.{pointwise, slice_cmp, texts_ties}
use Rattle.std.proofs.lemmas.Cmp.{nat_list_cmp_total}
use Rattle.std.proofs.lemmas.List.Sorted.{sorted_far, ranks_by}
use Rattle.std.proofs.lemmas.Map.Keys.{apart_from_distinct}
use Rattle.std.proofs.lemmas.Slice.Eq.{bytes_eq-Decides}
use Rattle.hd_base.proofs.Tests.{list_any-from_contains}
use Rattle.hd_lifted.proofs.Passing.{passing-from_any}
use Rattle.hd_lifted.specs.Numbering.{HasExactly}

less-from : (there back : Ordering) → there ≡ ordering_reverse back → is_lt back ≡ false → is_eq there ≡ false → there ≡ Less
less-from Less back e lt eq = refl
less-from Equal back e lt eq = absurd (true≢false eq)
less-from Greater Less e lt eq = absurd (true≢false lt)
less-from Greater Equal e lt eq = absurd (cc)
less-from Greater Greater e lt eq = absurd (cc)

-- two with one key are one
module _ {X : Type 0} (key : X → List ℕ) (one : (x y : X) → key x ≡ key y → x ≡ y) where
  -- the order of keys
  abbrev key_cmp : X → X → Ordering
  key_cmp x y = slice_cmp nat_cmp (key x) (key y)

  -- two have one key
  abbrev key_eq : X → X → Bool
  key_eq x y = pointwise nat_eq (key x) (key y)

  comes_before : (xs : List X) (i j : ℕ) (d : X) → IsSorted key_cmp xs → IsDistinct key_eq xs → i < j → j < length xs
      → key_cmp (get_or xs i d) (get_or xs j d) ≡ Less
  comes_before xs i j d sorted distinct lt within =
      let a = key (get_or xs i d) in
      let b = key (get_or xs j d) in
      less-from (slice_cmp nat_cmp a b) (slice_cmp nat_cmp b a) (nat_list_cmp_total.antisymm a b)
      (sorted_far (λ (x y : X). is_lt (key_cmp x y)) (ranks_by nat_list_cmp_total key) xs sorted i j d (omega (arith, lt)) within)
      (sym (texts_ties a b) ∙ apart_from_distinct key_eq xs i j d distinct lt within)

  -- a test that finds one finds that one
  found_by_test : (xs : List X) (x : X) → list_any (key_eq x) xs ≡ true → Contains xs x
  found_by_test xs x e =
      let p = passing-from_any (key_eq x) xs e in
      subst (Contains xs) (sym (one x p.value ((bytes_eq-Decides (key x) (key p.value)).0 p.passes))) p.among

  test_finds : (xs : List X) (x : X) → Contains xs x → list_any (key_eq x) xs ≡ true
  test_finds xs x c = list_any-from_contains (key_eq x) xs x c ((bytes_eq-Decides (key x) (key x)).1 refl)

  -- what was sorted is in the order of the keys, and there is exactly what was there
  pub in_order : (old new : List X) → IsSorted key_cmp new → IsDistinct key_eq new
      → ((x : X) → list_any (key_eq x) new ≡ list_any (key_eq x) old) → HasExactly (Contains old) key new
  in_order old new sorted distinct alike = record {
    exactly = λ x. (
      (λ c. found_by_test new x (alike x ∙ test_finds old x c)),
      (λ c. found_by_test old x (sym (alike x) ∙ test_finds new x c)),
    );
    rising = λ i j d lt within. comes_before new i j d sorted distinct lt within;
  }
