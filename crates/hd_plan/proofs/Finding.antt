-- The numbers of names, found in lists.
use Rattle.std.proofs.Common.{◌≡◌, ℕ, zero, suc, Bool, true, false, cond, List, [], ◌∷◌, ◌++◌, map, Option, Some, None, slice_get, refl, sym, ap, ◌∙◌, subst, append_assoc, true≢false}
use Rattle.std.specs.List.{AllZip, list_any, position, position_or_len}
use Rattle.std.specs.Option.{IsSomeAnd}
use Rattle.std.specs.Str.{bytes_eq}
use Rattle.std.proofs.lemmas.List.{map-append}
use Rattle.std.proofs.lemmas.List.Quantifiers.{position-Some}
use Rattle.std.proofs.lemmas.Option.{none-some, same_Some, slice_get-get_or}
use Rattle.std.proofs.lemmas.Slice.Eq.{bytes_eq-Decides}
use Rattle.hd_base.proofs.Tests.{list_any-map, position-map, list_any-from_contains, nat_lt-position_or_len}
use Rattle.hd_base.specs.Names.{is_named}
use Rattle.indexmap.specs.IndexSet.{insert_key}
use Rattle.hd_lifted.proofs.Passing.{Contains-slice_get}
use Rattle.hd_lifted.specs.declared.task.Object as declared
use Rattle.hd_lifted.specs.declared.task.LiftedTask.{LiftedTask}
use Rattle.hd_plan.specs.Naming.{IsObjectNamed}
use Rattle.hd_plan.specs.Tables.{names_of_objects, behind, with_number, numbers_of}

-- ---- the keys of tables, and the bytes that contracts see of them

-- a new key goes last
pub keys-insert : {K : Type 0} (view : K → List ℕ) (ks : List K) (k : K) → is_named (map view ks) (view k) ≡ false
    → map view (insert_key (λ x y. bytes_eq (view x) (view y)) ks k) ≡ map view ks ++ view k ∷ []
keys-insert view ks k new =
    let absent : list_any (λ x. bytes_eq (view k) (view x)) ks ≡ false = sym (list_any-map (bytes_eq (view k)) view ks) ∙ new in
    rw absent (map-append view ks (k ∷ []))

-- the place of a name among keys, where the key that is looked for has its bytes
pub position-views : {K : Type 0} (view : K → List ℕ) (ks : List K) (names : List (List ℕ)) (key name : List ℕ) (found : Option ℕ)
    → names ≡ map view ks → key ≡ name → found ≡ position (λ k. bytes_eq key (view k)) ks
    → found ≡ position (bytes_eq name) names
position-views view ks names key name found seen same is = is ∙ sym (rw (seen, ← same, position-map (bytes_eq key) view ks) refl)

-- ---- numbers in front

pub behind_more : (front : List ℕ) (k : ℕ) (more : Option (List ℕ)) → behind front (behind (k ∷ []) more) ≡ behind (front ++ k ∷ []) more
behind_more front k None = refl
behind_more front k (Some ks) = ap (λ l. Some l) (sym (append_assoc front (k ∷ []) ks))

pub behind_nil : (more : Option (List ℕ)) → behind [] more ≡ more
behind_nil None = refl
behind_nil (Some ks) = refl

-- ---- places

-- a name that is found stands there
pub found_at : (names : List (List ℕ)) (n : List ℕ) (k : ℕ) → position (bytes_eq n) names ≡ Some k → slice_get names k ≡ Some n
found_at names n k e =
    let found = position-Some (bytes_eq n) names k [] e in
    slice_get-get_or names k [] found.0 ∙ ap Some (sym ((bytes_eq-Decides n _).0 found.1))

none-false : (b : Bool) (k : ℕ) → cond b (Some k) None ≡ None → b ≡ false
none-false true k e = absurd (none-some k (sym e))
none-false false k e = refl

-- one that is not found stands nowhere
pub found_nowhere : (names : List (List ℕ)) (n : List ℕ) (k : ℕ) → position (bytes_eq n) names ≡ None → slice_get names k ≡ Some n → ⊥
found_nowhere names n k e at =
    true≢false
    (sym (list_any-from_contains (bytes_eq n) names n (Contains-slice_get names k n at) ((bytes_eq-Decides n n).1 refl))
    ∙ (sym (nat_lt-position_or_len (bytes_eq n) names) ∙ none-false _ (position_or_len (bytes_eq n) names) e))

-- what stands at a place has the name that stands there among the names
pub named_at : {X : Type 0} (f : X → List ℕ) (xs : List X) (k : ℕ) (n : List ℕ) → slice_get (map f xs) k ≡ Some n → IsSomeAnd (slice_get xs k) (λ x. f x ≡ n)
named_at f [] k n e = absurd (none-some n e)
named_at f (x ∷ xs) zero n e = same_Some (f x) n e
named_at f (x ∷ xs) (suc k) n e = named_at f xs k n e

pub name_at : {X : Type 0} (f : X → List ℕ) (xs : List X) (k : ℕ) (n : List ℕ) → IsSomeAnd (slice_get xs k) (λ x. f x ≡ n) → slice_get (map f xs) k ≡ Some n
name_at f [] k n e = absurd e
name_at f (x ∷ xs) zero n e = ap Some e
name_at f (x ∷ xs) (suc k) n e = name_at f xs k n e

-- ---- objects

pub object_named : (t : LiftedTask) (n : List ℕ) (k : ℕ) → position (bytes_eq n) (names_of_objects t.objects) ≡ Some k → IsObjectNamed t k n
object_named t n k e = named_at (λ (o : declared.Object). o.name) t.objects k n (found_at (names_of_objects t.objects) n k e)

pub object_unnamed : (t : LiftedTask) (n : List ℕ) (k : ℕ) → position (bytes_eq n) (names_of_objects t.objects) ≡ None → IsObjectNamed t k n → ⊥
object_unnamed t n k e is = found_nowhere (names_of_objects t.objects) n k e (name_at (λ (o : declared.Object). o.name) t.objects k n is)

-- the numbers that are found are those of the names
pub objects_named : (t : LiftedTask) (ns : List (List ℕ)) (numbers : List ℕ) → numbers_of (names_of_objects t.objects) ns ≡ Some numbers
    → AllZip (IsObjectNamed t) numbers ns
objects_named t [] numbers e = subst (λ (ks : List ℕ). AllZip (IsObjectNamed t) ks []) (same_Some [] numbers e) tt
objects_named t (n ∷ ns) numbers e =
    by (λ ks rest. objects_named t ns ks rest) (position (bytes_eq n) (names_of_objects t.objects)) refl (numbers_of (names_of_objects t.objects) ns) refl e
  where
    by : ((ks : List ℕ) → numbers_of (names_of_objects t.objects) ns ≡ Some ks → AllZip (IsObjectNamed t) ks ns) → (o : Option ℕ) → position (bytes_eq n) (names_of_objects t.objects) ≡ o → (p : Option (List ℕ)) → numbers_of (names_of_objects t.objects) ns ≡ p
        → with_number o p ≡ Some numbers → AllZip (IsObjectNamed t) numbers (n ∷ ns)
    by more None at p rest e = absurd (none-some numbers e)
    by more (Some k) at None rest e = absurd (none-some numbers e)
    by more (Some k) at (Some ks) rest e =
        subst (λ (xs : List ℕ). AllZip (IsObjectNamed t) xs (n ∷ ns)) (same_Some (k ∷ ks) numbers e) (object_named t n k at, more ks rest)

-- where none are found there are none
pub objects_unnamed : (t : LiftedTask) (ns : List (List ℕ)) (numbers : List ℕ) → numbers_of (names_of_objects t.objects) ns ≡ None
    → AllZip (IsObjectNamed t) numbers ns → ⊥
objects_unnamed t [] numbers e zip = none-some [] (sym e)
objects_unnamed t (n ∷ ns) [] e zip = zip
objects_unnamed t (n ∷ ns) (k ∷ ks) e zip =
    by (λ rest. objects_unnamed t ns ks rest zip.1) (position (bytes_eq n) (names_of_objects t.objects)) refl (numbers_of (names_of_objects t.objects) ns) refl e
  where
    by : (numbers_of (names_of_objects t.objects) ns ≡ None → ⊥) → (o : Option ℕ) → position (bytes_eq n) (names_of_objects t.objects) ≡ o → (p : Option (List ℕ)) → numbers_of (names_of_objects t.objects) ns ≡ p
        → with_number o p ≡ None → ⊥
    by less None at p rest e = object_unnamed t n k at zip.0
    by less (Some j) at None rest e = less rest
    by less (Some j) at (Some js) rest e = none-some (j ∷ js) (sym e)
