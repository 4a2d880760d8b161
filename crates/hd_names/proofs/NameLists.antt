-- Keys of tables, and the lists of numbers or bytes that contracts see of them.
use Rattle.std.proofs.Common.{◌≡◌, ℕ, Bool, true, false, List, [], ◌∷◌, map, Option, Some, None, cond, refl, sym, ap, ◌∙◌, string_bytes, String}
use Rattle.std.specs.Prelude.{is_some}
use Rattle.std.proofs.lemmas.List.{map-append}
use Rattle.std.specs.List.{list_any, position, position_or_len}
use Rattle.std.specs.Str.{bytes_eq}
use Rattle.hd_base.proofs.Tests.{list_any-map, position-map, nat_lt-position_or_len}
use Rattle.indexmap.specs.IndexSet.{insert_key}
use Rattle.hd_base.specs.Names.{is_named}
use Rattle.hd_names.specs.Names.{with_name, or_zero, name_number}

-- a test of a key's numbers among keys, where the key that is looked for has those numbers
pub any-keys : {K : Type 0} (view : K → List ℕ) (ks : List K) (names : List (List ℕ)) (key name : List ℕ) (found : Bool)
    → names ≡ map view ks → key ≡ name → found ≡ list_any (λ k. bytes_eq key (view k)) ks
    → found ≡ list_any (bytes_eq name) names
any-keys view ks names key name found seen same is = is ∙ sym (rw (seen, ← same, list_any-map (bytes_eq key) view ks) refl)

-- a new key goes last, and one that is there leaves them as they are
pub keys-insert : {K : Type 0} (view : K → List ℕ) (ks : List K) (k : K)
    → map view (insert_key (λ x y. bytes_eq (view x) (view y)) ks k) ≡ with_name (map view ks) (view k)
keys-insert view ks k =
    let same = list_any-map (bytes_eq (view k)) view ks in
    by (is_named (map view ks) (view k)) same refl
  where
    by : (b : Bool) → is_named (map view ks) (view k) ≡ list_any (λ x. bytes_eq (view k) (view x)) ks
        → is_named (map view ks) (view k) ≡ b
        → map view (insert_key (λ x y. bytes_eq (view x) (view y)) ks k) ≡ with_name (map view ks) (view k)
    by true same there =
        let found : list_any (λ x. bytes_eq (view k) (view x)) ks ≡ true = sym same ∙ there in
        rw (found, there) refl
    by false same new =
        let absent : list_any (λ x. bytes_eq (view k) (view x)) ks ≡ false = sym same ∙ new in
        rw (absent, new) (map-append view ks (k ∷ []))

is_some-cond : {A : Type 0} (b : Bool) (x : A) → is_some (cond b (Some x) None) ≡ b
is_some-cond true x = refl
is_some-cond false x = refl

-- an element has a place exactly where some element passes the test
pub is_some-position : {X : Type 0} (p : X → Bool) (xs : List X) → is_some (position p xs) ≡ list_any p xs
is_some-position p xs =
    ap (λ b. is_some (cond b (Some (position_or_len p xs)) None)) (nat_lt-position_or_len p xs)
    ∙ is_some-cond (list_any p xs) (position_or_len p xs)

-- the place of a name among texts, where the text that is looked for has those bytes
pub position-texts : {Z : Type 0} (ks : List (String Z)) (names : List (List ℕ)) (text name : List ℕ) (found : Option ℕ)
    → names ≡ map string_bytes ks → text ≡ name → found ≡ position (λ k. bytes_eq text (string_bytes k)) ks
    → found ≡ position (bytes_eq name) names
position-texts ks names text name found view same is = is ∙ sym (rw (view, ← same, position-map (bytes_eq text) string_bytes ks) refl)

-- the number that is found
pub number_in-found : (names : List (List ℕ)) (n : List ℕ) (found : Option ℕ) → found ≡ position (bytes_eq n) names → or_zero found ≡ name_number names n
number_in-found names n found is = ap or_zero is
