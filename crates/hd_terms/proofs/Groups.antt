-- A typed list is read group by group.
use Rattle.std.proofs.Common.{◌≡◌, ℕ, ◌+◌, ◌==◌, not, nat_lt, Bool, true, false, ◌&&◌, cond, arith, length, List, [], ◌∷◌, ◌++◌, Option, Some, None, refl, sym, ap, ◌∙◌, append_assoc}
use Rattle.std.proofs.lemmas.List.{append-nil}
use Rattle.std.proofs.lemmas.Bool.Decides.{nat_tests}
use Rattle.hd_base.specs.Options.{◌>>=◌}
use Rattle.hd_forms.specs.declared.error.ReadError.{ReadError}
use Rattle.hd_forms.specs.declared.error.ReadError.TheVariants as errors
use Rattle.hd_forms.specs.declared.names.NameAt.{NameAt}
use Rattle.hd_forms.specs.declared.word.FormWord.{FormWord}
use Rattle.hd_forms.specs.Forms.{Forms, none, word, list}
use Rattle.hd_forms.specs.Reading.{Refuses, placed_name, name_in, name_at}
use Rattle.hd_terms.specs.declared.tree.Typed.{Typed}
use Rattle.hd_terms.specs.declared.typed.ItemKind.{ItemKind}
use Rattle.hd_terms.specs.Typed.{with_type}
use Rattle.hd_terms.specs.Reading.{item_in, is_minus_term, items_read, behind_items, items_from, rest_from, some_or, type_behind, typed_after, typed_behind}

-- what is read after a group, once its type is known
abbrev pub typed_by_group : ItemKind → List Typed → List NameAt → Option NameAt × Forms → Option (List Typed)
typed_by_group k found items group = typed_after k group.1 (found ++ with_type group.0 items) []

-- a name at this place, and what follows it
abbrev named : ℕ → Forms → List ℕ → Option (NameAt × Forms)
named b more t = Some (placed_name t b, more)

-- a name taken for a type
abbrev as_type : NameAt × Forms → Option (Option NameAt × Forms)
as_type n = Some (Some n.0, n.1)

-- the type of items, by the name that is read after the `-`
by_type : (k : ItemKind) (b : ℕ) (more : Forms) (found : List Typed) (items : List NameAt) (n : Option (List ℕ))
    → (n >>= λ t. typed_after k more (found ++ with_type (Some (placed_name t b)) items) [])
    ≡ (((n >>= named b more) >>= as_type) >>= typed_by_group k found items)
by_type k b more found items (Some t) = refl
by_type k b more found items None = refl

behind_minus : (k : ItemKind) (rest : Forms) (found : List Typed) (items : List NameAt)
    → typed_behind k rest found items ≡ ((name_at rest >>= as_type) >>= typed_by_group k found items)
unfolding typed_after
behind_minus k none found items = refl
behind_minus k (word b v more) found items = by_type k b more found items (name_in v)
behind_minus k (list a inside b more) found items = refl

cond-bind : {A B : Type 0} (b : Bool) (x : Option A) (f : A → Option B) → cond b (x >>= f) None ≡ (cond b x None >>= f)
cond-bind true x f = refl
cond-bind false x f = refl

-- the same, where the first word is an item or not
group-word : (k : ItemKind) (at : ℕ) (w : FormWord) (rest : Forms) (found : List Typed) (pending : List NameAt) (item : Option (List ℕ))
    → ((ps : List NameAt) → typed_after k rest found ps
    ≡ (type_behind (not (length (ps ++ items_read k rest) == 0)) (behind_items k rest) >>= typed_by_group k found (ps ++ items_read k rest)))
    → some_or item (λ n. typed_after k rest found (pending ++ placed_name n at ∷ []))
    (cond (is_minus_term w && not (length pending == 0)) (typed_behind k rest found pending) None)
    ≡ (type_behind (not (length (pending ++ items_from item at (items_read k rest)) == 0)) (rest_from item (word at w rest) (behind_items k rest))
    >>= typed_by_group k found (pending ++ items_from item at (items_read k rest)))
unfolding type_behind
group-word k at w rest found pending (Some n) more =
    more (pending ++ placed_name n at ∷ [])
    ∙ ap (λ (ps : List NameAt). type_behind (not (length ps == 0)) (behind_items k rest) >>= typed_by_group k found ps)
    (append_assoc pending (placed_name n at ∷ []) (items_read k rest))
group-word k at w rest found pending None more =
    rw append-nil (
    ap (λ (r : Option (List Typed)). cond (is_minus_term w && not (length pending == 0)) r None) (behind_minus k rest found pending)
    ∙ cond-bind (is_minus_term w && not (length pending == 0)) (name_at rest >>= as_type) (typed_by_group k found pending)
    )

-- a group is its items and the type after them
group-read : (k : ItemKind) (f : Forms) (found : List Typed) (pending : List NameAt)
    → typed_after k f found pending
    ≡ (type_behind (not (length (pending ++ items_read k f) == 0)) (behind_items k f) >>= typed_by_group k found (pending ++ items_read k f))
unfolding typed_after items_read behind_items type_behind
group-read k none found pending =
    ap Some (sym (append-nil (found ++ with_type None pending)) ∙ ap (λ (ps : List NameAt). (found ++ with_type None ps) ++ []) (sym (append-nil pending)))
group-read k (word at w rest) found pending =
    group-word k at w rest found pending (item_in k w) (λ ps. group-read k rest found ps)
group-read k (list a inside b rest) found pending = refl

-- whether there are items, by how much is after them
some-items : (behind items all : ℕ) → behind + items ≡ all → nat_lt behind all ≡ not (items == 0)
some-items behind items all same = grind (arith, nat_tests)

pub typed-group : (k : ItemKind) (f : Forms) (found : List Typed) (behind all : ℕ) → behind + length (items_read k f) ≡ all
    → typed_after k f found [] ≡ (type_behind (nat_lt behind all) (behind_items k f) >>= typed_by_group k found (items_read k f))
typed-group k f found behind all same = rw (some-items behind (length (items_read k f)) all same) (group-read k f found [])

-- a step that refuses refuses what follows it
pub Refuses-bind : {A B : Type 0} (e : ReadError) (r : Option A) (f : A → Option B) → Refuses e r → Refuses e (r >>= f)
Refuses-bind errors.NoMemory r f refuses = tt
Refuses-bind (errors.Lex x) r f refuses = refuses
Refuses-bind (errors.Unbalanced at) r f refuses = refuses
Refuses-bind {A = A} (errors.Unexpected at) r f refuses = ap (λ (x : Option A). x >>= f) refuses
Refuses-bind {A = A} (errors.Unsupported w at) r f refuses = ap (λ (x : Option A). x >>= f) refuses
Refuses-bind (errors.TooDeep at) r f refuses = refuses

-- nothing follows
pub typed-end : (k : ItemKind) (found : List Typed) → typed_after k none found [] ≡ Some found
unfolding typed_after
typed-end k found = ap Some (append-nil found)
