-- The typed lists that are read are in the grammar.
use Rattle.std.proofs.Common.{◌≡◌, ℕ, true, ◌&&◌, ◌==◌, not, cond, length, List, [], ◌∷◌, ◌++◌, Option, Some, None, refl, sym, ap, subst, ◌∙◌, append_assoc}
use Rattle.std.proofs.lemmas.Option.{same_Some}
use Rattle.std.proofs.lemmas.Bool.{and_parts}
use Rattle.hd_base.proofs.Options.{cond_then_some}
use Rattle.hd_lex.specs.declared.token.Operator.TheVariants as operators
use Rattle.hd_forms.specs.declared.names.NameAt.{NameAt}
use Rattle.hd_forms.specs.declared.word.FormWord.{FormWord}
use Rattle.hd_forms.specs.declared.word.FormWord.TheVariants as words
use Rattle.hd_forms.specs.Forms.{Forms, none, word, list}
use Rattle.hd_forms.specs.Reading.{placed_name, name_in}
use Rattle.hd_forms.proofs.Inverting.{bind_some, name_in-some, variable_in-some}
use Rattle.hd_terms.specs.declared.tree.Typed.{Typed}
use Rattle.hd_terms.specs.declared.typed.ItemKind.{ItemKind}
use Rattle.hd_terms.specs.declared.typed.ItemKind.TheVariants as kinds
use Rattle.hd_terms.specs.Typed as gr
use Rattle.hd_terms.specs.Typed.{IsItem, AreItems, AreTyped, with_type}
use Rattle.hd_terms.specs.Reading.{item_in, is_minus_term, some_or, typed_after, typed_behind}

IsItem-item_in : (k : ItemKind) (w : FormWord) (n : List ℕ) → item_in k w ≡ Some n → IsItem k w n
IsItem-item_in kinds.Name w n e = subst (λ (v : FormWord). IsItem kinds.Name v n) (sym (name_in-some w n e)) gr.name
IsItem-item_in kinds.Variable w n e = subst (λ (v : FormWord). IsItem kinds.Variable v n) (sym (variable_in-some w n e)) gr.variable

pub is_minus_term-true : (w : FormWord) → is_minus_term w ≡ true → w ≡ words.Operator operators.Minus
is_minus_term-true (words.Operator operators.Minus) e = refl
is_minus_term-true w e = absurd cc

-- one item more after others
AreItems-push : {k : ItemKind} {g rest : Forms} {ns : List NameAt} {at : ℕ} {w : FormWord} {n : List ℕ}
    → AreItems k g ns (word at w rest) → IsItem k w n → AreItems k g (ns ++ placed_name n at ∷ []) rest
AreItems-push gr.end i = gr.one i gr.end
AreItems-push (gr.one j r) i = gr.one j (AreItems-push r i)

-- what was read after the pending items
record ReadsTyped (k : ItemKind) (f : Forms) (found : List Typed) (pending : List NameAt) (ts : List Typed) : Type 0 where
  own : List Typed
  are : (g : Forms) → AreItems k g pending f → AreTyped k g own
  all : ts ≡ found ++ own

-- the type of the pending items, and what was read after it
record ReadsBehind (k : ItemKind) (rest : Forms) (found : List Typed) (pending : List NameAt) (ts : List Typed) : Type 0 where
  t : List ℕ
  at : ℕ
  more : Forms
  whole : rest ≡ word at (words.Name t) more
  reads : ReadsTyped k more (found ++ with_type (Some (placed_name t at)) pending) [] ts

-- from what is read after a `-`
ReadsTyped-behind : (k : ItemKind) (at : ℕ) (w : FormWord) (rest : Forms) (found : List Typed) (pending : List NameAt) (ts : List Typed)
    → w ≡ words.Operator operators.Minus → not (length pending == 0) ≡ true
    → ReadsBehind k rest found pending ts → ReadsTyped k (word at w rest) found pending ts
ReadsTyped-behind k at w rest found [] ts minus some r = absurd cc
ReadsTyped-behind k at w rest found (n ∷ ns) ts minus some r =
    let group = with_type (Some (placed_name r.t r.at)) (n ∷ ns) in
    let whole : word at w rest ≡ word at (words.Operator operators.Minus) (word r.at (words.Name r.t) r.more) =
    ap (λ (x : FormWord). word at x rest) minus ∙ ap (word at (words.Operator operators.Minus)) r.whole in
    record {
      own = group ++ r.reads.own;
      are = λ g h. gr.group (subst (AreItems k g (n ∷ ns)) whole h) (r.reads.are r.more gr.end);
      all = r.reads.all ∙ append_assoc found group r.reads.own;
    }

-- from what is read after a word
ReadsTyped-word : (k : ItemKind) (at : ℕ) (w : FormWord) (rest : Forms) (found : List Typed) (pending : List NameAt) (ts : List Typed)
    (item : Option (List ℕ)) → item_in k w ≡ item
    → ((ps : List NameAt) → typed_after k rest found ps ≡ Some ts → ReadsTyped k rest found ps ts)
    → (typed_behind k rest found pending ≡ Some ts → ReadsBehind k rest found pending ts)
    → some_or item (λ n. typed_after k rest found (pending ++ placed_name n at ∷ []))
    (cond (is_minus_term w && not (length pending == 0)) (typed_behind k rest found pending) None) ≡ Some ts
    → ReadsTyped k (word at w rest) found pending ts
ReadsTyped-word k at w rest found pending ts (Some n) is more behind e =
    let q = more (pending ++ placed_name n at ∷ []) e in
    record { own = q.own; are = λ g h. q.are g (AreItems-push h (IsItem-item_in k w n is)); all = q.all }
ReadsTyped-word k at w rest found pending ts None is more behind e =
    let t = cond_then_some (is_minus_term w && not (length pending == 0)) (typed_behind k rest found pending) ts e in
    let two = and_parts (is_minus_term w) (not (length pending == 0)) t.0 in
    ReadsTyped-behind k at w rest found pending ts (is_minus_term-true w two.0) two.1 (behind t.1)

ReadsTyped-typed_after : (k : ItemKind) (f : Forms) (found : List Typed) (pending : List NameAt) (ts : List Typed)
    → typed_after k f found pending ≡ Some ts → ReadsTyped k f found pending ts
unfolding typed_after
ReadsTyped-typed_after k none found pending ts e =
    record {
      own = with_type None pending;
      are = λ g h. gr.last h;
      all = sym (same_Some (found ++ with_type None pending) ts e);
    }
ReadsTyped-typed_after k (list a inside b rest) found pending ts e = absurd cc
ReadsTyped-typed_after k (word at w none) found pending ts e =
    ReadsTyped-word k at w none found pending ts (item_in k w) refl
    (λ (ps : List NameAt) h. ReadsTyped-typed_after k none found ps ts h) (λ h. absurd cc) e
ReadsTyped-typed_after k (word at w (list a inside b rest)) found pending ts e =
    ReadsTyped-word k at w (list a inside b rest) found pending ts (item_in k w) refl
    (λ (ps : List NameAt) h. ReadsTyped-typed_after k (list a inside b rest) found ps ts h) (λ h. absurd cc) e
ReadsTyped-typed_after k (word at w (word b v rest)) found pending ts e =
    ReadsTyped-word k at w (word b v rest) found pending ts (item_in k w) refl
    (λ (ps : List NameAt) h. ReadsTyped-typed_after k (word b v rest) found ps ts h)
    (λ h.
    let s = bind_some (name_in v) (λ t. typed_after k rest (found ++ with_type (Some (placed_name t b)) pending) []) ts h in
    record {
      t = s.0;
      at = b;
      more = rest;
      whole = ap (λ (x : FormWord). word b x rest) (name_in-some v s.0 s.1);
      reads = ReadsTyped-typed_after k rest (found ++ with_type (Some (placed_name s.0 b)) pending) [] ts s.2;
    }) e

pub AreTyped-typed_after : (k : ItemKind) (f : Forms) (ts : List Typed) → typed_after k f [] [] ≡ Some ts → AreTyped k f ts
AreTyped-typed_after k f ts e =
    let q = ReadsTyped-typed_after k f [] [] ts e in
    subst (AreTyped k f) (sym q.all) (q.are f gr.end)
