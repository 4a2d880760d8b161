-- The typed lists of the grammar are read.
use Rattle.std.proofs.Common.{◌≡◌, ℕ, suc, ◌==◌, false, arith, List, [], ◌∷◌, ◌++◌, Some, None, refl, sym, ap, ◌∙◌, append_assoc}
use Rattle.std.proofs.lemmas.List.{append-nil}
use Rattle.hd_lex.specs.declared.token.Operator as signs
use Rattle.hd_forms.specs.declared.names.NameAt.{NameAt}
use Rattle.hd_forms.specs.declared.word.FormWord.{FormWord}
use Rattle.hd_forms.specs.declared.word.FormWord.TheVariants as words
use Rattle.hd_forms.specs.Forms.{Forms}
use Rattle.hd_forms.specs.Reading.{placed_name}
use Rattle.hd_terms.specs.declared.tree.Typed.{Typed}
use Rattle.hd_terms.specs.declared.typed.ItemKind.{ItemKind}
use Rattle.hd_terms.specs.declared.typed.ItemKind.TheVariants as kinds
use Rattle.hd_terms.specs.Typed as g
use Rattle.hd_terms.specs.Typed.{IsItem, AreItems, AreTyped, with_type}
use Rattle.hd_terms.specs.Reading.{item_in, typed_after}

item_in-IsItem : {k : ItemKind} {w : FormWord} {n : List ℕ} → IsItem k w n → item_in k w ≡ Some n
item_in-IsItem g.name = refl
item_in-IsItem g.variable = refl

-- an operator is no item
item_in-Operator : (k : ItemKind) (o : signs.Operator) → item_in k (words.Operator o) ≡ None
item_in-Operator kinds.Name o = refl
item_in-Operator kinds.Variable o = refl

-- items are passed over, and kept until their type comes
typed_after-AreItems : {k : ItemKind} {f more : Forms} {ns : List NameAt} → AreItems k f ns more
    → (found : List Typed) (pending : List NameAt) → typed_after k f found pending ≡ typed_after k more found (pending ++ ns)
unfolding typed_after
typed_after-AreItems {k = k} {more = more} g.end found pending =
    ap (λ (ps : List NameAt). typed_after k more found ps) (sym (append-nil pending))
typed_after-AreItems {k = k} {more = more} (g.one {at = at} {n = n} {ns = ns} i r) found pending =
    rw (item_in-IsItem i) (
    typed_after-AreItems r found (pending ++ placed_name n at ∷ [])
    ∙ ap (λ (ps : List NameAt). typed_after k more found ps) (append_assoc pending (placed_name n at ∷ []) ns)
    )

not_zero : (n : ℕ) → (suc n == 0) ≡ false
not_zero n = grind arith

pub typed_after-AreTyped : {k : ItemKind} {f : Forms} {ts : List Typed} → AreTyped k f ts
    → (found : List Typed) → typed_after k f found [] ≡ Some (found ++ ts)
unfolding typed_after
typed_after-AreTyped (g.last r) found = typed_after-AreItems r found []
typed_after-AreTyped {k = k} (g.group {b = b} {t = t} {n = n} {ns = ns} {ts = ts} r s) found =
    let group = with_type (Some (placed_name t b)) (n ∷ ns) in
    typed_after-AreItems r found [] ∙ rw (item_in-Operator k, not_zero) (typed_after-AreTyped s (found ++ group) ∙ ap Some (append_assoc found group ts))
