-- What the steps of reading say of the forms that they read.
use Rattle.std.proofs.Common.{◌≡◌, ℕ, ℤ, cond, List, Option, Some, None, refl, ap, ◌∙◌}
use Rattle.std.proofs.lemmas.Slice.Eq.{bytes_eq-Decides}
use Rattle.std.specs.Str.{bytes_eq}
use Rattle.hd_base.specs.Options.{◌>>=◌}
use Rattle.std.proofs.lemmas.Option.{same_Some}
use Rattle.hd_base.proofs.Options.{cond_then_some}
use Rattle.hd_forms.specs.declared.names.NameAt.{NameAt}
use Rattle.hd_forms.specs.declared.word.FormWord.{FormWord}
use Rattle.hd_forms.specs.declared.word.FormWord.TheVariants.{Name, Keyword, Variable, Number}
use Rattle.hd_forms.specs.Forms.{Forms, none, word, list}
use Rattle.hd_forms.specs.Reading.{placed_name, name_in, keyword_in, variable_in, number_in, name_at, number_at, group_at, end_at, forms_behind_name, forms_behind_keyword}

-- the value of a step that did not fail
pub bind_some : {A B : Type 0} (r : Option A) (f : A → Option B) (y : B) → (r >>= f) ≡ Some y
    → (x : A) × (r ≡ Some x) × (f x ≡ Some y)
bind_some (Some x) f y e = (x, refl, e)
bind_some None f y e = absurd cc

pub end_at-some : (f : Forms) (u : Unit {0}) → end_at f ≡ Some u → f ≡ none
end_at-some none u e = refl
end_at-some (word at w rest) u e = absurd cc
end_at-some (list a inside b rest) u e = absurd cc

pub group_at-some : (f : Forms) (x : Forms × Forms) → group_at f ≡ Some x → (a : ℕ) × (b : ℕ) × (f ≡ list a x.0 b x.1)
group_at-some none x e = absurd cc
group_at-some (word at w rest) x e = absurd cc
group_at-some (list a inside b rest) x e =
    (a, b, ap (λ (y : Forms × Forms). list a y.0 b y.1) (same_Some (inside, rest) x e))

pub name_in-some : (w : FormWord) (n : List ℕ) → name_in w ≡ Some n → w ≡ Name n
name_in-some (Name m) n e = ap Name (same_Some m n e)
name_in-some w n e = absurd cc

pub keyword_in-some : (w : FormWord) (n : List ℕ) → keyword_in w ≡ Some n → w ≡ Keyword n
keyword_in-some (Keyword m) n e = ap Keyword (same_Some m n e)
keyword_in-some w n e = absurd cc

pub variable_in-some : (w : FormWord) (n : List ℕ) → variable_in w ≡ Some n → w ≡ Variable n
variable_in-some (Variable m) n e = ap Variable (same_Some m n e)
variable_in-some w n e = absurd cc

pub number_in-some : (w : FormWord) (v : ℤ) → number_in w ≡ Some v → w ≡ Number v
number_in-some (Number u) v e = ap Number (same_Some u v e)
number_in-some w v e = absurd cc

pub name_at-some : (f : Forms) (x : NameAt × Forms) → name_at f ≡ Some x → f ≡ word x.0.at (Name x.0.name) x.1
name_at-some none x e = absurd cc
name_at-some (word at w rest) x e =
    let s = bind_some (name_in w) (λ n. Some (placed_name n at, rest)) x e in
    ap (λ (v : FormWord). word at v rest) (name_in-some w s.0 s.1)
    ∙ ap (λ (y : NameAt × Forms). word y.0.at (Name y.0.name) y.1) (same_Some (placed_name s.0 at, rest) x s.2)
name_at-some (list a inside b rest) x e = absurd cc

pub forms_behind_name-some : (text : List ℕ) (f rest : Forms) → forms_behind_name text f ≡ Some rest
    → (at : ℕ) × (f ≡ word at (Name text) rest)
forms_behind_name-some text none rest e = absurd cc
forms_behind_name-some text (word at w more) rest e =
    let s = bind_some (name_in w) (λ n. cond (bytes_eq n text) (Some more) None) rest e in
    let t = cond_then_some (bytes_eq s.0 text) (Some more) rest s.2 in (
      at,
      ap (λ (v : FormWord). word at v more) (name_in-some w s.0 s.1 ∙ ap Name ((bytes_eq-Decides s.0 text).0 t.0))
          ∙ ap (word at (Name text)) (same_Some more rest t.1),
    )
forms_behind_name-some text (list a inside b more) rest e = absurd cc

pub forms_behind_keyword-some : (text : List ℕ) (f rest : Forms) → forms_behind_keyword text f ≡ Some rest
    → (at : ℕ) × (f ≡ word at (Keyword text) rest)
forms_behind_keyword-some text none rest e = absurd cc
forms_behind_keyword-some text (word at w more) rest e =
    let s = bind_some (keyword_in w) (λ n. cond (bytes_eq n text) (Some more) None) rest e in
    let t = cond_then_some (bytes_eq s.0 text) (Some more) rest s.2 in (
      at,
      ap (λ (v : FormWord). word at v more) (keyword_in-some w s.0 s.1 ∙ ap Keyword ((bytes_eq-Decides s.0 text).0 t.0))
          ∙ ap (word at (Keyword text)) (same_Some more rest t.1),
    )
forms_behind_keyword-some text (list a inside b more) rest e = absurd cc

pub number_at-some : (f : Forms) (x : ℤ × ℕ × Forms) → number_at f ≡ Some x → f ≡ word x.1 (Number x.0) x.2
number_at-some none x e = absurd cc
number_at-some (word at w rest) x e =
    let s = bind_some (number_in w) (λ v. Some (v, at, rest)) x e in
    ap (λ (v : FormWord). word at v rest) (number_in-some w s.0 s.1)
    ∙ ap (λ (y : ℤ × ℕ × Forms). word y.1 (Number y.0) y.2) (same_Some (s.0, at, rest) x s.2)
number_at-some (list a inside b rest) x e = absurd cc
