-- What is read is in the grammar: the parts that domains and problems share.
use Rattle.std.proofs.Common.{◌≡◌, ℕ, cond, List, [], Option, Some, None, refl, sym, ap, subst, ◌∙◌}
use Rattle.std.proofs.lemmas.Option.{same_Some}
use Rattle.hd_base.proofs.Options.{cond_then_some}
use Rattle.std.specs.Prelude.{codes}
use Rattle.hd_forms.specs.declared.names.NameAt.{NameAt}
use Rattle.hd_forms.specs.declared.word.FormWord.{FormWord}
use Rattle.hd_forms.specs.declared.word.FormWord.TheVariants.{Name, Keyword}
use Rattle.hd_forms.specs.Forms.{Forms, none, word, list}
use Rattle.hd_base.specs.Options.{◌>>=◌}
use Rattle.hd_forms.specs.Reading.{keyword_in, name_at, group_at, end_at, forms_behind_name, forms_behind_keyword}
use Rattle.hd_forms.proofs.Inverting.{bind_some, end_at-some, group_at-some, name_at-some, forms_behind_name-some, forms_behind_keyword-some, keyword_in-some}
use Rattle.hd_terms.specs.declared.tree.Typed.{Typed}
use Rattle.hd_terms.specs.declared.typed.ItemKind.TheVariants as kinds
use Rattle.hd_terms.specs.Typed.{AreTyped}
use Rattle.hd_terms.proofs.SoundTyped.{AreTyped-typed_after}
use Rattle.hd_pddl.specs.Sections as g
use Rattle.hd_pddl.specs.Sections.{is_requirement, IsSection, HasItems, AreRequirements, SkipsRequirements, IsDefinition}
use Rattle.hd_pddl.specs.Reading.{section_at, items_or, requirements_of, requirements_or, behind_requirements, names_of, names_at, head_at}

-- ---- sections

pub IsSection-section_at : (k : List ℕ) (f : Forms) (x : Forms × Forms) → section_at k f ≡ Some x → IsSection k f x.0 x.1
unfolding section_at
IsSection-section_at k f x e =
    let s = bind_some (group_at f) (λ y. forms_behind_keyword k y.0 >>= λ inside. Some (inside, y.1)) x e in
    let t = bind_some (forms_behind_keyword k s.0.0) (λ inside. Some (inside, s.0.1)) x s.2 in
    let p = group_at-some f s.0 s.1 in
    let w = forms_behind_keyword-some k s.0.0 t.0 t.1 in
    let whole : f ≡ list p.0 (word w.0 (Keyword k) t.0) p.1 s.0.1 = p.2 ∙ ap (λ (y : Forms). list p.0 y p.1 s.0.1) w.1 in
    let made : IsSection k (list p.0 (word w.0 (Keyword k) t.0) p.1 s.0.1) t.0 s.0.1 = g.section in
    subst (λ (y : Forms × Forms). IsSection k f y.0 y.1) (same_Some (t.0, s.0.1) x t.2)
    (subst (λ (y : Forms). IsSection k y t.0 s.0.1) (sym whole) made)

pub HasItems-items_or : {A : Type 0} {Are : Forms → List A → Type 0} (read : Forms → Option (List A))
    → ((f : Forms) (xs : List A) → read f ≡ Some xs → Are f xs)
    → (k : List ℕ) (f : Forms) (x : List A × Forms) (r : Option (Forms × Forms)) → section_at k f ≡ r
    → items_or read r f ≡ Some x → HasItems Are k f x.0 x.1
HasItems-items_or {A = A} {Are = Are} read sound k f x (Some s) is e =
    let t = bind_some (read s.0) (λ xs. Some (xs, s.1)) x e in
    subst (λ (y : List A × Forms). HasItems Are k f y.0 y.1) (same_Some (t.0, s.1) x t.2)
    (g.present (IsSection-section_at k f s is) (sound s.0 t.0 t.1))
HasItems-items_or {A = A} {Are = Are} read sound k f x None is e =
    subst (λ (y : List A × Forms). HasItems Are k f y.0 y.1) (same_Some ([], f) x e) g.absent

AreTyped-names_of : (f : Forms) (ts : List Typed) → names_of f ≡ Some ts → AreTyped kinds.Name f ts
unfolding names_of
AreTyped-names_of f ts e = AreTyped-typed_after kinds.Name f ts e

pub HasItems-names_at : (k : List ℕ) (f : Forms) (x : List Typed × Forms) → names_at k f ≡ Some x
    → HasItems (AreTyped kinds.Name) k f x.0 x.1
unfolding names_at
HasItems-names_at k f x e = HasItems-items_or names_of AreTyped-names_of k f x (section_at k f) refl e

-- ---- requirements

AreRequirements-requirements_of : (f : Forms) (u : Unit {0}) → requirements_of f ≡ Some u → AreRequirements f
unfolding requirements_of
AreRequirements-requirements_of none u e = g.end
AreRequirements-requirements_of (word at w rest) u e =
    let s = bind_some (keyword_in w) (λ n. cond (is_requirement n) (requirements_of rest) None) u e in
    let t = cond_then_some (is_requirement s.0) (requirements_of rest) u s.2 in
    subst (λ (v : FormWord). AreRequirements (word at v rest)) (sym (keyword_in-some w s.0 s.1))
    (g.one t.0 (AreRequirements-requirements_of rest u t.1))
AreRequirements-requirements_of (list a inside b rest) u e = absurd cc

SkipsRequirements-requirements_or : (f more : Forms) (r : Option (Forms × Forms)) → section_at (codes "requirements") f ≡ r
    → requirements_or r f ≡ Some more → SkipsRequirements f more
SkipsRequirements-requirements_or f more (Some s) is e =
    let t = bind_some (requirements_of s.0) (λ _. Some s.1) more e in
    subst (SkipsRequirements f) (same_Some s.1 more t.2)
    (g.present (IsSection-section_at (codes "requirements") f s is) (AreRequirements-requirements_of s.0 t.0 t.1))
SkipsRequirements-requirements_or f more None is e = subst (SkipsRequirements f) (same_Some f more e) g.absent

pub SkipsRequirements-behind_requirements : (f more : Forms) → behind_requirements f ≡ Some more → SkipsRequirements f more
unfolding behind_requirements
SkipsRequirements-behind_requirements f more e = SkipsRequirements-requirements_or f more (section_at (codes "requirements") f) refl e

-- ---- definitions

-- a definition's forms: its kind, its name, and what follows its head
abbrev definition_forms : List ℕ → ℕ → ℕ → ℕ → ℕ → ℕ → ℕ → NameAt → Forms → Forms
definition_forms kind a b c d e f n sections =
    list a (word b (Name (codes "define")) (list c (word d (Name kind) (word n.at (Name n.name) none)) e sections)) f none

abbrev h3 : Forms → NameAt × Forms → Option (NameAt × Forms)
h3 rest n = end_at n.1 >>= λ _. Some (n.0, rest)

abbrev h2 : Forms → Forms → Option (NameAt × Forms)
h2 rest f = name_at f >>= h3 rest

abbrev h1 : List ℕ → Forms × Forms → Option (NameAt × Forms)
h1 kind x = forms_behind_name kind x.0 >>= h2 x.1

abbrev h0 : List ℕ → Forms → Option (NameAt × Forms)
h0 kind f = group_at f >>= h1 kind

pub IsDefinition-head_at : (kind : List ℕ) (f inside : Forms) (x : NameAt × Forms) (a b : ℕ) → f ≡ list a inside b none
    → head_at kind inside ≡ Some x → IsDefinition kind f x.0 x.1
unfolding head_at
IsDefinition-head_at kind f inside x a b outer e =
    let s0 = bind_some (forms_behind_name (codes "define") inside) (h0 kind) x e in
    let s1 = bind_some (group_at s0.0) (h1 kind) x s0.2 in
    let s2 = bind_some (forms_behind_name kind s1.0.0) (h2 s1.0.1) x s1.2 in
    let s3 = bind_some (name_at s2.0) (h3 s1.0.1) x s2.2 in
    let s4 = bind_some (end_at s3.0.1) (λ _. Some (s3.0.0, s1.0.1)) x s3.2 in
    let define = forms_behind_name-some (codes "define") inside s0.0 s0.1 in
    let title = group_at-some s0.0 s1.0 s1.1 in
    let word_of_kind = forms_behind_name-some kind s1.0.0 s2.0 s2.1 in
    let its_name = name_at-some s2.0 s3.0 s3.1 in
    let ends = end_at-some s3.0.1 s4.0 s4.1 in
    let whole : definition_forms kind a define.0 title.0 word_of_kind.0 title.1 b s3.0.0 s1.0.1 ≡ f = cc in
    let is : IsDefinition kind (definition_forms kind a define.0 title.0 word_of_kind.0 title.1 b s3.0.0 s1.0.1) s3.0.0 s1.0.1 =
    g.define in
    subst (λ (y : NameAt × Forms). IsDefinition kind f y.0 y.1) (same_Some (s3.0.0, s1.0.1) x s4.2)
    (subst (λ (y : Forms). IsDefinition kind y s3.0.0 s1.0.1) whole is)
