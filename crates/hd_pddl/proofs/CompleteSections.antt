-- What the grammar says is read: the parts that domains and problems share.
use Rattle.std.proofs.Common.{◌≡◌, true, false, ℕ, List, [], Option, Some, None, refl}
use Rattle.std.specs.Prelude.{codes}
use Rattle.std.specs.Str.{bytes_eq}
use Rattle.hd_forms.specs.Forms.{Forms}
use Rattle.hd_terms.specs.declared.tree.Typed.{Typed}
use Rattle.hd_terms.specs.declared.typed.ItemKind.TheVariants as kinds
use Rattle.hd_terms.specs.Typed.{AreTyped}
use Rattle.hd_terms.proofs.CompleteTyped.{typed_after-AreTyped}
use Rattle.hd_pddl.specs.Sections as g
use Rattle.hd_pddl.specs.Sections.{IsSection, HasItems, AreRequirements, SkipsRequirements}
use Rattle.hd_pddl.specs.Reading.{section_at, items_or, requirements_of, behind_requirements, names_of}

-- ---- sections

pub section_at-IsSection : (k : List ℕ) {f inside more : Forms} → bytes_eq k k ≡ true → IsSection k f inside more
    → section_at k f ≡ Some (inside, more)
unfolding section_at
section_at-IsSection k same g.section = rw same refl

-- a section is none of another keyword
pub section_at-other : (m k : List ℕ) {f inside more : Forms} → bytes_eq m k ≡ false → IsSection m f inside more
    → section_at k f ≡ None
unfolding section_at
section_at-other m k other g.section = rw other refl

pub items_or-HasItems : {A : Type 0} {Are : Forms → List A → Type 0} (read : Forms → Option (List A))
    → ((f : Forms) (xs : List A) → Are f xs → read f ≡ Some xs)
    → (k : List ℕ) {f more : Forms} {xs : List A} → bytes_eq k k ≡ true → HasItems Are k f xs more
    → section_at k more ≡ None → items_or read (section_at k f) f ≡ Some (xs, more)
items_or-HasItems read complete k same g.absent lack = rw lack refl
items_or-HasItems read complete k same (g.present {inside = inside} {xs = xs} s p) lack =
    rw (section_at-IsSection k same s, complete inside xs p) refl

pub section_at-HasItems : {A : Type 0} {Are : Forms → List A → Type 0} (m k : List ℕ) {f more : Forms} {xs : List A}
    → bytes_eq m k ≡ false → HasItems Are m f xs more → section_at k more ≡ None → section_at k f ≡ None
section_at-HasItems m k other g.absent lack = lack
section_at-HasItems m k other (g.present s p) lack = section_at-other m k other s

pub names_of-AreTyped : (f : Forms) (ts : List Typed) → AreTyped kinds.Name f ts → names_of f ≡ Some ts
unfolding names_of
names_of-AreTyped f ts p = typed_after-AreTyped p []

-- ---- requirements

requirements_of-AreRequirements : {f : Forms} → AreRequirements f → requirements_of f ≡ Some tt
unfolding requirements_of
requirements_of-AreRequirements g.end = refl
requirements_of-AreRequirements (g.one is r) = rw is (requirements_of-AreRequirements r)

pub behind_requirements-SkipsRequirements : {f more : Forms} → SkipsRequirements f more → section_at (codes "requirements") more ≡ None
    → behind_requirements f ≡ Some more
unfolding behind_requirements
behind_requirements-SkipsRequirements g.absent lack = rw lack refl
behind_requirements-SkipsRequirements (g.present s p) lack = rw (section_at-IsSection (codes "requirements") refl s, requirements_of-AreRequirements p) refl
