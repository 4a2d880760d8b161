-- Ground forms in a table, each once, and after a sort.
use Rattle.std.proofs.Common.{◌≡◌, ◌≢◌, ◌∷◌, ℕ, Bool, List, get_or, position, sym, ap, ap₂, ◌∙◌, true≢false}
use Rattle.std.specs.Prelude.{if◌then◌else◌, ◌++◌, []}
use Rattle.std.specs.Cmp.{both_ways}
use Rattle.std.specs.List.{list_any, AllPairs, IsDistinct}
use Rattle.std.proofs.lemmas.Map.Keys.{apart_from_distinct}
use Rattle.indexmap.specs.IndexSet.{insert_key}
use Rattle.hd_base.proofs.Lists.{cons_parts}
use Rattle.hd_lifted.specs.declared.schema.Ground.{Ground}
use Rattle.hd_lifted.specs.States.{same}
use Rattle.hd_lifted.specs.Numbering.{form_key}
use Rattle.hd_lifted.proofs.Sound.{same-true, same-refl}
use Rattle.hd_grounding.specs.Images.{number_of}
use Rattle.hd_images.specs.Meeting.{with_form}

-- forms with one key are one
pub one_form : (g h : Ground) → form_key g ≡ form_key h → g ≡ h
one_form g h e =
    let parts = cons_parts g.symbol h.symbol g.objects h.objects e in
    ap₂ (λ (s : ℕ) (os : List ℕ). let f : Ground = record { symbol = s; objects = os } in f) parts.0 parts.1

same-turned : (g h : Ground) → same g h ≡ same h g
same-turned g h =
    both_ways (same g h) (same h g)
    (λ e. ap (λ (f : Ground). same h f) (same-true g h e) ∙ same-refl h)
    (λ e. ap (λ (f : Ground). same g f) (same-true h g e) ∙ same-refl g)

-- a form is the same as others where they are the same as it
same_as : (g : Ground) → same g ≡ (λ (h : Ground). same h g)
same_as g = λ i h. same-turned g h i

-- the place of a form in a table is its number
pub number_of-place_in : (forms : List Ground) (g : Ground) → position (same g) forms ≡ number_of forms g
number_of-place_in forms g = ap (λ (p : Ground → Bool). position p forms) (same_as g)

-- what is put into a table goes after the others
pub form-put : (forms : List Ground) (g : Ground) → insert_key same forms g ≡ with_form forms g
form-put forms g = ap (λ (p : Ground → Bool). if list_any p forms then forms else forms ++ g ∷ []) (same_as g)

-- forms in a table are apart
pub forms-apart : (forms : List Ground) → IsDistinct same forms → AllPairs (λ (g h : Ground). g ≢ h) forms
forms-apart forms distinct i j d lt within e =
    true≢false (sym (same-refl (get_or forms i d)) ∙ (ap (same (get_or forms i d)) e ∙ apart_from_distinct same forms i j d distinct lt within))
