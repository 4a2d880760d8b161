-- The atoms after an action, in the domain and in numbers.
use Rattle.std.proofs.Common.{◌≡◌, ℕ, true, not, ◌&&◌, ◌||◌, ◌==◌, List, [], ◌∷◌, Contains, Option, Some, None, slice_get, refl, sym, ap, ◌∙◌, subst}
use Rattle.std.specs.List.{list_any, AllPairs}
use Rattle.std.proofs.lemmas.Bool.{eqb-true, eq-eqb, false_from_ne_true}
use Rattle.std.proofs.lemmas.Option.{same_Some}
use Rattle.std.proofs.lemmas.List.Folds.{list_any-append}
use Rattle.hd_base.proofs.Truth.{or-false, each_way}
use Rattle.hd_lifted.specs.declared.schema.AppliedSymbol.{AppliedSymbol}
use Rattle.hd_lifted.specs.declared.schema.Ground.{Ground}
use Rattle.hd_lifted.specs.declared.schema.Schema.{Schema}
use Rattle.hd_lifted.specs.States as domain
use Rattle.hd_lifted.specs.Effects as lifted
use Rattle.hd_task.specs.declared.state.State.{State}
use Rattle.hd_task.specs.declared.action.Action.{Action}
use Rattle.hd_task.specs.Effects.{names_atom, atom_after}
use Rattle.hd_lifted.specs.Numbering.{ComesBefore, form_key}
use Rattle.hd_lifted.proofs.Passing.{Contains-slice_get}
use Rattle.hd_lifted.proofs.Rising.{one_place}
use Rattle.hd_lifted.proofs.Sound.{same-true, same-refl}
use Rattle.hd_grounding.specs.Images.{number_of, if_any, numbers_of}
use Rattle.hd_grounding.specs.Agreement.{Agree, HasAtomsOf}
use Rattle.hd_grounding.proofs.Numbers.{number_of-place, number_of-none}

module _ (atoms : List Ground) (rising : AllPairs (λ x y. ComesBefore (form_key x) (form_key y)) atoms) where
  -- a form is the one at a place exactly where its number is that place
  one_name : (h g : Ground) (k : ℕ) (o : Option ℕ) → number_of atoms h ≡ o → slice_get atoms k ≡ Some g
      → domain.same h g ≡ list_any (λ j. j == k) (if_any o)
  one_name h g k None none at =
      false_from_ne_true (domain.same h g)
      (λ e. number_of-none atoms h none (subst (Contains atoms) (sym (same-true h g e)) (Contains-slice_get atoms k g at)))
  one_name h g k (Some j) some at =
      let place = number_of-place atoms h j some in
      each_way (domain.same h g) (j == k)
      (λ e. eq-eqb j k (one_place form_key atoms rising j k g (place ∙ ap Some (same-true h g e)) at))
      (λ e.
      let is : h ≡ g = same_Some h g (sym place ∙ (ap (slice_get atoms) (eqb-true j k e) ∙ at)) in
      subst (λ x. domain.same h x ≡ true) is (same-refl h))
      ∙ sym (or-false (j == k))

  names_agree : (objects : List ℕ) (xs : List AppliedSymbol) (k : ℕ) (g : Ground) → slice_get atoms k ≡ Some g
      → lifted.names_atom objects xs g ≡ names_atom (numbers_of atoms objects xs) k
  names_agree objects [] k g at = refl
  names_agree objects (a ∷ xs) k g at =
      let h = domain.ground_form_of objects a in
      ap (λ b. b || lifted.names_atom objects xs g) (one_name h g k (number_of atoms h) refl at)
      ∙ (ap (λ b. list_any (λ j. j == k) (if_any (number_of atoms h)) || b) (names_agree objects xs k g at)
      ∙ sym (list_any-append (λ j. j == k) (if_any (number_of atoms h)) (numbers_of atoms objects xs)))

  pub atom_agrees :
      (fluents : List Ground) (objects : List ℕ) (a : Schema) (b : Action) (s : domain.State) (n : State) (k : ℕ) (g : Ground)
      → Agree atoms fluents s n → HasAtomsOf atoms objects a b → slice_get atoms k ≡ Some g
      → lifted.atoms_after s.atoms a objects g ≡ atom_after n b k
  atom_agrees fluents objects a b s n k g agree of at =
      let added : lifted.names_atom objects a.adds g ≡ names_atom b.adds k = names_agree objects a.adds k g at ∙ ap (λ xs. names_atom xs k) (sym of.adds) in
      let deleted : lifted.names_atom objects a.deletes g ≡ names_atom b.deletes k = names_agree objects a.deletes k g at ∙ ap (λ xs. names_atom xs k) (sym of.deletes) in
      ap (λ x. x || (s.atoms g && not (lifted.names_atom objects a.deletes g))) added
      ∙ (ap (λ x. names_atom b.adds k || (s.atoms g && not x)) deleted
      ∙ ap (λ x. names_atom b.adds k || (x && not (names_atom b.deletes k))) (agree.same_atoms k g at))
