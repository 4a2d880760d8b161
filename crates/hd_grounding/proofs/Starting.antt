-- The state at first of what is counted: each fluent has a first value, which is in the range, and
-- it agrees with the domain's.
use Rattle.std.proofs.Common.{◌≡◌, true, false, List, map, Contains, Option, Some, None, refl, sym, ap, ◌∙◌, subst}
use Rattle.std.specs.Prelude.{is_some, find, flat_map, option_map, unwrap_or, ℤ, pos}
use Rattle.std.specs.List.{list_all}
use Rattle.std.proofs.lemmas.Bool.{not-false, false_from_ne_true}
use Rattle.std.proofs.lemmas.List.Folds.{list_all-map}
use Rattle.std.proofs.lemmas.List.Elements.{Contains-append_left, Contains-append_right}
use Rattle.std.proofs.lemmas.Option.{slice_get-map, get_or_from_slice_get}
use Rattle.hd_base.specs.Numbers.{in_range}
use Rattle.hd_base.proofs.Members.{Contains-flat_map}
use Rattle.hd_base.proofs.Options.{some-unwrap_or}
use Rattle.hd_base.proofs.Tests.{find-Some, find-None, list_all-from_each}
use Rattle.hd_lifted.specs.declared.schema.Ground.{Ground}
use Rattle.hd_lifted.specs.declared.task.InitialValue.{InitialValue}
use Rattle.hd_lifted.specs.declared.task.LiftedTask.{LiftedTask}
use Rattle.hd_lifted.specs.declared.instance.Instance.{Instance}
use Rattle.hd_lifted.specs.States.{same, is_listed, first_value, initial_state}
use Rattle.hd_lifted.specs.WellFormed.{IsFirstValue, IsWellFormed}
use Rattle.hd_lifted.specs.Kept.{initially}
use Rattle.hd_lifted.specs.Met.{met_by_goal}
use Rattle.hd_lifted.specs.Numbering.{IsTaskAtom, IsTaskFluent}
use Rattle.hd_lifted.proofs.Passing.{Contains-slice_get}
use Rattle.hd_grounding.specs.Agreement.{Agree}
use Rattle.hd_lifted.specs.Questions.{is_undefined}
use Rattle.hd_grounding.specs.Faults.{met_with, met_by_instance, met_by_all}
use Rattle.hd_grounding.specs.Grounding.{HasFirstValue, start_in}
use Rattle.hd_grounding.specs.Counted.{AreCounted, AreFaultless}
use Rattle.hd_grounding.proofs.Named.{each-from_all}

-- ---- the range

found_in_range : (t : LiftedTask) → IsWellFormed t → (g : Ground) (o : Option InitialValue)
    → find (λ (i : InitialValue). same i.fluent g) t.values ≡ o
    → in_range (unwrap_or (option_map (λ (i : InitialValue). i.value) o) (pos 0)) ≡ true
found_in_range t well g None e = refl
found_in_range t well g (Some v) e =
    (each-from_all (IsFirstValue t) t.values v well.values (find-Some (λ (i : InitialValue). same i.fluent g) t.values v e).0).1

pub first_in_range : (t : LiftedTask) → IsWellFormed t → (gs : List Ground)
    → list_all in_range (map (λ g. unwrap_or (first_value t.values g) (pos 0)) gs) ≡ true
first_in_range t well gs =
    list_all-map in_range (λ g. unwrap_or (first_value t.values g) (pos 0)) gs
    ∙ list_all-from_each (λ g. in_range (unwrap_or (first_value t.values g) (pos 0))) gs
    (λ g _. found_in_range t well g (find (λ (i : InitialValue). same i.fluent g) t.values) refl)

module _ (t : LiftedTask) (instances : List Instance) (atoms fluents : List Ground) (counted : AreCounted t instances atoms fluents) (faultless : AreFaultless t instances) where
  -- ---- first values

  met_fluent : (g : Ground) → IsTaskFluent t g → Contains (met_by_all t instances) g
  met_fluent g (IsTaskFluent.wanted c) = Contains-append_right (flat_map (met_by_instance t) instances) (met_by_goal t) g c
  met_fluent g (IsTaskFluent.met i is kept c) =
      let met = subst (λ gs. Contains gs g) (sym (ap (λ o. met_with o i.objects) is.is_schema)) c in
      Contains-append_left (flat_map (met_by_instance t) instances) (met_by_goal t) g
      (Contains-flat_map (met_by_instance t) instances i g ((counted.numbers_instances.exactly i).0 kept) met)

  pub first_there : (g : Ground) → Contains fluents g → HasFirstValue t g
  first_there g c =
      not-false (is_some (first_value t.values g))
      (find-None (is_undefined t) (met_by_all t instances) g faultless.none_undefined (met_fluent g ((counted.numbers_fluents.exactly g).1 c)))

  -- ---- agreement

  abbrev first : Ground → ℤ
  first g = unwrap_or (first_value t.values g) (pos 0)

  pub starts_agree : Agree atoms fluents (initial_state t) (start_in t atoms fluents)
  unfolding initial_state
  starts_agree = record {
    same_atoms = λ k g at.
        sym (get_or_from_slice_get (map (is_listed t.atoms) atoms) k (is_listed t.atoms g) false
        (slice_get-map (is_listed t.atoms) atoms k ∙ ap (option_map (is_listed t.atoms)) at));
    others = λ g none.
        false_from_ne_true (is_listed t.atoms g)
        (λ listed. none ((counted.numbers_atoms.exactly g).0 (IsTaskAtom.reached (initially g listed))));
    same_values = λ k g at.
        some-unwrap_or (first_value t.values g) (pos 0) (first_there g (Contains-slice_get fluents k g at))
        ∙ ap Some
        (sym (get_or_from_slice_get (map first fluents) k (first g) (pos 0) (slice_get-map first fluents k ∙ ap (option_map first) at)));
  }
