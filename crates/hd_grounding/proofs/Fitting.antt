-- What a checked task is grounded to fits together, part by part.
use Rattle.std.proofs.Common.{◌≡◌, ℕ, true, List, [], map, length, Contains, sym, ap, ap₂, ◌∙◌, arith}
use Rattle.std.specs.Prelude.{◌&&◌, ◌==◌, is_some, nat_le, nat_lt, unwrap_or, pos}
use Rattle.std.specs.List.{list_all, AllZip}
use Rattle.std.proofs.lemmas.Bool.{and_from, eq-eqb, le-leb}
use Rattle.std.proofs.lemmas.List.{length-map}
use Rattle.std.proofs.lemmas.List.Folds.{list_all-map}
use Rattle.hd_base.specs.Numbers.{in_range}
use Rattle.hd_base.proofs.Places.{length-all_zip}
use Rattle.hd_base.proofs.Tests.{list_all-from_each}
use Rattle.hd_lifted.specs.declared.schema.Ground.{Ground}
use Rattle.hd_lifted.specs.declared.schema.Schema.{Schema}
use Rattle.hd_lifted.specs.declared.task.Object.{Object}
use Rattle.hd_lifted.specs.declared.task.Signature.{Signature}
use Rattle.hd_lifted.specs.declared.task.LiftedTask.{LiftedTask}
use Rattle.hd_lifted.specs.declared.instance.Instance.{Instance}
use Rattle.hd_lifted.specs.Checked.{IsChecked}
use Rattle.hd_lifted.specs.States.{is_listed, first_value}
use Rattle.hd_task.specs.declared.action.Action.{Action}
use Rattle.hd_task.specs.declared.condition.Literal.{Literal}
use Rattle.hd_task.specs.declared.form.GroundForm.{GroundForm}
use Rattle.hd_task.specs.declared.task.TheConstants.{MAX_ACTIONS, MAX_ATOMS, MAX_FLUENTS}
use Rattle.hd_task.specs.WellFormed.{within_limits, is_named, are_named, comparison_reads_below, action_fits, goal_fits, costs_fit, constant_cost_fits}
use Rattle.hd_lifted.specs.Numbering.{IsTaskFluent}
use Rattle.hd_grounding.specs.Images.{condition_of}
use Rattle.hd_grounding.specs.Grounding.{names_in, form_of, IsActionOf, start_in}
use Rattle.hd_grounding.proofs.Grounded.{instance_kept}
use Rattle.hd_grounding.specs.Counted.{AreCounted, AreFaultless}
use Rattle.hd_grounding.specs.Fitting.{grounded_parts_fit}
use Rattle.hd_grounding.proofs.FittingActing.{kept_action, is_fit}
use Rattle.hd_grounding.proofs.Costing.{pays, pays_nothing_negative}
use Rattle.hd_grounding.proofs.Named.{ground_named, instance_named, atom_ground, fluent_ground}
use Rattle.hd_grounding.proofs.Reading.{literals_below, comparisons_read}
use Rattle.hd_grounding.proofs.Starting.{first_in_range}

module _ (t : LiftedTask) (instances : List Instance) (atoms fluents : List Ground) (actions : List Action) (checked : IsChecked t) (counted : AreCounted t instances atoms fluents) (faultless : AreFaultless t instances) (are : AllZip (IsActionOf t atoms fluents) instances actions) where
  abbrev atom_forms : List GroundForm
  atom_forms = map form_of atoms

  abbrev fluent_forms : List GroundForm
  fluent_forms = map form_of fluents

  limits : within_limits (length atom_forms) (length fluent_forms) (length actions) ≡ true
  limits =
      and_from (nat_le (length atom_forms) MAX_ATOMS && nat_le (length fluent_forms) MAX_FLUENTS) (nat_le (length actions) MAX_ACTIONS)
      (and_from (nat_le (length atom_forms) MAX_ATOMS) (nat_le (length fluent_forms) MAX_FLUENTS)
      (le-leb (length atom_forms) MAX_ATOMS (omega (arith, length-map atoms form_of, counted.few_atoms)))
      (le-leb (length fluent_forms) MAX_FLUENTS (omega (arith, length-map fluents form_of, counted.few_fluents))))
      (le-leb (length actions) MAX_ACTIONS (omega (arith, length-all_zip (IsActionOf t atoms fluents) instances actions are, counted.few_instances)))

  -- ---- names

  names_of : (s o : ℕ) → length t.schemas ≡ s → length t.objects ≡ o → (b : Action) → Contains actions b → is_named s o b.form ≡ true
  names_of s o is os b c =
      let k = kept_action t instances atoms fluents counted actions b are c in
      ap₂ (λ s o. is_named s o b.form) (sym is) (sym os)
      ∙ (ap (is_named (length t.schemas) (length t.objects)) k.3.form ∙ instance_named t k.0 (instance_kept t k.0 k.2))

  named : are_named (names_in t) atom_forms fluent_forms actions ≡ true
  named =
      let n = names_in t in
      let objects : length n.objects ≡ length t.objects = length-map t.objects (λ (o : Object). o.name) in
      let predicates : length n.predicates ≡ length t.predicates = length-map t.predicates (λ (s : Signature). s.name) in
      let functions : length n.functions ≡ length t.functions = length-map t.functions (λ (s : Signature). s.name) in
      let schemas : length n.schemas ≡ length t.schemas = length-map t.schemas (λ (a : Schema). a.name) in
      and_from
      (list_all (is_named (length n.predicates) (length n.objects)) atom_forms && list_all (is_named (length n.functions) (length n.objects)) fluent_forms)
      (list_all (λ (b : Action). is_named (length n.schemas) (length n.objects) b.form) actions)
      (and_from (list_all (is_named (length n.predicates) (length n.objects)) atom_forms)
      (list_all (is_named (length n.functions) (length n.objects)) fluent_forms)
      (ap₂ (λ p o. list_all (is_named p o) atom_forms) predicates objects
      ∙ (list_all-map (is_named (length t.predicates) (length t.objects)) form_of atoms
      ∙ list_all-from_each (λ g. is_named (length t.predicates) (length t.objects) (form_of g)) atoms
      (λ g c. ground_named t t.predicates g (atom_ground t checked.well_formed g ((counted.numbers_atoms.exactly g).1 c)))))
      (ap₂ (λ f o. list_all (is_named f o) fluent_forms) functions objects
      ∙ (list_all-map (is_named (length t.functions) (length t.objects)) form_of fluents
      ∙ list_all-from_each (λ g. is_named (length t.functions) (length t.objects) (form_of g)) fluents
      (λ g c. ground_named t t.functions g (fluent_ground t checked.well_formed g ((counted.numbers_fluents.exactly g).1 c))))))
      (list_all-from_each (λ (b : Action). is_named (length n.schemas) (length n.objects) b.form) actions
      (names_of (length n.schemas) (length n.objects) (sym schemas) (sym objects)))

  -- ---- the goal and the actions

  goal : goal_fits (length atom_forms) (length fluent_forms) (condition_of atoms fluents [] t.goal) ≡ true
  goal =
      let c = condition_of atoms fluents [] t.goal in
      ap₂ (λ n m. goal_fits n m c) (length-map atoms form_of) (length-map fluents form_of)
      ∙ and_from (list_all (λ (l : Literal). nat_lt l.atom (length atoms)) c.literals) (list_all (comparison_reads_below (length fluents)) c.comparisons)
      (literals_below atoms [] t.goal.literals)
      (comparisons_read fluents [] t.goal.comparisons (λ g c. (counted.numbers_fluents.exactly g).0 (IsTaskFluent.wanted c)))

  act : list_all (action_fits (length atom_forms) (length fluent_forms)) actions ≡ true
  act =
      ap₂ (λ n m. list_all (action_fits n m) actions) (length-map atoms form_of) (length-map fluents form_of)
      ∙ list_all-from_each (action_fits (length atoms) (length fluents)) actions (λ b c.
      let k = kept_action t instances atoms fluents counted actions b are c in
      is_fit t instances atoms fluents counted k.0 b k.2 k.3)

  pay : list_all (costs_fit (length fluent_forms) (is_some t.metric)) actions ≡ true
  pay =
      ap (λ m. list_all (costs_fit m (is_some t.metric)) actions) (length-map fluents form_of)
      ∙ list_all-from_each (costs_fit (length fluents) (is_some t.metric)) actions (λ b c.
      let k = kept_action t instances atoms fluents counted actions b are c in
      pays t instances atoms fluents counted k.0 b k.1 k.2 k.3 checked.no_metric)

  pay_naturals : list_all constant_cost_fits actions ≡ true
  pay_naturals =
      list_all-from_each constant_cost_fits actions (λ b c.
      let k = kept_action t instances atoms fluents counted actions b are c in
      pays_nothing_negative t instances atoms fluents counted k.0 b k.1 k.2 k.3 faultless)

  -- ---- all of it

  pub all_fit : grounded_parts_fit t atoms fluents actions ≡ true
  all_fit =
      let initial = start_in t atoms fluents in
      let p1 = within_limits (length atom_forms) (length fluent_forms) (length actions) in
      let p2 = are_named (names_in t) atom_forms fluent_forms actions in
      let p3 = length initial.atoms == length atom_forms in
      let p4 = length initial.fluents == length fluent_forms in
      let p5 = list_all in_range initial.fluents in
      let p6 = list_all (action_fits (length atom_forms) (length fluent_forms)) actions in
      let p7 = goal_fits (length atom_forms) (length fluent_forms) (condition_of atoms fluents [] t.goal) in
      let p8 = list_all (costs_fit (length fluent_forms) (is_some t.metric)) actions in
      let p9 = list_all constant_cost_fits actions in
      let atoms_long : length initial.atoms ≡ length atom_forms = length-map atoms (is_listed t.atoms) ∙ sym (length-map atoms form_of) in
      let fluents_long : length initial.fluents ≡ length fluent_forms =
      length-map fluents (λ g. unwrap_or (first_value t.values g) (pos 0)) ∙ sym (length-map fluents form_of) in
      and_from (p1 && p2 && p3 && p4 && p5 && p6 && p7 && p8) p9
      (and_from (p1 && p2 && p3 && p4 && p5 && p6 && p7) p8
      (and_from (p1 && p2 && p3 && p4 && p5 && p6) p7
      (and_from (p1 && p2 && p3 && p4 && p5) p6
      (and_from (p1 && p2 && p3 && p4) p5
      (and_from (p1 && p2 && p3) p4
      (and_from (p1 && p2) p3
      (and_from p1 p2 limits named)
      (eq-eqb (length initial.atoms) (length atom_forms) atoms_long))
      (eq-eqb (length initial.fluents) (length fluent_forms) fluents_long))
      (first_in_range t checked.well_formed fluents))
      act)
      goal)
      pay)
      pay_naturals
