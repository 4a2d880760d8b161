-- Two groundings of one lifted task are one.
use Rattle.std.proofs.Common.{◌≡◌, Bool, List, [], ◌∷◌, refl, sym, ap, ap₂, ◌∙◌, subst}
use Rattle.std.specs.Prelude.{length, map, IsTrue}
use Rattle.std.specs.List.{AllZip, list_all}
use Rattle.std.proofs.lemmas.Option.{same_Some}
use Rattle.std.proofs.Props.{props}
use Rattle.hd_base.specs.Numbers.{in_range}
use Rattle.hd_lifted.specs.declared.schema.Ground.{Ground}
use Rattle.hd_lifted.specs.declared.schema.Schema.{Schema}
use Rattle.hd_lifted.specs.declared.task.LiftedTask.{LiftedTask}
use Rattle.hd_lifted.specs.declared.instance.Instance.{Instance}
use Rattle.hd_task.specs.WellFormed.{within_limits, are_named, action_fits, goal_fits, costs_fit, constant_cost_fits}
use Rattle.hd_task.specs.declared.form.GroundForm.{GroundForm}
use Rattle.hd_task.specs.declared.form.Names.{Names}
use Rattle.hd_task.specs.declared.state.State.{State}
use Rattle.hd_task.specs.declared.condition.Condition.{Condition}
use Rattle.hd_task.specs.declared.action.Action.{Action}
use Rattle.hd_task.specs.declared.task.Task.{Task}
use Rattle.hd_lifted.specs.Kept.{IsKept}
use Rattle.hd_lifted.specs.Numbering.{IsTaskAtom, IsTaskFluent, instance_key, form_key}
use Rattle.hd_lifted.proofs.Rising.{lists_are_one}
use Rattle.hd_grounding.specs.Images.{numbers_of, condition_of, costs_of}
use Rattle.hd_grounding.specs.Grounding.{form_of, start_in, IsEffectOf, HasEffectsOf, IsActionOf, IsGrounding}

-- ---- actions

-- actions of one instance are one
one_action : (t : LiftedTask) (atoms fluents : List Ground) (i : Instance) (b c : Action)
    → IsActionOf t atoms fluents i b → IsActionOf t atoms fluents i c → b ≡ c
one_action t atoms fluents i b c first second =
    let same : first.schema ≡ second.schema = same_Some first.schema second.schema (sym first.is_schema ∙ second.is_schema) in
    let form : b.form ≡ c.form = first.form ∙ sym second.form in
    let condition : b.condition ≡ c.condition =
    first.condition ∙ (ap (λ (a : Schema). condition_of atoms fluents i.objects a.condition) same ∙ sym second.condition) in
    let deletes : b.deletes ≡ c.deletes =
    first.changes_atoms.deletes ∙ (ap (λ (a : Schema). numbers_of atoms i.objects a.deletes) same ∙ sym second.changes_atoms.deletes) in
    let adds : b.adds ≡ c.adds =
    first.changes_atoms.adds ∙ (ap (λ (a : Schema). numbers_of atoms i.objects a.adds) same ∙ sym second.changes_atoms.adds) in
    let effects : b.effects ≡ c.effects =
    lists_are_one (IsEffectOf fluents i.objects second.schema) (λ e. e.fluent ∷ []) b.effects c.effects
    (subst (λ a. HasEffectsOf fluents i.objects a b.effects) same first.effects) second.effects in
    let costs : b.costs ≡ c.costs =
    first.costs ∙ (ap (costs_of t fluents i.objects) same ∙ sym second.costs) in
    λ k. record { form = form k; condition = condition k; deletes = deletes k; adds = adds k; effects = effects k; costs = costs k }

one_list : (t : LiftedTask) (atoms fluents : List Ground) (is : List Instance) (bs cs : List Action)
    → AllZip (IsActionOf t atoms fluents) is bs → AllZip (IsActionOf t atoms fluents) is cs → bs ≡ cs
one_list t atoms fluents [] [] [] first second = refl
one_list t atoms fluents [] [] (c ∷ cs) first second = absurd second
one_list t atoms fluents [] (b ∷ bs) cs first second = absurd first
one_list t atoms fluents (i ∷ is) [] cs first second = absurd first
one_list t atoms fluents (i ∷ is) (b ∷ bs) [] first second = absurd second
one_list t atoms fluents (i ∷ is) (b ∷ bs) (c ∷ cs) first second =
    ap₂ (λ x xs. x ∷ xs) (one_action t atoms fluents i b c first.0 second.0) (one_list t atoms fluents is bs cs first.1 second.1)

-- ---- tasks

-- what of a task is no proof
record Parts : Type 0 where
  names : Names
  atoms : List GroundForm
  fluents : List GroundForm
  initial : State
  actions : List Action
  goal : Condition
  metric : Bool

abbrev parts_of : Task → Parts
parts_of u = record { names = u.names; atoms = u.atoms; fluents = u.fluents; initial = u.initial; actions = u.actions; goal = u.goal; metric = u.metric }

-- what a task keeps of its parts
record Keeps (p : Parts) : Type 0 where
  limits : IsTrue (within_limits (length p.atoms) (length p.fluents) (length p.actions))
  named : IsTrue (are_named p.names p.atoms p.fluents p.actions)
  start_atoms : length p.initial.atoms ≡ length p.atoms
  start_fluents : length p.initial.fluents ≡ length p.fluents
  start_in_range : IsTrue (list_all in_range p.initial.fluents)
  actions_fit : IsTrue (list_all (action_fits (length p.atoms) (length p.fluents)) p.actions)
  goal_fits : IsTrue (goal_fits (length p.atoms) (length p.fluents) p.goal)
  costs_fit : IsTrue (list_all (costs_fit (length p.fluents) p.metric) p.actions)
  constant_costs_fit : IsTrue (list_all constant_cost_fits p.actions)

Keeps-prop : (p : Parts) → IsProp (Keeps p)
Keeps-prop p = hlevel props

abbrev kept_by : (u : Task) → Keeps (parts_of u)
kept_by u = record {
  limits = u.limits;
  named = u.named;
  start_atoms = u.start_atoms;
  start_fluents = u.start_fluents;
  start_in_range = u.start_in_range;
  actions_fit = u.actions_fit;
  goal_fits = u.goal_fits;
  costs_fit = u.costs_fit;
  constant_costs_fit = u.constant_costs_fit;
}

abbrev task_of : (p : Parts) → Keeps p → Task
task_of p k = record {
  names = p.names;
  atoms = p.atoms;
  fluents = p.fluents;
  initial = p.initial;
  actions = p.actions;
  goal = p.goal;
  metric = p.metric;
  limits = k.limits;
  named = k.named;
  start_atoms = k.start_atoms;
  start_fluents = k.start_fluents;
  start_in_range = k.start_in_range;
  actions_fit = k.actions_fit;
  goal_fits = k.goal_fits;
  costs_fit = k.costs_fit;
  constant_costs_fit = k.constant_costs_fit;
}

-- tasks of the same parts are one
same_parts : (u v : Task) → parts_of u ≡ parts_of v → u ≡ v
same_parts u v e =
    subst (λ q. (k : Keeps q) → task_of (parts_of u) (kept_by u) ≡ task_of q k) e
    (λ k. ap (task_of (parts_of u)) (Keeps-prop (parts_of u) (kept_by u) k)) (kept_by v)

-- ---- groundings

pub one_grounding : (t : LiftedTask) (u v : Task) → IsGrounding t u → IsGrounding t v → u ≡ v
one_grounding t u v first second =
    let instances = lists_are_one (IsKept t) instance_key first.instances second.instances first.numbers_instances second.numbers_instances in
    let atoms = lists_are_one (IsTaskAtom t) form_key first.atoms second.atoms first.numbers_atoms second.numbers_atoms in
    let fluents = lists_are_one (IsTaskFluent t) form_key first.fluents second.fluents first.numbers_fluents second.numbers_fluents in
    let actions : u.actions ≡ v.actions =
    one_list t second.atoms second.fluents second.instances u.actions v.actions
    (subst (λ (is : List Instance). AllZip (IsActionOf t second.atoms second.fluents) is u.actions) instances
    (subst (λ (fs : List Ground). AllZip (IsActionOf t second.atoms fs) first.instances u.actions) fluents
    (subst (λ (gs : List Ground). AllZip (IsActionOf t gs first.fluents) first.instances u.actions) atoms first.actions_are)))
    second.actions_are in
    let names : u.names ≡ v.names = first.names_are ∙ sym second.names_are in
    let forms : u.atoms ≡ v.atoms = first.atoms_are ∙ (ap (map form_of) atoms ∙ sym second.atoms_are) in
    let fluent_forms : u.fluents ≡ v.fluents = first.fluents_are ∙ (ap (map form_of) fluents ∙ sym second.fluents_are) in
    let initial : u.initial ≡ v.initial = first.initial_is ∙ (ap₂ (start_in t) atoms fluents ∙ sym second.initial_is) in
    let goal : u.goal ≡ v.goal = first.goal_is ∙ (ap₂ (λ gs fs. condition_of gs fs [] t.goal) atoms fluents ∙ sym second.goal_is) in
    let metric : u.metric ≡ v.metric = first.metric_is ∙ sym second.metric_is in
    same_parts u v
    (λ k. record { names = names k; atoms = forms k; fluents = fluent_forms k; initial = initial k; actions = actions k; goal = goal k; metric = metric k })
