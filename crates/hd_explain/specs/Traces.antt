-- What the steps of a plan do, as text: a line for each step that is taken, and one for each of its
-- effects. (The words are our own.)
use Rattle.std.specs.Prelude.{◌≡◌, ℕ, ◌+◌, ◌||◌, ◌⊎◌, List, [], ◌∷◌, ◌++◌, codes, flat_map, slice_get, if◌then◌else◌, Option, Some, None, ℤ}
use Rattle.std.specs.List.{list_any, fold}
use Rattle.std.specs.Fmt.{decimal, signed_decimal}
use Rattle.hd_lifted.specs.declared.schema.AppliedSymbol.{AppliedSymbol}
use Rattle.hd_lifted.specs.declared.schema.NumericEffect.{NumericEffect}
use Rattle.hd_lifted.specs.declared.schema.Schema.{Schema}
use Rattle.hd_lifted.specs.declared.task.LiftedTask.{LiftedTask}
use Rattle.hd_lifted.specs.declared.instance.Instance.{Instance}
use Rattle.hd_lifted.specs.States.{Values, same, ground_form_of}
use Rattle.hd_lifted.specs.Effects.{is_cost}
use Rattle.hd_lifted.specs.Steps.{Reached, start}
use Rattle.hd_judge.specs.declared.fault.PlanFault.{PlanFault}
use Rattle.hd_judge.specs.Validity.{Passes, TellsStep}
use Rattle.hd_plan.specs.declared.step.Step.{Step}
use Rattle.hd_plan.specs.Naming.{IsStep}
use Rattle.hd_plan.specs.PlanText.{line_end}
use Rattle.hd_plan.specs.Plans.{TellsStepBy}
use Rattle.hd_plan.specs.Texts.{fluent_text, instance_text}
use Rattle.hd_explain.specs.declared.reading.Reading.{Reading}
use Rattle.hd_explain.specs.Readings.{reading_at}
use Rattle.hd_explain.specs.Texts.{atom_text}

-- ---- what changes

-- a fluent that an effect changes, with its value, after those that effects before it change; a cost
-- changes none, and no fluent is listed twice
abbrev pub with_changed : Values → List ℕ → List Reading → NumericEffect → List Reading
with_changed v objects readings e =
    if is_cost e.change || list_any (λ (r : Reading). same r.fluent (ground_form_of objects e.fluent)) readings then readings
    else readings ++ reading_at v (ground_form_of objects e.fluent) ∷ []

-- the fluents that effects change, in the order of the first effect on each, with their values
abbrev pub changed_by_effects : Values → List ℕ → List NumericEffect → List Reading
changed_by_effects v objects es = fold (with_changed v objects) [] es

-- ---- lines

-- a number; each fluent that a step changes has one, and so has the cost of a plan
abbrev pub number_text : Option ℤ → List ℕ
number_text None = codes "nothing"
number_text (Some v) = signed_decimal v

-- words, and an atom
abbrev pub atom_line : LiftedTask → List ℕ → List ℕ → AppliedSymbol → List ℕ
atom_line t objects words a = words ++ atom_text t (ground_form_of objects a) ++ line_end

-- a fluent with the value that it had, and the one that it has now
abbrev pub fluent_line : LiftedTask → Values → Reading → List ℕ
fluent_line t now old =
    codes "  sets " ++ fluent_text t old.fluent ++ codes " from " ++ number_text old.value
    ++ codes " to " ++ number_text (now old.fluent) ++ line_end

-- a step's line begins with its number
abbrev pub start_text : ℕ → List ℕ
start_text n = codes "step " ++ decimal n ++ codes " "

-- and goes on with its action, and with what the plan costs up to here, this step included
abbrev pub action_text : LiftedTask → Instance → Reached → List ℕ
action_text t i to = instance_text t i ++ codes ", cost so far " ++ number_text to.cost ++ line_end

-- its effects, whether or not they change anything: the atoms that the action deletes, those that it
-- adds, each in the order of the schema, and the fluents that it changes
abbrev pub effect_lines : LiftedTask → List ℕ → Schema → List Reading → Reached → List ℕ
effect_lines t objects a olds to =
    flat_map (atom_line t objects (codes "  deletes ")) a.deletes
    ++ flat_map (atom_line t objects (codes "  adds ")) a.adds
    ++ flat_map (fluent_line t to.state.values) olds

-- ---- traces

-- the n-th step of a plan, one of this instance, passes from here to there, and these are its lines
pub record TracesInstance (t : LiftedTask) (r : Reached) (n : ℕ) (i : Instance) (to : Reached) (lines : List ℕ) : Type 0 where
  pub passes : Passes t r n i to
  pub schema : Schema
  pub is_schema : slice_get t.schemas i.schema ≡ Some schema
  pub are_lines : lines ≡ start_text n ++ action_text t i to
      ++ effect_lines t i.objects schema (changed_by_effects r.state.values i.objects schema.effects) to

-- the n-th step of a plan is one of an instance, which passes so
pub record TracesStep (t : LiftedTask) (r : Reached) (n : ℕ) (s : Step) (to : Reached) (lines : List ℕ) : Type 0 where
  pub instance : Instance
  pub is_step : IsStep t s instance
  pub traces : TracesInstance t r n instance to lines

-- the text of steps, the first of which is the n-th: nothing, if there is none left, or the next one
-- has a fault; else its lines, and then the text of those after it, from where it leads
abbrev pub TracesFrom : LiftedTask → Reached → ℕ → List Step → List ℕ → Type 0
TracesFrom t r n [] text = text ≡ []
TracesFrom t r n (s ∷ steps) text =
    ((fault : PlanFault) × TellsStepBy t r n s fault × (text ≡ []))
    ⊎ ((to : Reached) × (lines : List ℕ) × (after : List ℕ) × TracesStep t r n s to lines × TracesFrom t to (n + 1) steps after × (text ≡ lines ++ after))

-- a text is the trace of a plan
abbrev pub IsTrace : LiftedTask → List Step → List ℕ → Type 0
IsTrace t steps text = TracesFrom t (start t) 1 steps text

-- ---- what the code answers

-- the n-th step of this instance has a fault
abbrev pub FailsAt : LiftedTask → Reached → ℕ → Instance → Type 0
FailsAt t r n i = (fault : PlanFault) × TellsStep t r n i fault

-- the n-th step has a fault
abbrev pub FailsAtStep : LiftedTask → Reached → ℕ → Step → Type 0
FailsAtStep t r n s = (fault : PlanFault) × TellsStepBy t r n s fault
