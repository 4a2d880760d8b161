-- A function that no schema changes keeps the first values of its fluents.
use Rattle.std.proofs.Common.{◌≡◌, ℕ, Bool, true, false, not, ◌&&◌, ◌==◌, List, [], ◌∷◌, All, Option, Some, None, slice_get, refl, sym, ap, ◌∙◌, true≢false}
use Rattle.std.specs.Prelude.{nat_eq, if◌then◌else◌, ℤ}
use Rattle.std.specs.List.{list_any, fold}
use Rattle.std.specs.Cmp.Lexicographic.{pointwise}
use Rattle.std.proofs.lemmas.Bool.{or_parts}
use Rattle.std.proofs.lemmas.List.Elements.{All-head, All-tail}
use Rattle.std.proofs.lemmas.Option.{none-some, same_Some}
use Rattle.hd_lifted.specs.declared.schema.Ground.{Ground}
use Rattle.hd_lifted.specs.declared.schema.ChangeKind.{ChangeKind}
use Rattle.hd_lifted.specs.declared.schema.ChangeKind.TheVariants.{Assign, ScaleUp, Increase, Decrease, Cost}
use Rattle.hd_lifted.specs.declared.schema.NumericEffect.{NumericEffect}
use Rattle.hd_lifted.specs.declared.schema.Schema.{Schema}
use Rattle.hd_lifted.specs.declared.task.LiftedTask.{LiftedTask}
use Rattle.hd_lifted.specs.States.{Values, ground_form_of, first_value, initial_state}
use Rattle.hd_lifted.specs.Effects.{value_by_change, with_effect, value_after, is_cost, state_after}
use Rattle.hd_lifted.specs.Expressions.{value_of}
use Rattle.hd_lifted.specs.Steps.{Reached, start}
use Rattle.hd_lifted.specs.declared.instance.Instance.{Instance}
use Rattle.hd_lifted.specs.Plans.{IsInstance, step_by, exec_from, exec}
use Rattle.hd_lifted.specs.Amounts.{changes_function, is_changed_by, is_changed}
use Rattle.hd_lifted.proofs.Passing.{fails-from_none, Contains-slice_get}
use Rattle.hd_lifted.proofs.Sound.{IsStep, stepped, exec_from-none}

pub either_way : {A : Type 0} (b : Bool) (x : A) → (if b then x else x) ≡ x
either_way true x = refl
either_way false x = refl

elsewhere : {A : Type 0} (symbol objects : Bool) (x y : A) → (true && symbol) ≡ false → (if symbol && objects then x else y) ≡ y
elsewhere true objects x y e = absurd (true≢false e)
elsewhere false objects x y e = refl

-- an effect on another function, or a cost, leaves a value as it is
left_alone : (c : ChangeKind) (symbol objects : Bool) (x amount : Option ℤ) → (not (is_cost c) && symbol) ≡ false
    → (if symbol && objects then value_by_change c x amount else x) ≡ x
left_alone Assign symbol objects x amount e = elsewhere symbol objects (value_by_change Assign x amount) x e
left_alone ScaleUp symbol objects x amount e = elsewhere symbol objects (value_by_change ScaleUp x amount) x e
left_alone Increase symbol objects x amount e = elsewhere symbol objects (value_by_change Increase x amount) x e
left_alone Decrease symbol objects x amount e = elsewhere symbol objects (value_by_change Decrease x amount) x e
left_alone Cost symbol objects x amount e = either_way (symbol && objects) x

with_effects : (v : Values) (objects : List ℕ) (g : Ground) (es : List NumericEffect) (x : Option ℤ)
    → list_any (changes_function g.symbol) es ≡ false → fold (with_effect v objects g) x es ≡ x
with_effects v objects g [] x none = refl
with_effects v objects g (e ∷ es) x none =
    let parts = or_parts (changes_function g.symbol e) (list_any (changes_function g.symbol) es) none in
    let same : with_effect v objects g x e ≡ x =
    left_alone e.change (e.fluent.symbol == g.symbol) (pointwise nat_eq (ground_form_of objects e.fluent).objects g.objects) x (value_of v objects e.amount) parts.0 in
    ap (λ y. fold (with_effect v objects g) y es) same ∙ with_effects v objects g es x parts.1

-- a step by a schema leaves a fluent of such a function as it is
pub unchanged_after : (t : LiftedTask) (k : ℕ) (a : Schema) (v : Values) (objects : List ℕ) (g : Ground)
    → slice_get t.schemas k ≡ Some a → is_changed t g.symbol ≡ false → value_after v a objects g ≡ v g
unfolding is_changed
unchanged_after t k a v objects g at none =
    with_effects v objects g a.effects (v g) (fails-from_none (is_changed_by g.symbol) t.schemas a none (Contains-slice_get t.schemas k a at))

values_after : (t : LiftedTask) (r to : Reached) (i : Instance) (is : IsInstance t i) (g : Ground)
    → IsStep t r i is to → is_changed t g.symbol ≡ false → to.state.values g ≡ r.state.values g
unfolding state_after
values_after t r to i is g step none =
    sym (ap (λ s. s.values g) step.state) ∙ unchanged_after t i.schema is.schema r.state.values i.objects g is.is_schema none

exec_from-unchanged : (t : LiftedTask) (p : List Instance) (r to : Reached) (g : Ground)
    → All (IsInstance t) p → exec_from t (Some r) p ≡ Some to → is_changed t g.symbol ≡ false → to.state.values g ≡ r.state.values g
exec_from-unchanged t [] r to g all e none = ap (λ (q : Reached). q.state.values g) (sym (same_Some r to e))
exec_from-unchanged t (i ∷ p) r to g all e none =
    let is : IsInstance t i = All-head (IsInstance t) i p all in
    let rest : All (IsInstance t) p = All-tail (IsInstance t) i p all in
    elim (step_by t r i) as (λ o. step_by t r i ≡ o → exec_from t o p ≡ Some to → to.state.values g ≡ r.state.values g) [
      | None ↦ λ _ e. absurd (none-some to (sym (exec_from-none t p) ∙ e))
      | Some mid ↦ λ at e.
          exec_from-unchanged t p mid to g rest e none ∙ values_after t r mid i is g (stepped t r i is mid at) none
    ] refl e

pub exec-unchanged : (t : LiftedTask) (p : List Instance) (r : Reached) (g : Ground)
    → All (IsInstance t) p → exec t p ≡ Some r → is_changed t g.symbol ≡ false → r.state.values g ≡ first_value t.values g
unfolding start initial_state
exec-unchanged t p r g all e none = exec_from-unchanged t p (start t) r g all e none
