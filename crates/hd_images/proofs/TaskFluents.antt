-- The fluents that kept instances and the goal meet are those of the task.
use Rattle.std.proofs.Common.{◌≡◌, ◌≢◌, ◌<◌, ◌≤◌, Bool, true, false, cond, List, [], ◌∷◌, ◌++◌, length, Contains, Option, Some, None, inl, inr, refl, sym, ap, ◌∙◌, subst}
use Rattle.std.specs.Prelude.{flat_map, if◌then◌else◌, find}
use Rattle.std.specs.List.{AllPairs}
use Rattle.std.specs.Option.{option_or}
use Rattle.std.proofs.lemmas.List.Elements.{Contains-append_left, Contains-append_right, Contains-append_cases}
use Rattle.std.proofs.lemmas.List.Folds.{find-append}
use Rattle.std.proofs.lemmas.Option.{none-some}
use Rattle.hd_base.proofs.Members.{Contains-nil, Contains-first, Contains-later, Contains-cons_cases, Contains-flat_map}
use Rattle.hd_lifted.specs.declared.instance.Instance.{Instance}
use Rattle.hd_lifted.specs.declared.schema.Ground.{Ground}
use Rattle.hd_lifted.specs.declared.schema.Schema.{Schema}
use Rattle.hd_lifted.specs.declared.task.LiftedTask.{LiftedTask}
use Rattle.hd_lifted.specs.States.{is_listed}
use Rattle.hd_lifted.specs.Plans.{IsInstance}
use Rattle.hd_lifted.specs.Kept.{IsKept, keep}
use Rattle.hd_lifted.specs.Met.{met_by_goal}
use Rattle.hd_lifted.specs.Numbering.{form_key, HasExactly, IsTaskFluent, met, wanted, NumbersInstances, NumbersFluents}
use Rattle.hd_lifted.specs.Questions.{is_undefined}
use Rattle.hd_grounding.specs.Faults.{met_with, met_by_instance, met_by_all, undefined_in, IsTooLarge, fluents}
use Rattle.hd_images.specs.Meeting.{with_form, with_forms, IsMet}
use Rattle.hd_images.proofs.MeetingForms.{listed-contains, with_forms-second}

-- what stands in a `flat_map` comes from an element of the list
record IsPartOf {X Y : Type 0} (f : X → List Y) (xs : List X) (y : Y) : Type 0 where
  pub source : X
  pub among : Contains xs source
  pub part : Contains (f source) y

part_of : {X Y : Type 0} (f : X → List Y) (xs : List X) (y : Y) → Contains (flat_map f xs) y → IsPartOf f xs y
part_of f [] y c = absurd (Contains-nil y c)
part_of f (x ∷ xs) y c =
    elim (Contains-append_cases (f x) (flat_map f xs) y c) [
      | inl k ↦ record { source = x; among = Contains-first x xs; part = k }
      | inr k ↦ let p = part_of f xs y k in record { source = p.source; among = Contains-later x xs p.source p.among; part = p.part }
    ]

kept_instance : (t : LiftedTask) (i : Instance) → IsKept t i → IsInstance t i
kept_instance t i (keep j is statics equalities reached) = is

-- ---- the task's fluents are met, and no others

is_met : (t : LiftedTask) (instances : List Instance) (g : Ground) → NumbersInstances t instances → IsTaskFluent t g → Contains (met_by_all t instances) g
is_met t instances g numbers (met i is kept c) =
    Contains-append_left (flat_map (met_by_instance t) instances) (met_by_goal t) g
    (Contains-flat_map (met_by_instance t) instances i g ((numbers.exactly i).0 kept)
    (subst (λ (a : Option Schema). Contains (met_with a i.objects) g) (sym is.is_schema) c))
is_met t instances g numbers (wanted c) = Contains-append_right (flat_map (met_by_instance t) instances) (met_by_goal t) g c

is_fluent : (t : LiftedTask) (instances : List Instance) (g : Ground) → NumbersInstances t instances → Contains (met_by_all t instances) g → IsTaskFluent t g
is_fluent t instances g numbers c =
    elim (Contains-append_cases (flat_map (met_by_instance t) instances) (met_by_goal t) g c) [
      | inl k ↦
          let p = part_of (met_by_instance t) instances g k in
          let kept = (numbers.exactly p.source).1 p.among in
          let is = kept_instance t p.source kept in
          met p.source is kept (subst (λ (a : Option Schema). Contains (met_with a p.source.objects) g) is.is_schema p.part)
      | inr k ↦ wanted k
    ]

pub NumbersFluents-from_met : (t : LiftedTask) (instances : List Instance) (forms numbers : List Ground)
    → NumbersInstances t instances → IsMet 65536 (met_by_all t instances) forms → length forms ≤ 65536 → HasExactly (Contains forms) form_key numbers
    → NumbersFluents t numbers
NumbersFluents-from_met t instances forms numbers kept is fits numbered = record {
  exactly = λ g. (
    λ fluent. (numbered.exactly g).0 (subst (λ fs. Contains fs g) (sym (is.whole fits)) (with_forms-second [] (met_by_all t instances) g (is_met t instances g kept fluent))),
    λ c. is_fluent t instances g kept (is.within g ((numbered.exactly g).1 c)),
  );
  rising = numbered.rising;
}

pub IsTooLarge-from_met : (t : LiftedTask) (instances : List Instance) (forms : List Ground)
    → NumbersInstances t instances → IsMet 65536 (met_by_all t instances) forms → AllPairs (λ (g h : Ground). g ≢ h) forms → 65536 < length forms
    → IsTooLarge t
IsTooLarge-from_met t instances forms kept is apart over =
    fluents (record { some = forms; all = λ g c. is_fluent t instances g kept (is.within g c); distinct = apart; more = over })

-- ---- the first that passes a test

none_passes : (p : Ground → Bool) (fs : List Ground) (g : Ground) → find p fs ≡ None → Contains fs g → p g ≡ false
none_passes p [] g e c = absurd (Contains-nil g c)
none_passes p (f ∷ fs) g e c =
    elim (p f) as (λ b. p f ≡ b → cond b (Some f) (find p fs) ≡ None → p g ≡ false) [
      | true ↦ λ _ e. absurd (none-some f (sym e))
      | false ↦ λ at e. elim (Contains-cons_cases f fs g c) [ inl one ↦ ap p (sym one) ∙ at | inr k ↦ none_passes p fs g e k ]
    ] refl e

find-with_form : (p : Ground → Bool) (fs : List Ground) (g : Ground) → find p (with_form fs g) ≡ option_or (find p fs) (cond (p g) (Some g) None)
find-with_form p fs g =
    elim (is_listed fs g) as (λ b. is_listed fs g ≡ b → find p (if b then fs else fs ++ g ∷ []) ≡ option_or (find p fs) (cond (p g) (Some g) None)) [
      | true ↦ λ e.
          elim (find p fs) as (λ o. find p fs ≡ o → o ≡ option_or o (cond (p g) (Some g) None)) [
            | None ↦ λ none. ap (λ (b : Bool). cond b (Some g) None) (sym (none_passes p fs g none (listed-contains fs g e)))
            | Some x ↦ λ _. refl
          ] refl
      | false ↦ λ _. find-append p fs (g ∷ [])
    ] refl

or-assoc : {A : Type 0} (a b c : Option A) → option_or (option_or a b) c ≡ option_or a (option_or b c)
or-assoc None b c = refl
or-assoc (Some x) b c = refl

or-cond : (b : Bool) (g : Ground) (o : Option Ground) → option_or (cond b (Some g) None) o ≡ cond b (Some g) o
or-cond true g o = refl
or-cond false g o = refl

or-none : {A : Type 0} (a : Option A) → a ≡ option_or a None
or-none None = refl
or-none (Some x) = refl

find-with_forms : (p : Ground → Bool) (fs gs : List Ground) → find p (with_forms fs gs) ≡ option_or (find p fs) (find p gs)
find-with_forms p fs [] = or-none (find p fs)
find-with_forms p fs (g ∷ gs) =
    find-with_forms p (with_form fs g) gs
    ∙ (ap (λ o. option_or o (find p gs)) (find-with_form p fs g)
    ∙ (or-assoc (find p fs) (cond (p g) (Some g) None) (find p gs) ∙ ap (option_or (find p fs)) (or-cond (p g) g (find p gs))))

pub undefined_in-met : (t : LiftedTask) (instances : List Instance) (forms : List Ground) → IsMet 65536 (met_by_all t instances) forms → length forms ≤ 65536
    → find (is_undefined t) forms ≡ undefined_in t instances
undefined_in-met t instances forms is fits =
    ap (find (is_undefined t)) (is.whole fits) ∙ find-with_forms (is_undefined t) [] (met_by_all t instances)
