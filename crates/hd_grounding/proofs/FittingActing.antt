-- The actions of what is counted fit: their atoms and fluents have numbers, and their effects rise.
use Rattle.std.proofs.Common.{◌≡◌, ℕ, suc, ◌<◌, true, List, [], ◌∷◌, map, filter, length, Contains, Some, slice_get, refl, sym, ap, ◌∙◌, subst, arith, true≢false}
use Rattle.std.specs.Prelude.{nat_lt, ◌&&◌, flat_map}
use Rattle.std.specs.List.{list_all, AllZip, AllPairs}
use Rattle.std.specs.Ordering.{nat_cmp, is_lt, ordering_then}
use Rattle.std.specs.declared.cmp.Ordering.{Ordering}
use Rattle.std.specs.declared.cmp.Ordering.TheVariants.{Less, Equal, Greater}
use Rattle.std.proofs.lemmas.Bool.{and_from, lt-ltb}
use Rattle.std.proofs.lemmas.Cmp.{ranked}
use Rattle.std.proofs.lemmas.List.Elements.{Contains-append_left, Contains-append_right}
use Rattle.std.proofs.lemmas.Option.{same_Some}
use Rattle.hd_base.proofs.Members.{Contains-from_filter}
use Rattle.hd_base.proofs.Places.{place_of, left_of}
use Rattle.hd_base.proofs.Tests.{list_all-from_each}
use Rattle.hd_lifted.specs.declared.schema.Ground.{Ground}
use Rattle.hd_lifted.specs.declared.schema.Schema.{Schema}
use Rattle.hd_lifted.specs.declared.task.LiftedTask.{LiftedTask}
use Rattle.hd_lifted.specs.declared.instance.Instance.{Instance}
use Rattle.hd_task.specs.declared.condition.Condition.{Condition}
use Rattle.hd_task.specs.declared.effect.Effect.{Effect}
use Rattle.hd_task.specs.declared.action.Action.{Action}
use Rattle.hd_task.specs.WellFormed.{comparison_reads_below, change_reads_below, effect_fits, is_rising, action_fits}
use Rattle.hd_lifted.specs.Kept.{IsKept}
use Rattle.hd_lifted.specs.Met.{met_by_comparison, met_by_effect, met_by}
use Rattle.hd_lifted.specs.Numbering.{ComesBefore, IsTaskFluent}
use Rattle.hd_lifted.proofs.Passing.{Contains-slice_get}
use Rattle.hd_grounding.specs.Images.{is_on}
use Rattle.hd_grounding.specs.Grounding.{IsEffectOf, IsActionOf}
use Rattle.hd_grounding.proofs.Grounded.{instance_kept}
use Rattle.hd_grounding.specs.Counted.{AreCounted}
use Rattle.hd_grounding.proofs.Named.{below}
use Rattle.hd_grounding.proofs.Reading.{AreRead, HaveReadAmounts, numbers_below, comparisons_read, amounts_read, changes_read}

-- ---- numbers that rise

less-from : (o : Ordering) (x y : ℕ) → o ≡ nat_cmp x y → ordering_then o Equal ≡ Less → x < y
less-from Less x y e less = ranked x y Less e
less-from Equal x y e less = absurd (true≢false (sym (ap is_lt less)))
less-from Greater x y e less = absurd (true≢false (sym (ap is_lt less)))

rising_numbers : (es : List Effect) → AllPairs (λ (x y : Effect). ComesBefore (x.fluent ∷ []) (y.fluent ∷ [])) es → is_rising (map (λ (e : Effect). e.fluent) es) ≡ true
rising_numbers [] rising = refl
rising_numbers (x ∷ []) rising = refl
rising_numbers (x ∷ (y ∷ es)) rising =
    and_from (nat_lt x.fluent y.fluent) (is_rising (map (λ (e : Effect). e.fluent) (y ∷ es)))
    (lt-ltb x.fluent y.fluent (less-from (nat_cmp x.fluent y.fluent) x.fluent y.fluent refl (rising 0 1 x (omega arith) (omega arith))))
    (rising_numbers (y ∷ es) (λ i j d lt within. rising (suc i) (suc j) d (omega (arith, lt)) (omega (arith, within))))

module _ (t : LiftedTask) (instances : List Instance) (atoms fluents : List Ground) (counted : AreCounted t instances atoms fluents) where
  -- ---- actions

  -- each action is that of a kept instance
  pub kept_action : (actions : List Action) (b : Action) → AllZip (IsActionOf t atoms fluents) instances actions → Contains actions b
      → (i : Instance) × Contains instances i × IsKept t i × IsActionOf t atoms fluents i b
  kept_action actions b are c =
      let place = place_of actions b c in
      let beside = left_of (IsActionOf t atoms fluents) instances actions place.0 b are place.1 in
      let among = Contains-slice_get instances place.0 beside.0 beside.1 in
      (beside.0, among, (counted.numbers_instances.exactly beside.0).1 among, beside.2)

  -- what a kept instance meets has a number
  pub met_numbered : (i : Instance) (a : Schema) → IsKept t i → slice_get t.schemas i.schema ≡ Some a → AreRead fluents i.objects (met_by i.objects a)
  met_numbered i a kept e g c =
      let own = instance_kept t i kept in
      (counted.numbers_fluents.exactly g).0
      (IsTaskFluent.met i own kept (subst (λ (o : Schema). Contains (met_by i.objects o) g) (same_Some a own.schema (sym e ∙ own.is_schema)) c))

  module _ (i : Instance) (b : Action) (kept : IsKept t i) (is : IsActionOf t atoms fluents i b) where
    abbrev a : Schema
    a = is.schema

    pub effects_numbered : AreRead fluents i.objects (flat_map (met_by_effect i.objects) a.effects)
    effects_numbered g c =
        met_numbered i a kept is.is_schema g
        (Contains-append_right (flat_map (met_by_comparison i.objects) a.condition.comparisons) (flat_map (met_by_effect i.objects) a.effects) g c)

    comparisons_numbered : AreRead fluents i.objects (flat_map (met_by_comparison i.objects) a.condition.comparisons)
    comparisons_numbered g c =
        met_numbered i a kept is.is_schema g
        (Contains-append_left (flat_map (met_by_comparison i.objects) a.condition.comparisons) (flat_map (met_by_effect i.objects) a.effects) g c)

    effect_is_fit : (e : Effect) → Contains b.effects e → effect_fits (length fluents) e ≡ true
    effect_is_fit e among =
        let of : IsEffectOf fluents i.objects a e = (is.effects.exactly e).1 among in
        let here = filter (is_on i.objects of.fluent) a.effects in
        let read : HaveReadAmounts fluents i.objects here =
        λ f c. amounts_read fluents i.objects a.effects effects_numbered f (Contains-from_filter (is_on i.objects of.fluent) a.effects f c) in
        and_from (nat_lt e.fluent (length fluents)) (change_reads_below (length fluents) e.change)
        (below fluents e.fluent of.fluent of.is_numbered)
        (changes_read fluents i.objects here e.change read of.is_change)

    pub is_fit : action_fits (length atoms) (length fluents) b ≡ true
    is_fit =
        let adds = list_all (λ i. nat_lt i (length atoms)) b.adds in
        let comparisons = list_all (comparison_reads_below (length fluents)) b.condition.comparisons in
        let effects = list_all (effect_fits (length fluents)) b.effects in
        let rises = is_rising (map (λ (e : Effect). e.fluent) b.effects) in
        and_from (adds && comparisons && effects) rises
        (and_from (adds && comparisons) effects
        (and_from adds comparisons
        (ap (list_all (λ k. nat_lt k (length atoms))) is.changes_atoms.adds ∙ numbers_below atoms i.objects a.adds)
        (ap (λ (c : Condition). list_all (comparison_reads_below (length fluents)) c.comparisons) is.condition
        ∙ comparisons_read fluents i.objects a.condition.comparisons comparisons_numbered))
        (list_all-from_each (effect_fits (length fluents)) b.effects effect_is_fit))
        (rising_numbers b.effects is.effects.rising)
