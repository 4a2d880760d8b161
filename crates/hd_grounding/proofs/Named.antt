-- What is numbered has names: its predicate or function, or its schema, and its objects are the
-- task's.
use Rattle.std.proofs.Common.{◌≡◌, ℕ, zero, suc, Bool, true, false, List, [], ◌∷◌, map, length, Contains, Some, slice_get, inl, inr, refl, sym, ◌∙◌, subst}
use Rattle.std.specs.Prelude.{nat_lt, flat_map, if◌then◌else◌}
use Rattle.std.specs.List.{list_all, AllZip, AllByRecursion}
use Rattle.std.specs.Option.{IsSomeAnd}
use Rattle.std.proofs.lemmas.Bool.{and_from, lt-ltb}
use Rattle.std.proofs.lemmas.List.Elements.{Contains-append_cases}
use Rattle.std.proofs.lemmas.Option.{same_Some, slice_get_within, get_or_from_slice_get}
use Rattle.hd_base.specs.declared.expression.Operand.{Operand}
use Rattle.hd_base.specs.declared.expression.Operand.TheVariants.{Number, Fluent}
use Rattle.hd_base.specs.Expression.{Expression, leaf, negate, binary}
use Rattle.hd_base.proofs.Members.{Contains-nil, Contains-cons_cases, Contains-from_flat_map}
use Rattle.hd_base.proofs.Places.{left_of, place_of}
use Rattle.hd_base.proofs.Lists.{AllByRecursion-slice_get}
use Rattle.hd_lifted.specs.declared.schema.Argument.{Argument}
use Rattle.hd_lifted.specs.declared.schema.Argument.TheVariants.{Parameter, Object}
use Rattle.hd_lifted.specs.declared.schema.AppliedSymbol.{AppliedSymbol}
use Rattle.hd_lifted.specs.declared.schema.Ground.{Ground}
use Rattle.hd_lifted.specs.declared.schema.Literal.{Literal}
use Rattle.hd_lifted.specs.declared.schema.Comparison.{Comparison}
use Rattle.hd_lifted.specs.declared.schema.NumericEffect.{NumericEffect}
use Rattle.hd_lifted.specs.declared.schema.Schema.{Schema}
use Rattle.hd_lifted.specs.declared.task.Signature.{Signature}
use Rattle.hd_lifted.specs.declared.task.LiftedTask.{LiftedTask}
use Rattle.hd_lifted.specs.declared.instance.Instance.{Instance}
use Rattle.hd_lifted.specs.Types.{IsSubtype}
use Rattle.hd_lifted.specs.Objects.{IsOfType, AreOfTypes}
use Rattle.hd_lifted.specs.States.{same, object_of, ground_form_of}
use Rattle.hd_lifted.specs.Effects.{is_cost}
use Rattle.hd_lifted.specs.Plans.{IsInstance}
use Rattle.hd_lifted.specs.WellFormed.{IsArgumentOf, IsApplied, IsGround, IsExpression, IsComparison, IsEffectIn, IsLiteral, IsSchema, IsWellFormed}
use Rattle.hd_task.specs.WellFormed.{is_named}
use Rattle.hd_lifted.specs.Kept.{IsReachable, initially, added}
use Rattle.hd_lifted.specs.Met.{fluents_in, met_by_comparison, changed_by, met_by_effect, met_by}
use Rattle.hd_lifted.specs.Numbering.{IsTaskAtom, IsTaskFluent}
use Rattle.hd_lifted.proofs.Passing.{passing-from_any}
use Rattle.hd_lifted.proofs.Sound.{same-true}
use Rattle.hd_grounding.specs.Grounding.{form_of, form_of_instance}
use Rattle.hd_grounding.proofs.Grounded.{instance_kept}

-- ---- places

-- what stands at a number of a list, and has a property
pub record IsThere {X : Type 0} (P : X → Type 0) (xs : List X) (k : ℕ) : Type 0 where
  pub value : X
  pub place : slice_get xs k ≡ Some value
  pub has : P value

pub there_from : {X : Type 0} (P : X → Type 0) (xs : List X) (k : ℕ) → IsSomeAnd (slice_get xs k) P → IsThere P xs k
there_from P [] k some = absurd some
there_from P (x ∷ xs) zero some = record { value = x; place = refl; has = some }
there_from P (x ∷ xs) (suc k) some = let m = there_from P xs k some in record { value = m.value; place = m.place; has = m.has }

pub some_from : {X : Type 0} (P : X → Type 0) (xs : List X) (k : ℕ) → IsThere P xs k → IsSomeAnd (slice_get xs k) P
some_from P xs k m = subst (λ o. IsSomeAnd o P) (sym m.place) m.has

pub each-from_all : {X : Type 0} (P : X → Type 0) (xs : List X) (x : X) → AllByRecursion P xs → Contains xs x → P x
each-from_all P xs x all c = let k = place_of xs x c in AllByRecursion-slice_get P xs k.0 x all k.1

pub below : {X : Type 0} (xs : List X) (k : ℕ) (x : X) → slice_get xs k ≡ Some x → nat_lt k (length xs) ≡ true
below xs k x e = lt-ltb k (length xs) (slice_get_within xs k x e)

module _ (t : LiftedTask) where
  -- ---- objects

  pub objects_named : (objects types : List ℕ) → AreOfTypes t objects types → list_all (λ o. nat_lt o (length t.objects)) objects ≡ true
  objects_named [] [] typed = refl
  objects_named [] (u ∷ types) typed = absurd typed
  objects_named (o ∷ objects) [] typed = absurd typed
  objects_named (o ∷ objects) (u ∷ types) typed =
      and_from (nat_lt o (length t.objects)) (list_all (λ o. nat_lt o (length t.objects)) objects)
      (below t.objects o typed.0.declared typed.0.is_declared) (objects_named objects types typed.1)

  pub ground_named : (symbols : List Signature) (g : Ground) → IsGround t symbols g → is_named (length symbols) (length t.objects) (form_of g) ≡ true
  ground_named symbols g is =
      let m = there_from (λ (s : Signature). AreOfTypes t g.objects s.parameters) symbols g.symbol is in
      and_from (nat_lt g.symbol (length symbols)) (list_all (λ o. nat_lt o (length t.objects)) g.objects)
      (below symbols g.symbol m.value m.place) (objects_named g.objects m.value.parameters m.has)

  pub instance_named : (i : Instance) → IsInstance t i → is_named (length t.schemas) (length t.objects) (form_of_instance i) ≡ true
  instance_named i is =
      and_from (nat_lt i.schema (length t.schemas)) (list_all (λ o. nat_lt o (length t.objects)) i.objects)
      (below t.schemas i.schema is.schema is.is_schema) (objects_named i.objects is.schema.parameters is.typed)

  -- ---- what stands for parameters

  module _ (objects types : List ℕ) (typed : AreOfTypes t objects types) where
    argument_typed : (a : Argument) (wanted : ℕ) → IsArgumentOf t types a wanted → IsOfType t (object_of objects a) wanted
    argument_typed (Object o) wanted is = is
    argument_typed (Parameter k) wanted is =
        let m = there_from (λ u. IsSubtype t.hierarchy u wanted) types k is in
        let beside = left_of (IsOfType t) objects types k m.value typed m.place in
        let of : IsOfType t beside.0 wanted = record {
          declared = beside.2.declared;
          is_declared = beside.2.is_declared;
          below = IsSubtype.transitive beside.2.below m.has;
        } in
        subst (λ o. IsOfType t o wanted) (sym (get_or_from_slice_get objects k beside.0 0 beside.1)) of

    arguments_typed : (xs : List Argument) (wanted : List ℕ) → AllZip (IsArgumentOf t types) xs wanted → AreOfTypes t (map (object_of objects) xs) wanted
    arguments_typed [] [] zip = tt
    arguments_typed [] (u ∷ wanted) zip = absurd zip
    arguments_typed (a ∷ xs) [] zip = absurd zip
    arguments_typed (a ∷ xs) (u ∷ wanted) zip = (argument_typed a u zip.0, arguments_typed xs wanted zip.1)

    pub applied_ground : (symbols : List Signature) (a : AppliedSymbol) → IsApplied t symbols types a → IsGround t symbols (ground_form_of objects a)
    applied_ground symbols a is =
        let m = there_from (λ (s : Signature). AllZip (IsArgumentOf t types) a.arguments s.parameters) symbols a.symbol is in
        some_from (λ (s : Signature). AreOfTypes t (map (object_of objects) a.arguments) s.parameters) symbols a.symbol
        (record { value = m.value; place = m.place; has = arguments_typed a.arguments m.value.parameters m.has })

    -- ---- fluents that are met

    expression_ground : (e : Expression (Operand AppliedSymbol)) → IsExpression t types e → (g : Ground) → Contains (fluents_in objects e) g → IsGround t t.functions g
    expression_ground (leaf (Number v)) is g c = absurd (Contains-nil g c)
    expression_ground (leaf (Fluent a)) is g c =
        elim (Contains-cons_cases (ground_form_of objects a) [] g c) [
          | inl e ↦ subst (IsGround t t.functions) e (applied_ground t.functions a is)
          | inr c ↦ absurd (Contains-nil g c)
        ]
    expression_ground (negate x) is g c = expression_ground x is g c
    expression_ground (binary o x y) is g c =
        elim (Contains-append_cases (fluents_in objects x) (fluents_in objects y) g c) [
          | inl c ↦ expression_ground x is.0 g c
          | inr c ↦ expression_ground y is.1 g c
        ]

    pub comparisons_ground : (cs : List Comparison) → AllByRecursion (IsComparison t types) cs
        → (g : Ground) → Contains (flat_map (met_by_comparison objects) cs) g → IsGround t t.functions g
    comparisons_ground cs all g c =
        let from = Contains-from_flat_map (met_by_comparison objects) cs g c in
        let is = each-from_all (IsComparison t types) cs from.0 all from.1 in
        elim (Contains-append_cases (fluents_in objects from.0.left) (fluents_in objects from.0.right) g from.2) [
          | inl c ↦ expression_ground from.0.left is.0 g c
          | inr c ↦ expression_ground from.0.right is.1 g c
        ]

    changed_ground : (cost : Bool) (a : AppliedSymbol) → IsApplied t t.functions types a
        → (g : Ground) → Contains (if cost then [] else ground_form_of objects a ∷ []) g → IsGround t t.functions g
    changed_ground true a is g c = absurd (Contains-nil g c)
    changed_ground false a is g c =
        elim (Contains-cons_cases (ground_form_of objects a) [] g c) [
          | inl e ↦ subst (IsGround t t.functions) e (applied_ground t.functions a is)
          | inr c ↦ absurd (Contains-nil g c)
        ]

    pub effects_ground : (es : List NumericEffect) → AllByRecursion (IsEffectIn t types) es
        → (g : Ground) → Contains (flat_map (met_by_effect objects) es) g → IsGround t t.functions g
    effects_ground es all g c =
        let from = Contains-from_flat_map (met_by_effect objects) es g c in
        let is = each-from_all (IsEffectIn t types) es from.0 all from.1 in
        elim (Contains-append_cases (changed_by objects from.0) (fluents_in objects from.0.amount) g from.2) [
          | inl c ↦ changed_ground (is_cost from.0.change) from.0.fluent is.0 g c
          | inr c ↦ expression_ground from.0.amount is.1 g c
        ]

  -- ---- what is numbered

  module _ (well : IsWellFormed t) where
    schema_is : (k : ℕ) (a : Schema) → slice_get t.schemas k ≡ Some a → IsSchema t a
    schema_is k a e = AllByRecursion-slice_get (IsSchema t) t.schemas k a well.schemas e

    reachable_ground : (g : Ground) → IsReachable t g → IsGround t t.predicates g
    reachable_ground g (initially h listed) =
        let k = passing-from_any (λ a. same a g) t.atoms listed in
        subst (IsGround t t.predicates) (same-true k.value g k.passes) (each-from_all (IsGround t t.predicates) t.atoms k.value well.atoms k.among)
    reachable_ground g (added i a e h kept is_schema among is) =
        let own = instance_kept t i kept in
        let typed = own.typed in
        let asked = each-from_all (IsApplied t t.predicates own.schema.parameters) own.schema.adds e (schema_is i.schema own.schema own.is_schema).adds
        (subst (λ (o : Schema). Contains o.adds e) (same_Some a own.schema (sym is_schema ∙ own.is_schema)) among) in
        subst (IsGround t t.predicates) is (applied_ground i.objects own.schema.parameters typed t.predicates e asked)

    pub atom_ground : (g : Ground) → IsTaskAtom t g → IsGround t t.predicates g
    atom_ground g (IsTaskAtom.reached reached) = reachable_ground g reached
    atom_ground g (IsTaskAtom.wanted l among is) =
        subst (IsGround t t.predicates) is
        (applied_ground [] [] tt t.predicates l.atom (each-from_all (IsLiteral t []) t.goal.literals l well.goal.literals among))

    pub met_ground : (i : Instance) (is : IsInstance t i) (g : Ground) → Contains (met_by i.objects is.schema) g → IsGround t t.functions g
    met_ground i is g c =
        let a = is.schema in
        let own = schema_is i.schema a is.is_schema in
        elim (Contains-append_cases (flat_map (met_by_comparison i.objects) a.condition.comparisons) (flat_map (met_by_effect i.objects) a.effects) g c) [
          | inl c ↦ comparisons_ground i.objects a.parameters is.typed a.condition.comparisons own.condition.comparisons g c
          | inr c ↦ effects_ground i.objects a.parameters is.typed a.effects own.effects g c
        ]

    pub fluent_ground : (g : Ground) → IsTaskFluent t g → IsGround t t.functions g
    fluent_ground g (IsTaskFluent.wanted c) = comparisons_ground [] [] tt t.goal.comparisons well.goal.comparisons g c
    fluent_ground g (IsTaskFluent.met i is kept c) = met_ground i is g c

    -- ---- what an instance applies to its objects

    applied_of : (i : Instance) (is : IsInstance t i) (a : AppliedSymbol) → IsApplied t t.predicates is.schema.parameters a → IsGround t t.predicates (ground_form_of i.objects a)
    applied_of i is a asked = applied_ground i.objects is.schema.parameters is.typed t.predicates a asked

    pub adds_ground : (i : Instance) (is : IsInstance t i) (a : AppliedSymbol) → Contains is.schema.adds a → IsGround t t.predicates (ground_form_of i.objects a)
    adds_ground i is a c =
        applied_of i is a (each-from_all (IsApplied t t.predicates is.schema.parameters) is.schema.adds a (schema_is i.schema is.schema is.is_schema).adds c)

    pub deletes_ground : (i : Instance) (is : IsInstance t i) (a : AppliedSymbol) → Contains is.schema.deletes a → IsGround t t.predicates (ground_form_of i.objects a)
    deletes_ground i is a c =
        applied_of i is a (each-from_all (IsApplied t t.predicates is.schema.parameters) is.schema.deletes a (schema_is i.schema is.schema is.is_schema).deletes c)

    pub literals_ground : (i : Instance) (is : IsInstance t i) (l : Literal) → Contains is.schema.condition.literals l → IsGround t t.predicates (ground_form_of i.objects l.atom)
    literals_ground i is l c =
        applied_of i is l.atom
        (each-from_all (IsLiteral t is.schema.parameters) is.schema.condition.literals l (schema_is i.schema is.schema is.is_schema).condition.literals c)
