-- What effects stand for, and their first faults. (The rules of names are those of PDDL 2.1.)
use Rattle.std.specs.Prelude.{ℕ, ◌==◌, Bool, false, if◌then◌else◌, List, [], ◌∷◌, ◌++◌, Option, Some, None, Result}
use Rattle.hd_forms.specs.declared.word.ChangeWord as words
use Rattle.hd_forms.specs.declared.word.ChangeWord.TheVariants as changes
use Rattle.hd_terms.specs.declared.tree.Effect.{Effect}
use Rattle.hd_terms.specs.declared.tree.Effect.TheVariants as effects
use Rattle.hd_terms.specs.declared.tree.FluentChange.{FluentChange}
use Rattle.hd_lifted.specs.declared.schema.AppliedSymbol.{AppliedSymbol}
use Rattle.hd_lifted.specs.declared.schema.ChangeKind.{ChangeKind}
use Rattle.hd_lifted.specs.declared.schema.ChangeKind.TheVariants.{Assign, ScaleUp, Increase, Decrease, Cost}
use Rattle.hd_lifted.specs.declared.schema.NumericEffect.{NumericEffect}
use Rattle.hd_check.specs.declared.effects.Effects.{Effects}
use Rattle.hd_check.specs.declared.effects.FoundEffects.{FoundEffects}
use Rattle.hd_check.specs.Lifting.{within}
use Rattle.hd_check.specs.declared.context.Context.{Context}
use Rattle.hd_names.specs.declared.scope.Scope.{Scope}
use Rattle.hd_names.specs.declared.table.Table.{Table}
use Rattle.hd_check.specs.declared.fault.CheckFault.{CheckFault}
use Rattle.hd_base.specs.Answers.{ChecksInto}
use Rattle.hd_base.specs.Options.{◌or◌}
use Rattle.hd_check.specs.declared.fault.CheckStop.{CheckStop}
use Rattle.hd_check.specs.Fault.{StopsAt}
use Rattle.hd_names.specs.Names.{name_number}
use Rattle.hd_check.specs.Terms.{applied_fault, lifted_applied, expression_fault, lifted_expression}

-- the first fault of a change: of its fluent, then of its amount
abbrev pub change_fault : Scope → Table ℕ → FluentChange → Option CheckFault
change_fault s ps c = applied_fault s.functions s ps c.fluent or expression_fault s ps c.amount

-- the first fault of a part
abbrev pub effect_fault : Scope → Table ℕ → Effect → Option CheckFault
effect_fault s ps (effects.Add a) = applied_fault s.predicates s ps a
effect_fault s ps (effects.Delete a) = applied_fault s.predicates s ps a
effect_fault s ps (effects.Change c) = change_fault s ps c

-- the first fault of an effect
abbrev pub effects_fault : Scope → Table ℕ → List Effect → Option CheckFault
effects_fault s ps [] = None
effects_fault s ps (e ∷ es) = effect_fault s ps e or effects_fault s ps es

-- whether a function, by its number, is the metric's
abbrev pub is_metric : Option ℕ → ℕ → Bool
is_metric None f = false
is_metric (Some m) f = m == f

-- how a change changes its fluent: an increase of the metric's function is a part of the cost
abbrev pub lifted_change : Bool → words.ChangeWord → ChangeKind
lifted_change cost changes.Assign = Assign
lifted_change cost changes.ScaleUp = ScaleUp
lifted_change cost changes.Increase = if cost then Cost else Increase
lifted_change cost changes.Decrease = Decrease

-- what a change stands for
abbrev pub lifted_effect : Scope → Table ℕ → FluentChange → NumericEffect
lifted_effect s ps c = record {
  change = lifted_change (is_metric s.metric (name_number s.functions.names c.fluent.name.name)) c.change;
  fluent = lifted_applied s.functions s ps c.fluent;
  amount = lifted_expression s ps c.amount;
}

-- the atom that a part adds, if it adds one
abbrev pub adds_of : Scope → Table ℕ → Effect → List AppliedSymbol
adds_of s ps (effects.Add a) = lifted_applied s.predicates s ps a ∷ []
adds_of s ps (effects.Delete a) = []
adds_of s ps (effects.Change c) = []

-- the atom that a part deletes, if it deletes one
abbrev pub deletes_of : Scope → Table ℕ → Effect → List AppliedSymbol
deletes_of s ps (effects.Add a) = []
deletes_of s ps (effects.Delete a) = lifted_applied s.predicates s ps a ∷ []
deletes_of s ps (effects.Change c) = []

-- the change of a number that a part is, if it is one
abbrev pub changes_of : Scope → Table ℕ → Effect → List NumericEffect
changes_of s ps (effects.Add a) = []
changes_of s ps (effects.Delete a) = []
changes_of s ps (effects.Change c) = lifted_effect s ps c ∷ []

-- the atoms that an effect adds, in the text's order
abbrev pub adds_in : Scope → Table ℕ → List Effect → List AppliedSymbol
adds_in s ps [] = []
adds_in s ps (e ∷ es) = adds_of s ps e ++ adds_in s ps es

-- the atoms that it deletes
abbrev pub deletes_in : Scope → Table ℕ → List Effect → List AppliedSymbol
deletes_in s ps [] = []
deletes_in s ps (e ∷ es) = deletes_of s ps e ++ deletes_in s ps es

-- its changes of numbers
abbrev pub changes_in : Scope → Table ℕ → List Effect → List NumericEffect
changes_in s ps [] = []
changes_in s ps (e ∷ es) = changes_of s ps e ++ changes_in s ps es

-- what an effect stands for
abbrev pub lifted_effects : Scope → Table ℕ → List Effect → Effects
lifted_effects s ps es = record { deletes = deletes_in s ps es; adds = adds_in s ps es; changes = changes_in s ps es }

-- ---- what calls answer: what was found of an effect, with what a part stands for after it

-- the deleted atoms found so far, and then that of a part, if any; or a stop at its fault
abbrev pub GathersDeletes : {R : Type 0} → Result R CheckStop → FoundEffects → FoundEffects → Context → Effect → Type 0
GathersDeletes result old new c e =
    ChecksInto StopsAt result new.deletes.items (within c effect_fault e) (old.deletes.items ++ within c deletes_of e)

-- the added atoms found so far, and then that of a part, if any; or a stop at its fault
abbrev pub GathersAdds : {R : Type 0} → Result R CheckStop → FoundEffects → FoundEffects → Context → Effect → Type 0
GathersAdds result old new c e =
    ChecksInto StopsAt result new.adds.items (within c effect_fault e) (old.adds.items ++ within c adds_of e)

-- the changes of numbers found so far, and then that of a part, if any; or a stop at its fault
abbrev pub GathersChanges : {R : Type 0} → Result R CheckStop → FoundEffects → FoundEffects → Context → Effect → Type 0
GathersChanges result old new c e =
    ChecksInto StopsAt result new.changes.items (within c effect_fault e) (old.changes.items ++ within c changes_of e)
