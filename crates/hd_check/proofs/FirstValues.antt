-- In texts without a fault no fluent has two first values.
use Rattle.hd_base.proofs.Options.{false-from_none, option_or_none}
use Rattle.std.proofs.Common.{◌≡◌, ◌≢◌, ℕ, Bool, true, false, List, [], ◌∷◌, ◌++◌, None, sym, ap, ◌∙◌}
use Rattle.std.proofs.lemmas.Bool.{or_parts, false≢true}
use Rattle.std.proofs.lemmas.List.Folds.{list_any-append}
use Rattle.std.proofs.lemmas.Slice.Eq.{bytes_eq-Decides}
use Rattle.std.specs.Prelude.{if◌then◌else◌}
use Rattle.std.specs.List.{AllByRecursion, list_any}
use Rattle.std.specs.Str.{bytes_eq}
use Rattle.hd_pddl.specs.declared.tree.DomainAst.{DomainAst}
use Rattle.hd_pddl.specs.declared.tree.ProblemAst.{ProblemAst}
use Rattle.hd_pddl.specs.declared.tree.Init.{Init}
use Rattle.hd_pddl.specs.declared.tree.Init.TheVariants as inits
use Rattle.hd_lifted.specs.declared.schema.Ground.{Ground}
use Rattle.hd_lifted.specs.declared.task.InitialValue.{InitialValue}
use Rattle.hd_names.specs.declared.fault.NameFault.TheVariants.{Duplicate}
use Rattle.hd_check.specs.declared.fault.CheckFault.TheVariants.{OfName}
use Rattle.hd_names.specs.declared.scope.Scope.{Scope}
use Rattle.hd_base.specs.Options.{◌or◌}
use Rattle.hd_names.specs.Names.{name_number}
use Rattle.hd_names.specs.Scope.{type_names, parents_of}
use Rattle.hd_check.specs.Terms.{applied_fault}
use Rattle.hd_check.specs.Effects.{is_metric}
use Rattle.hd_check.specs.Initial.{no_parameters, range_fault, second_value, fluent_of, with_first_value, value_fault, initial_fault, first_values}
use Rattle.hd_lifted.specs.Numbering.{form_key}
use Rattle.hd_check.specs.Whole.{domain_in, lifted_domain, problem_in, lifted_problem, task_with, task_behind, task_below, lifted_task, fault_below, AreFaultlessTexts}
use Rattle.hd_lifted.specs.WellFormed.{AreOfDifferentFluents}
use Rattle.hd_check.proofs.NoFaults.{problem_scope, all_clear}

-- a value's fluent is none of these
abbrev IsNew : List (List ℕ) → InitialValue → Type 0
IsNew given v = list_any (bytes_eq (form_key v.fluent)) given ≡ false

-- values of different fluents, none of which is one of these
record AreNew (given : List (List ℕ)) (vs : List InitialValue) : Type 0 where
  new : AllByRecursion (IsNew given) vs
  different : AreOfDifferentFluents vs

differ : (g h : Ground) → bytes_eq (form_key h) (form_key g) ≡ false → g ≢ h
differ g h e same = false≢true (sym e ∙ (bytes_eq-Decides (form_key h) (form_key g)).1 (ap form_key (sym same)))

-- what is new after one more
older : (given : List (List ℕ)) (g : Ground) (vs : List InitialValue) → AllByRecursion (IsNew (given ++ form_key g ∷ [])) vs
    → AllByRecursion (IsNew given) vs × AllByRecursion (λ (w : InitialValue). g ≢ w.fluent) vs
older given g [] h = (tt, tt)
older given g (w ∷ vs) (h, hs) =
    let rest = older given g vs hs in
    let both = or_parts (list_any (bytes_eq (form_key w.fluent)) given) (list_any (bytes_eq (form_key w.fluent)) (form_key g ∷ [])) (sym (list_any-append (bytes_eq (form_key w.fluent)) given (form_key g ∷ [])) ∙ h) in
    let here = or_parts (bytes_eq (form_key w.fluent) (form_key g)) false both.1 in
    ((both.0, rest.0), (differ g w.fluent here.0, rest.1))

with_one : (given : List (List ℕ)) (b : Bool) (v : InitialValue) (vs : List InitialValue) → IsNew given v → AllByRecursion (IsNew given) vs
    → AllByRecursion (λ (w : InitialValue). v.fluent ≢ w.fluent) vs → AreOfDifferentFluents vs
    → AreNew given ((if b then [] else v ∷ []) ++ vs)
with_one given true v vs new news others different = record { new = news; different = different }
with_one given false v vs new news others different = record { new = (new, news); different = (others, different) }

values : (s : Scope) (given : List (List ℕ)) (is : List Init) → initial_fault s given is ≡ None → AreNew given (first_values s is)
values s given [] e = record { new = tt; different = tt }
values s given (inits.Atom a ∷ is) e =
    let parts = option_or_none (applied_fault s.predicates s no_parameters a) (initial_fault s given is) e in
    let rest = values s given is parts.1 in
    record { new = rest.new; different = rest.different }
values s given (inits.NotAtom a ∷ is) e =
    let parts = option_or_none (applied_fault s.predicates s no_parameters a) (initial_fault s given is) e in
    let rest = values s given is parts.1 in
    record { new = rest.new; different = rest.different }
values s given (inits.Value v ∷ is) e =
    let parts = option_or_none (value_fault s given v) (initial_fault s (with_first_value s given v) is) e in
    let rest = values s (with_first_value s given v) is parts.1 in
    let first = option_or_none (applied_fault s.functions s no_parameters v.fluent) (second_value given (form_key (fluent_of s v)) v.fluent or range_fault v) parts.0 in
    let later = option_or_none (second_value given (form_key (fluent_of s v)) v.fluent) (range_fault v) first.1 in
    let new : list_any (bytes_eq (form_key (fluent_of s v))) given ≡ false =
    false-from_none (list_any (bytes_eq (form_key (fluent_of s v))) given) (OfName (Duplicate v.fluent.name.name v.fluent.name.at)) later.0 in
    let old = older given (fluent_of s v) (first_values s is) rest.new in
    with_one given (is_metric s.metric (name_number s.functions.names v.fluent.name.name)) (record { fluent = fluent_of s v; value = v.value })
    (first_values s is) new old.0 old.1 rest.different

below : (types : List (List ℕ)) (parents : List ℕ) (d : DomainAst) (p : ProblemAst) → fault_below types parents d p ≡ None
    → AreOfDifferentFluents (task_below types parents d p).values
unfolding lifted_domain domain_in lifted_problem problem_in task_with task_behind task_below
below types parents d p e = (values (problem_scope types parents d p) [] p.init (all_clear types parents d p e).problem.initial).different

pub different_fluents : (d : DomainAst) (p : ProblemAst) → AreFaultlessTexts d p → AreOfDifferentFluents (lifted_task d p).values
different_fluents d p clean = below (type_names d.types) (parents_of d.types) d p clean.behind_cycles
