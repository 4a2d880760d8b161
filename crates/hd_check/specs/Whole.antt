-- What a domain and a problem stand for together, and what a check of them reports. (Our own.)
use Rattle.std.specs.Prelude.{◌≡◌, ℕ, if◌then◌else◌, List, [], ◌∷◌, ◌++◌, map, Option, Some, None, Result, Ok, Err, codes}
use Rattle.std.specs.Str.{bytes_eq}
use Rattle.hd_forms.specs.declared.names.NameAt.{NameAt}
use Rattle.hd_terms.specs.declared.tree.Typed.{Typed}
use Rattle.hd_terms.specs.declared.typed.ItemKind.TheVariants as kinds
use Rattle.hd_pddl.specs.declared.tree.DomainAst.{DomainAst}
use Rattle.hd_pddl.specs.declared.tree.ProblemAst.{ProblemAst}
use Rattle.hd_pddl.specs.declared.tree.Signature.{Signature}
use Rattle.hd_lifted.specs.declared.schema.Condition.{Condition}
use Rattle.hd_lifted.specs.declared.schema.Schema.{Schema}
use Rattle.hd_lifted.specs.declared.task.LiftedTask.{LiftedTask}
use Rattle.hd_lifted.specs.declared.task.Object.{Object}
use Rattle.hd_lifted.specs.declared.task.Signature as lifted
use Rattle.hd_lifted.specs.Types.{IsAcyclic}
use Rattle.hd_check.specs.declared.checking.TypesPart.{TypesPart}
use Rattle.hd_check.specs.declared.checking.DomainPart.{DomainPart}
use Rattle.hd_check.specs.declared.checking.Ends.{Ends}
use Rattle.hd_check.specs.declared.checking.ProblemPart.{ProblemPart}
use Rattle.hd_check.specs.declared.checking.CheckedParts.{CheckedParts}
use Rattle.hd_check.specs.declared.checking.Declared.{Declared}
use Rattle.hd_check.specs.declared.fault.Source.{Source}
use Rattle.hd_check.specs.declared.fault.Source.TheVariants.{Domain, Problem}
use Rattle.hd_check.specs.declared.fault.CheckFault.{CheckFault}
use Rattle.hd_check.specs.declared.fault.CheckFault.TheVariants.{OfName, DomainMismatch}
use Rattle.hd_check.specs.declared.fault.CheckStop.{CheckStop}
use Rattle.hd_names.specs.declared.fault.NameFault.{NameFault}
use Rattle.hd_names.specs.declared.fault.NameStop.{NameStop}
use Rattle.hd_check.specs.declared.fault.CheckError.{CheckError}
use Rattle.hd_check.specs.declared.fault.CheckError.TheVariants.{In, NoMemory}
use Rattle.hd_names.specs.declared.scope.Scope.{Scope}
use Rattle.hd_base.specs.Answers.{Checks}
use Rattle.hd_base.specs.Options.{◌or◌}
use Rattle.hd_check.specs.Fault.{TellsOf, name_fault, metric_use_fault, of_names, error_in}
use Rattle.hd_names.specs.Names.{type_number, types_of, declared_fault}
use Rattle.hd_names.specs.Scope.{type_names, types_fault, parents_of, TellsCycle, scope_fault, scope_of, with_objects}
use Rattle.hd_check.specs.Schemas.{actions_fault, lifted_schema}
use Rattle.hd_check.specs.Conditions.{condition_fault, lifted_condition}
use Rattle.hd_check.specs.Initial.{no_parameters, initial_fault, lifted_initial}
use Rattle.hd_metric.specs.Metric.{misused_in_domain, misused_in_problem}
use Rattle.hd_check.specs.MetricName.{metric_name_fault}

-- ---- what they stand for

-- an object of this name and type
abbrev pub lifted_object : List (List ℕ) → Typed → Object
lifted_object types t = record { name = t.name.name; of = type_number types t.of }

-- a predicate or a function with the types of its parameters
abbrev pub lifted_signature : List (List ℕ) → Signature → lifted.Signature
lifted_signature types s = record { name = s.name.name; parameters = types_of types s.parameters }

-- objects, and predicates or functions
abbrev pub lifted_objects : List (List ℕ) → List Typed → List Object
lifted_objects types ts = map (lifted_object types) ts

-- predicates or functions, each with the types of its parameters
abbrev pub lifted_signatures : List (List ℕ) → List Signature → List lifted.Signature
lifted_signatures types ss = map (lifted_signature types) ss

-- what a domain's actions stand for in this scope
unfoldable pub domain_in : Scope → DomainAst → DomainPart
domain_in s d = record { scope = s; schemas = map (lifted_schema s) d.actions }

-- what a domain's part stands for, whose types have these names and parents
unfoldable pub lifted_domain : List (List ℕ) → List ℕ → DomainAst → Option NameAt → DomainPart
lifted_domain types parents d metric = domain_in (scope_of types parents d metric) d

-- what a problem's goal, its initial state and its goal, and its part stand for in this scope,
-- which has its objects
abbrev pub goal_in : Scope → ProblemAst → Condition
goal_in s p = lifted_condition s no_parameters p.goal

-- the initial state and the goal of a problem, with names resolved in this scope
abbrev pub ends_in : Scope → ProblemAst → Ends
ends_in s p = record { initial = lifted_initial s p.init; goal = goal_in s p }

-- a problem's scope, which has its objects, with its initial state and its goal
unfoldable pub problem_in : Scope → ProblemAst → ProblemPart
problem_in s p = record { scope = s; ends = ends_in s p }

-- what a problem's part stands for, by the scope of its domain
unfoldable pub lifted_problem : Scope → ProblemAst → ProblemPart
lifted_problem s p = problem_in (with_objects s p.objects) p

-- what a domain's actions and a problem's part stand for, where the domain's part stands for this
abbrev pub parts_in : DomainPart → ProblemAst → CheckedParts
parts_in first p = record { schemas = first.schemas; problem = lifted_problem first.scope p }

-- the constants and the objects
abbrev pub all_objects : List (List ℕ) → DomainAst → ProblemAst → List Object
all_objects types d p = lifted_objects types d.constants ++ lifted_objects types p.objects

-- what both texts declare, the types and actions aside
abbrev pub declared_in : List (List ℕ) → DomainAst → ProblemAst → Declared
declared_in types d p = record {
  objects = all_objects types d p;
  predicates = lifted_signatures types d.predicates;
  functions = lifted_signatures types d.functions;
}

-- the lifted task that has these parts
abbrev pub task_by : List Schema → ProblemPart → Declared → LiftedTask
task_by schemas part declared = record {
  hierarchy = part.scope.hierarchy;
  objects = declared.objects;
  predicates = declared.predicates;
  functions = declared.functions;
  schemas = schemas;
  atoms = part.ends.initial.atoms;
  values = part.ends.initial.values;
  goal = part.ends.goal;
  metric = part.scope.metric;
}

-- the lifted task whose parts stand for these
unfoldable pub task_with : DomainAst → ProblemAst → List Schema → ProblemPart → LiftedTask
task_with d p schemas part = task_by schemas part (declared_in part.scope.types d p)

-- the lifted task of these parts
abbrev pub task_of : DomainAst → ProblemAst → CheckedParts → LiftedTask
task_of d p parts = task_with d p parts.schemas parts.problem

-- the lifted task of a problem whose domain's part stands for this
unfoldable pub task_behind : DomainPart → DomainAst → ProblemAst → LiftedTask
task_behind part d p = task_with d p part.schemas (lifted_problem part.scope p)

-- the lifted task of a domain and a problem whose types have these names and parents
unfoldable pub task_below : List (List ℕ) → List ℕ → DomainAst → ProblemAst → LiftedTask
task_below types parents d p = task_behind (lifted_domain types parents d p.metric) d p

-- the lifted task of a domain and a problem: what each name stands for, by its number
abbrev pub lifted_task : DomainAst → ProblemAst → LiftedTask
lifted_task d p = task_below (type_names d.types) (parents_of d.types) d p

-- ---- the faults, in their order

-- a fault of this text
abbrev pub in_text : Source → Option CheckFault → Option CheckError
in_text source None = None
in_text source (Some f) = Some (In source f)

-- the problem has to name its domain
abbrev pub mismatch : DomainAst → ProblemAst → Option CheckFault
mismatch d p = if bytes_eq p.domain.name d.name.name then None else Some (DomainMismatch p.domain.at)

-- the first fault of the names of the types that are listed
abbrev pub listed_fault : List Typed → Option CheckFault
listed_fault ts = name_fault (types_fault (codes "object" ∷ []) ts)

-- the first fault that comes before the cycles of types: the domain's name, and the names of types
unfoldable pub fault_before_cycles : DomainAst → ProblemAst → Option CheckError
fault_before_cycles d p = in_text Problem (mismatch d p) or in_text Domain (listed_fault d.types)

-- the first fault of a problem's goal and of its metric's name in this scope, which has the
-- problem's objects
abbrev pub goal_fault : Scope → ProblemAst → Option CheckFault
goal_fault s p = condition_fault s no_parameters p.goal or metric_name_fault s.functions p.metric

-- the first fault of a problem in this scope, which has its objects
unfoldable pub fault_in_problem : Scope → ProblemAst → Option CheckFault
fault_in_problem s p = initial_fault s [] p.init or goal_fault s p

-- the first fault of a problem, up to the metric's name, by the scope of its domain
unfoldable pub problem_fault : Scope → ProblemAst → Option CheckFault
problem_fault s p =
    name_fault (declared_fault kinds.Name s.types s.objects.names p.objects) or fault_in_problem (with_objects s p.objects) p

-- the first misuse of the metric's function
unfoldable pub metric_fault : DomainAst → ProblemAst → Option CheckError
metric_fault d p =
    in_text Domain (metric_use_fault (misused_in_domain p.metric d))
    or in_text Problem (metric_use_fault (misused_in_problem p.metric p))

-- the first fault that comes after the cycles of types, which have these names and parents: of the
-- domain's names, of its actions, of the problem, and of the metric
unfoldable pub fault_below : List (List ℕ) → List ℕ → DomainAst → ProblemAst → Option CheckError
fault_below types parents d p =
    in_text Domain (name_fault (scope_fault types d))
    or in_text Domain (actions_fault (scope_of types parents d p.metric) [] d.actions)
    or in_text Problem (problem_fault (scope_of types parents d p.metric) p)
    or metric_fault d p

-- the first fault that comes after the cycles of types
abbrev pub fault_behind_cycles : DomainAst → ProblemAst → Option CheckError
fault_behind_cycles d p = fault_below (type_names d.types) (parents_of d.types) d p

-- a fault stands in the texts, at the place that is reported: it is the first, but for the cycles
-- of types, of which any may be told
pub data StandsInTexts (d : DomainAst) (p : ProblemAst) : CheckError → Type 0 where
  before_cycles : (e : CheckError) → fault_before_cycles d p ≡ Some e → StandsInTexts d p e
  on_cycle : (f : NameFault) → fault_before_cycles d p ≡ None → TellsCycle d.types f → StandsInTexts d p (In Domain (OfName f))
  behind_cycles :
      (e : CheckError) → fault_before_cycles d p ≡ None → IsAcyclic (parents_of d.types) → fault_behind_cycles d p ≡ Some e
      → StandsInTexts d p e

-- no fault stands in the texts
pub record AreFaultlessTexts (d : DomainAst) (p : ProblemAst) : Type 0 where
  pub before_cycles : fault_before_cycles d p ≡ None
  pub acyclic : IsAcyclic (parents_of d.types)
  pub behind_cycles : fault_behind_cycles d p ≡ None

-- the task is that of a domain and a problem in which no fault stands
pub record IsOfTexts (task : LiftedTask) : Type 0 where
  pub domain : DomainAst
  pub problem : ProblemAst
  pub faultless : AreFaultlessTexts domain problem
  pub stands : task ≡ lifted_task domain problem

-- no error reports of a fault in the texts
abbrev pub HasNoFault : DomainAst → ProblemAst → Type 0
HasNoFault d p = (e : CheckError) → StandsInTexts d p e → ⊥

-- it holds of the task of each domain and problem without a fault
abbrev pub HoldsOfFaultless : (LiftedTask → Type 0) → Type 0
HoldsOfFaultless P = (d : DomainAst) (p : ProblemAst) → AreFaultlessTexts d p → P (lifted_task d p)

-- ---- what a check answers

-- the names of the types, or the first fault of them
abbrev pub ChecksNames : Result (List (List ℕ)) CheckError → List Typed → Type 0
ChecksNames result ts = Checks TellsOf result (in_text Domain (listed_fault ts)) (type_names ts)

-- an error reports a type on a cycle; lack of memory says nothing
pub data TellsCycleIn (ts : List Typed) : CheckError → Type 0 where
  cycle : (f : NameFault) → TellsCycle ts f → TellsCycleIn ts (In Domain (OfName f))
  no_memory : TellsCycleIn ts NoMemory

-- the hierarchy of the types, or a type on a cycle
abbrev pub ClimbsIn : Result (List ℕ) CheckError → List Typed → Type 0
ClimbsIn (Ok h) ts = (h ≡ parents_of ts) × IsAcyclic (parents_of ts)
ClimbsIn (Err e) ts = TellsCycleIn ts e

-- these are the types that are listed, and no fault is in them
pub record AreListedTypes (types : TypesPart) (ts : List Typed) : Type 0 where
  pub faultless : in_text Domain (listed_fault ts) ≡ None
  pub names : types.names ≡ type_names ts
  pub hierarchy : types.hierarchy ≡ parents_of ts
  pub acyclic : IsAcyclic (parents_of ts)

-- an error reports the first fault of the types' names, or if there is none a type on a cycle;
-- lack of memory says nothing
pub data TellsTypes (ts : List Typed) : CheckError → Type 0 where
  by_name : (e : CheckError) → TellsOf e (in_text Domain (listed_fault ts)) → TellsTypes ts e
  by_cycle : (e : CheckError) → in_text Domain (listed_fault ts) ≡ None → TellsCycleIn ts e → TellsTypes ts e

-- the types that are listed, or a fault of them
abbrev pub ChecksListedTypes : Result TypesPart CheckError → List Typed → Type 0
ChecksListedTypes (Ok types) ts = AreListedTypes types ts
ChecksListedTypes (Err e) ts = TellsTypes ts e

-- what names stand for in a domain of these types
abbrev pub ChecksDomainScope : Result Scope CheckError → TypesPart → DomainAst → Option NameAt → Type 0
ChecksDomainScope result types d metric =
    Checks TellsOf result (in_text Domain (name_fault (scope_fault types.names d))) (scope_of types.names types.hierarchy d metric)

-- what a domain's actions stand for in this scope
abbrev pub ChecksActions : Result DomainPart CheckError → Scope → DomainAst → Type 0
ChecksActions result s d = Checks TellsOf result (in_text Domain (actions_fault s [] d.actions)) (domain_in s d)

-- what a problem's part stands for, where the domain's part stands for this
abbrev pub ChecksProblem : Result CheckedParts CheckError → DomainPart → ProblemAst → Type 0
ChecksProblem result first p = Checks TellsOf result (in_text Problem (problem_fault first.scope p)) (parts_in first p)

-- the lifted task of these parts, where the metric's function is not misused
abbrev pub ChecksUses : Result LiftedTask CheckError → CheckedParts → DomainAst → ProblemAst → Type 0
ChecksUses result parts d p = Checks TellsOf result (metric_fault d p) (task_of d p parts)

-- what a part answers, told of its text
abbrev pub of_text : {R : Type 0} → Source → Result R CheckStop → Result R CheckError
of_text source (Ok r) = Ok r
of_text source (Err stop) = Err (error_in source stop)

-- so of what names of a text stand for
abbrev pub names_in : {R : Type 0} → Source → Result R NameStop → Result R CheckError
names_in source (Ok r) = Ok r
names_in source (Err stop) = Err (error_in source (of_names stop))

-- the lifted task where no fault stands, else a fault that does; lack of memory says nothing
abbrev pub Answers : DomainAst → ProblemAst → Result LiftedTask CheckError → Type 0
Answers d p (Ok task) = AreFaultlessTexts d p × (task ≡ lifted_task d p)
Answers d p (Err (In source fault)) = StandsInTexts d p (In source fault)
Answers d p (Err NoMemory) = Unit {0}
