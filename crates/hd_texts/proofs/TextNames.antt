-- The names of what two texts declare are names of texts, in lower case.
use Rattle.std.proofs.Common.{◌≡◌, ℕ, List, [], ◌∷◌, map, Some, None, Option, slice_get, refl, sym, subst}
use Rattle.std.specs.List.{AllByRecursion}
use Rattle.hd_base.proofs.Lists.{AllByRecursion-append, AllByRecursion-slice_get}
use Rattle.hd_forms.specs.declared.names.NameAt.{NameAt}
use Rattle.hd_forms.specs.declared.word.FormWord.{FormWord}
use Rattle.hd_forms.specs.Forms.{Forms}
use Rattle.hd_forms.specs.Reading.{placed_name}
use Rattle.hd_forms.specs.Text.{IsTextOf}
use Rattle.hd_terms.specs.declared.tree.Typed.{Typed}
use Rattle.hd_terms.specs.declared.typed.ItemKind.{ItemKind}
use Rattle.hd_terms.specs.declared.typed.ItemKind.TheVariants as kinds
use Rattle.hd_terms.specs.Typed as typed
use Rattle.hd_terms.specs.Typed.{IsItem, AreItems, AreTyped, with_type}
use Rattle.hd_pddl.specs.declared.tree.Action.{Action}
use Rattle.hd_pddl.specs.declared.tree.DomainAst.{DomainAst}
use Rattle.hd_pddl.specs.declared.tree.ProblemAst.{ProblemAst}
use Rattle.hd_pddl.specs.Sections as sections
use Rattle.hd_pddl.specs.Sections.{IsSection, HasItems, SkipsRequirements, IsDefinition}
use Rattle.hd_pddl.specs.Domain as domains
use Rattle.hd_pddl.specs.Domain.{IsAction, AreActions, IsDomain}
use Rattle.hd_pddl.specs.Problem as problems
use Rattle.hd_pddl.specs.Problem.{HasDomainName, IsProblem}
use Rattle.hd_lifted.specs.declared.schema.Schema.{Schema}
use Rattle.hd_lifted.specs.declared.task.LiftedTask.{LiftedTask}
use Rattle.hd_lifted.specs.declared.task.Object.{Object}
use Rattle.hd_names.specs.declared.scope.Scope.{Scope}
use Rattle.hd_names.specs.Scope.{type_names, parents_of, scope_of}
use Rattle.hd_check.specs.Schemas.{lifted_schema, schema_with}
use Rattle.hd_check.specs.Whole.{lifted_object, lifted_objects, all_objects, lifted_domain, domain_in, lifted_problem, task_with, task_behind, task_below, lifted_task}
use Rattle.hd_texts.specs.Tasks.{IsLiftedOf}
use Rattle.hd_plan.specs.Text.{IsLowerName}
use Rattle.hd_texts.specs.Printing.{HasTextNames}
use Rattle.hd_texts.proofs.LowerForms.{IsLowerSymbol, AreLower, forms-lower}

-- ---- lists with types

abbrev IsLowerPlaced : NameAt → Type 0
IsLowerPlaced n = IsLowerName n.name

abbrev IsLowerTyped : Typed → Type 0
IsLowerTyped t = IsLowerName t.name.name

item-lower : {k : ItemKind} {w : FormWord} {n : List ℕ} → k ≡ kinds.Name → IsItem k w n → IsLowerSymbol w → IsLowerName n
item-lower is typed.name lower = lower
item-lower is typed.variable lower = absurd (cc)

items-lower : {k : ItemKind} {f more : Forms} {ns : List NameAt} → k ≡ kinds.Name → AreItems k f ns more → AreLower f
    → AllByRecursion IsLowerPlaced ns × AreLower more
items-lower is typed.end lower = (tt, lower)
items-lower is (typed.one item rest) lower =
    let k = items-lower is rest lower.1 in
    ((item-lower is item lower.0, k.0), k.1)

with_type-lower : (of : Option NameAt) (ns : List NameAt) → AllByRecursion IsLowerPlaced ns → AllByRecursion IsLowerTyped (with_type of ns)
with_type-lower of [] all = tt
with_type-lower of (n ∷ ns) all = (all.0, with_type-lower of ns all.1)

typed-lower : {k : ItemKind} {f : Forms} {ts : List Typed} → k ≡ kinds.Name → AreTyped k f ts → AreLower f → AllByRecursion IsLowerTyped ts
typed-lower is (typed.last {ns = ns} items) lower = with_type-lower None ns (items-lower is items lower).0
typed-lower is (typed.group {b = b} {t = t} {n = n} {ns = ns} {ts = ts} items rest) lower =
    let k = items-lower is items lower in
    let group = with_type (Some (placed_name t b)) (n ∷ ns) in
    AllByRecursion-append IsLowerTyped group ts (with_type-lower (Some (placed_name t b)) (n ∷ ns) k.0) (typed-lower is rest k.1.1.1)

-- ---- sections

section-lower : {k : List ℕ} {f inside more : Forms} → IsSection k f inside more → AreLower f → AreLower inside × AreLower more
section-lower sections.section lower = (lower.0.1, lower.1)

names-lower : {k : List ℕ} {f more : Forms} {ts : List Typed} → HasItems (AreTyped kinds.Name) k f ts more → AreLower f
    → AllByRecursion IsLowerTyped ts × AreLower more
names-lower sections.absent lower = (tt, lower)
names-lower (sections.present section items) lower =
    let k = section-lower section lower in
    (typed-lower refl items k.0, k.1)

behind_items : {A : Type 0} {Are : Forms → List A → Type 0} {k : List ℕ} {f more : Forms} {xs : List A} → HasItems Are k f xs more → AreLower f
    → AreLower more
behind_items sections.absent lower = lower
behind_items (sections.present section items) lower = (section-lower section lower).1

behind_requirements : {f more : Forms} → SkipsRequirements f more → AreLower f → AreLower more
behind_requirements sections.absent lower = lower
behind_requirements (sections.present section are) lower = (section-lower section lower).1

in_definition : {kind : List ℕ} {f inside : Forms} {n : NameAt} → IsDefinition kind f n inside → AreLower f → AreLower inside
in_definition sections.define lower = lower.0.1.1

-- ---- domains and problems

abbrev IsLowerAction : Action → Type 0
IsLowerAction a = IsLowerName a.name.name

action-lower : {f : Forms} {a : Action} → IsAction f a → AreLower f → IsLowerAction a
action-lower (domains.action vs ps es) lower = lower.1.0

actions-lower : {f : Forms} {as' : List Action} → AreActions f as' → AreLower f → AllByRecursion IsLowerAction as'
actions-lower domains.end lower = tt
actions-lower (domains.one a rest) lower = (action-lower a lower.0, actions-lower rest lower.1)

record HasLowerNames (d : DomainAst) : Type 0 where
  constants : AllByRecursion IsLowerTyped d.constants
  actions : AllByRecursion IsLowerAction d.actions

domain-lower : {f : Forms} {d : DomainAst} → IsDomain f d → AreLower f → HasLowerNames d
domain-lower (domains.domain head skipped ts cs ps fs acts) lower =
    let types = names-lower ts (behind_requirements skipped (in_definition head lower)) in
    let constants = names-lower cs types.1 in
    record {
      constants = constants.0;
      actions = actions-lower acts (behind_items fs (behind_items ps constants.1));
    }

behind_domain_name : {f more : Forms} {n : NameAt} → HasDomainName f n more → AreLower f → AreLower more
behind_domain_name (problems.domain section) lower = (section-lower section lower).1

problem-lower : {f : Forms} {p : ProblemAst} → IsProblem f p → AreLower f → AllByRecursion IsLowerTyped p.objects
problem-lower (problems.problem head named skipped os is goal metric) lower =
    (names-lower os (behind_requirements skipped (behind_domain_name named (in_definition head lower)))).0

-- ---- the lifted task

abbrev IsLowerSchema : Schema → Type 0
IsLowerSchema a = IsLowerName a.name

abbrev IsLowerObject : Object → Type 0
IsLowerObject o = IsLowerName o.name

schemas-lower : (s : Scope) (as' : List Action) → AllByRecursion IsLowerAction as' → AllByRecursion IsLowerSchema (map (lifted_schema s) as')
unfolding lifted_schema schema_with
schemas-lower s [] all = tt
schemas-lower s (a ∷ as') all = (all.0, schemas-lower s as' all.1)

objects-lower : (types : List (List ℕ)) (ts : List Typed) → AllByRecursion IsLowerTyped ts → AllByRecursion IsLowerObject (lifted_objects types ts)
objects-lower types [] all = tt
objects-lower types (t ∷ ts) all = (all.0, objects-lower types ts all.1)

names_in : (l : LiftedTask) (s : Scope) (types : List (List ℕ)) (d : DomainAst) (p : ProblemAst) → HasLowerNames d
    → AllByRecursion IsLowerTyped p.objects → l.schemas ≡ map (lifted_schema s) d.actions → l.objects ≡ all_objects types d p → HasTextNames l
names_in l s types d p lower objects schemas_are objects_are = record {
  schemas = λ n a. AllByRecursion-slice_get IsLowerSchema l.schemas n a
      (subst (AllByRecursion IsLowerSchema) (sym schemas_are) (schemas-lower s d.actions lower.actions));
  objects = λ n o. AllByRecursion-slice_get IsLowerObject l.objects n o
      (subst (AllByRecursion IsLowerObject) (sym objects_are)
      (AllByRecursion-append IsLowerObject (lifted_objects types d.constants) (lifted_objects types p.objects)
      (objects-lower types d.constants lower.constants) (objects-lower types p.objects objects)));
}

lifted_names : (d : DomainAst) (p : ProblemAst) → HasLowerNames d → AllByRecursion IsLowerTyped p.objects → HasTextNames (lifted_task d p)
unfolding lifted_domain domain_in task_with task_behind task_below
lifted_names d p lower objects =
    let s = scope_of (type_names d.types) (parents_of d.types) d p.metric in
    names_in (lifted_task d p) s (lifted_problem s p).scope.types d p lower objects refl refl

tree-lower : {Tree : Type 0} {Says : Forms → Tree → Type 0} (text : List ℕ) (tree : Tree) (is : IsTextOf Says text tree) → AreLower is.forms
tree-lower text tree is = forms-lower text is.forms is.written.marks

pub text_names : (domain problem : List ℕ) (l : LiftedTask) → IsLiftedOf domain problem l → HasTextNames l
text_names domain problem l is =
    let d = is.domain_tree in
    let p = is.problem_tree in
    subst HasTextNames (sym is.stands)
    (lifted_names d p
    (domain-lower is.says.domain_says.says (tree-lower domain d is.says.domain_says))
    (problem-lower is.says.problem_says.says (tree-lower problem p is.says.problem_says)))
