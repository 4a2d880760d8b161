-- What the private functions of this crate give, as functions (all own).
-- Public contracts cite the grammar and `Text` in their place.
use Rattle.std.specs.Prelude.{ℕ, List, [], ◌∷◌, ◌++◌, Option, Some, None, Bool, true, false, ◌&&◌, codes, if◌then◌else◌}
use Rattle.std.specs.Str.{bytes_eq}
use Rattle.hd_forms.specs.declared.names.NameAt.{NameAt}
use Rattle.hd_forms.specs.declared.word.FormWord.TheVariants.{Not, Operator}
use Rattle.hd_forms.specs.Forms.{Forms, none, word, list}
use Rattle.hd_base.specs.Options.{◌>>=◌}
use Rattle.hd_forms.specs.Reading.{name_in, keyword_in, name_at, number_at, group_at, end_at, forms_behind_name, forms_behind_keyword}
use Rattle.hd_terms.specs.declared.tree.Condition.{Condition}
use Rattle.hd_terms.specs.declared.tree.Effect.{Effect}
use Rattle.hd_terms.specs.declared.tree.Typed.{Typed}
use Rattle.hd_terms.specs.declared.typed.ItemKind.TheVariants as kinds
use Rattle.hd_terms.specs.Reading.{is_minus_term, is_equal, typed_after, atom_of, negated_atom_of, condition_at, effect_at}
use Rattle.hd_pddl.specs.declared.tree.Action.{Action}
use Rattle.hd_pddl.specs.declared.tree.DomainAst.{DomainAst}
use Rattle.hd_pddl.specs.declared.tree.Init.{Init}
use Rattle.hd_pddl.specs.declared.tree.Init.TheVariants as inits
use Rattle.hd_pddl.specs.declared.tree.ProblemAst.{ProblemAst}
use Rattle.hd_pddl.specs.declared.tree.Signature.{Signature}
use Rattle.hd_pddl.specs.Sections.{is_requirement}
use Rattle.hd_pddl.specs.Domain.{made_signature, made_action, made_domain}
use Rattle.hd_pddl.specs.Problem.{initial_value, made_problem}

-- ---- definitions and sections

-- define ( KIND NAME ), and what follows
unfoldable pub head_at : List ℕ → Forms → Option (NameAt × Forms)
head_at kind forms = do
  inside ← forms_behind_name (codes "define") forms
  title ← group_at inside
  named_at ← forms_behind_name kind title.0
  n ← name_at named_at
  _ ← end_at n.1
  Some (n.0, title.1)

-- what stands after a keyword in a form, and what follows
unfoldable pub section_at : List ℕ → Forms → Option (Forms × Forms)
section_at text forms = do
  g ← group_at forms
  inside ← forms_behind_keyword text g.0
  Some (inside, g.1)

-- the items of a section, if there is one, and what follows
abbrev pub items_or : {A : Type 0} → (Forms → Option (List A)) → Option (Forms × Forms) → Forms → Option (List A × Forms)
items_or read (Some s) forms = read s.0 >>= λ xs. Some (xs, s.1)
items_or read None forms = Some ([], forms)

-- requirements, each one of the seven that may be named
unfoldable pub requirements_of : Forms → Option (Unit {0})
requirements_of none = Some tt
requirements_of (word at w rest) = keyword_in w >>= λ n. if is_requirement n then requirements_of rest else None
requirements_of (list a inside b rest) = None

-- what follows a list of requirements, if there is one
abbrev pub requirements_or : Option (Forms × Forms) → Forms → Option Forms
requirements_or (Some s) forms = requirements_of s.0 >>= λ _. Some s.1
requirements_or None forms = Some forms

-- what follows the section of requirements, or everything if there is no such section
unfoldable pub behind_requirements : Forms → Option Forms
behind_requirements forms = requirements_or (section_at (codes "requirements") forms) forms

-- names with types
unfoldable pub names_of : Forms → Option (List Typed)
names_of forms = typed_after kinds.Name forms [] []

-- the names of a section, if there is one, and what follows
unfoldable pub names_at : List ℕ → Forms → Option (List Typed × Forms)
names_at text forms = items_or names_of (section_at text forms) forms

-- ---- predicates and functions

-- the name of a predicate or a function, and its parameters with types
unfoldable pub signature_of : Forms → Option Signature
signature_of inside = do
  n ← name_at inside
  ps ← typed_after kinds.Variable n.1 [] []
  Some (made_signature n.0 ps)

-- predicates or functions, one after the other: those found so far, and theirs
unfoldable pub signatures_after : Forms → List Signature → Option (List Signature)
signatures_after none found = Some found
signatures_after (word at w rest) found = None
signatures_after (list a inside b rest) found = signature_of inside >>= λ s. signatures_after rest (found ++ s ∷ [])

-- predicates or functions, one after the other, and nothing else
unfoldable pub signatures_of : Forms → Option (List Signature)
signatures_of forms = signatures_after forms []

-- the predicates, if there are any, and what follows
unfoldable pub predicates_at : Forms → Option (List Signature × Forms)
predicates_at forms = items_or signatures_of (section_at (codes "predicates") forms) forms

unfoldable mutual
  -- functions one after the other, where `- number` may stand first or not: those found so far, and
  -- theirs
  pub functions_after : Bool → Forms → List Signature → Option (List Signature)
  functions_after behind none found = Some found
  functions_after behind (word at w rest) found = if is_minus_term w && behind then numbers_after rest found else None
  functions_after behind (list a inside b rest) found =
      signature_of inside >>= λ s. functions_after true rest (found ++ s ∷ [])

  -- the same after `-`
  pub numbers_after : Forms → List Signature → Option (List Signature)
  numbers_after none found = None
  numbers_after (word at w rest) found =
      name_in w >>= λ n. if bytes_eq n (codes "number") then functions_after false rest found else None
  numbers_after (list a inside b rest) found = None

-- functions, one after the other; `- number` may follow each of them
unfoldable pub functions_of : Forms → Option (List Signature)
functions_of forms = functions_after false forms []

-- the functions, if there are any, and what follows
unfoldable pub functions_at : Forms → Option (List Signature × Forms)
functions_at forms = items_or functions_of (section_at (codes "functions") forms) forms

-- ---- actions

-- one condition if there is one
abbrev pub condition_or : Option Forms → Forms → Option (List Condition × Forms)
condition_or (Some rest) forms = condition_at rest
condition_or None forms = Some ([], forms)

-- the condition after `:precondition`, or the empty one if it is absent, and what follows
unfoldable pub precondition_at : Forms → Option (List Condition × Forms)
precondition_at forms = condition_or (forms_behind_keyword (codes "precondition") forms) forms

-- one effect if there is one
abbrev pub effect_or : Option Forms → Forms → Option (List Effect × Forms)
effect_or (Some rest) forms = effect_at rest
effect_or None forms = Some ([], forms)

-- the effect after `:effect`, or the empty one if it is absent, and what follows
unfoldable pub action_effect_at : Forms → Option (List Effect × Forms)
action_effect_at forms = effect_or (forms_behind_keyword (codes "effect") forms) forms

-- an action's name, its parameters, and what follows them
unfoldable pub action_head_at : Forms → Option (NameAt × List Typed × Forms)
action_head_at inside = do
  head ← forms_behind_keyword (codes "action") inside
  n ← name_at head
  parameters ← forms_behind_keyword (codes "parameters") n.1
  g ← group_at parameters
  vs ← typed_after kinds.Variable g.0 [] []
  Some (n.0, vs, g.1)

-- an action: its name, its parameters, and its precondition and effect, if they are there
unfoldable pub action_of : Forms → Option Action
action_of inside = do
  head ← action_head_at inside
  pre ← precondition_at head.2
  eff ← action_effect_at pre.1
  _ ← end_at eff.1
  Some (made_action head.0 head.1 pre.0 eff.0)

-- actions, one after the other: those found so far, and theirs
unfoldable pub actions_after : Forms → List Action → Option (List Action)
actions_after none found = Some found
actions_after (word at w rest) found = None
actions_after (list a inside b rest) found = action_of inside >>= λ t. actions_after rest (found ++ t ∷ [])

-- ---- domains

-- what stands in a domain
unfoldable pub domain_in : Forms → Option DomainAst
domain_in inside = do
  head ← head_at (codes "domain") inside
  sections ← behind_requirements head.1
  ts ← names_at (codes "types") sections
  cs ← names_at (codes "constants") ts.1
  ps ← predicates_at cs.1
  fs ← functions_at ps.1
  acts ← actions_after fs.1 []
  Some (made_domain head.0 ts.0 cs.0 ps.0 fs.0 acts)

-- a domain in parentheses, and nothing else
unfoldable pub domain_of : Forms → Option DomainAst
domain_of forms = do
  g ← group_at forms
  tree ← domain_in g.0
  _ ← end_at g.1
  Some tree

-- ---- problems

-- the name of a problem's domain, and what follows
unfoldable pub problem_domain_at : Forms → Option (NameAt × Forms)
problem_domain_at forms = do
  s ← section_at (codes "domain") forms
  n ← name_at s.0
  _ ← end_at n.1
  Some (n.0, s.1)

-- a fluent and its first value
unfoldable pub value_of : Forms → Option Init
value_of rest = do
  g ← group_at rest
  t ← atom_of g.0
  v ← number_at g.1
  _ ← end_at v.2
  Some (initial_value t v.0 v.1)

-- what stands in an initial fact
unfoldable pub initial_of : Forms → Option Init
initial_of (word at Not rest) = negated_atom_of rest >>= λ t. Some (inits.NotAtom t)
initial_of (word at (Operator o) rest) = if is_equal o then value_of rest else None
initial_of inside = atom_of inside >>= λ t. Some (inits.Atom t)

-- initial facts, one after the other: those found so far, and theirs
unfoldable pub initial_after : Forms → List Init → Option (List Init)
initial_after none found = Some found
initial_after (word at w rest) found = None
initial_after (list a inside b rest) found = initial_of inside >>= λ i. initial_after rest (found ++ i ∷ [])

-- the initial facts of a section `:init`, and what follows
unfoldable pub init_at : Forms → Option (List Init × Forms)
init_at forms = do
  s ← section_at (codes "init") forms
  is ← initial_after s.0 []
  Some (is, s.1)

-- the condition of a section `:goal`, and what follows
unfoldable pub goal_at : Forms → Option (List Condition × Forms)
goal_at forms = do
  s ← section_at (codes "goal") forms
  c ← condition_at s.0
  _ ← end_at c.1
  Some (c.0, s.1)

-- what stands in a metric
unfoldable pub metric_in : Forms → Option NameAt
metric_in inside = do
  words ← forms_behind_keyword (codes "metric") inside
  rest ← forms_behind_name (codes "minimize") words
  g ← group_at rest
  n ← name_at g.0
  _ ← end_at n.1
  _ ← end_at g.1
  Some n.0

-- the metric, if there is one, alone
unfoldable pub metric_of : Forms → Option (Option NameAt)
metric_of none = Some None
metric_of (word at w rest) = None
metric_of (list a inside b rest) = do
  n ← metric_in inside
  _ ← end_at rest
  Some (Some n)

-- what stands in a problem
unfoldable pub problem_in : Forms → Option ProblemAst
problem_in inside = do
  head ← head_at (codes "problem") inside
  its ← problem_domain_at head.1
  later ← behind_requirements its.1
  os ← names_at (codes "objects") later
  is ← init_at os.1
  goal ← goal_at is.1
  m ← metric_of goal.1
  Some (made_problem head.0 its.0 os.0 is.0 goal.0 m)

-- a problem in parentheses, and nothing else
unfoldable pub problem_of : Forms → Option ProblemAst
problem_of forms = do
  g ← group_at forms
  tree ← problem_in g.0
  _ ← end_at g.1
  Some tree
