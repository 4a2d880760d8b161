-- The grammar of problems: what forms say, one case an alternative. "BNF" is the BNF of PDDL 2.1
-- (Fox and Long 2003, its appendix), without what is not read; "own" is a rule of this project.
use Rattle.std.specs.Prelude.{ℕ, ℤ, List, [], ◌∷◌, Option, Some, None, codes}
use Rattle.hd_lex.specs.declared.token.Operator.TheVariants.{Equal}
use Rattle.hd_forms.specs.declared.names.NameAt.{NameAt}
use Rattle.hd_forms.specs.declared.word.FormWord.TheVariants.{Not, Name, Operator, Number}
use Rattle.hd_forms.specs.Forms.{Forms, none, word, list}
use Rattle.hd_forms.specs.Reading.{placed_name}
use Rattle.hd_terms.specs.declared.tree.Atom.{Atom}
use Rattle.hd_terms.specs.declared.tree.Condition.{Condition}
use Rattle.hd_terms.specs.declared.tree.Typed.{Typed}
use Rattle.hd_terms.specs.declared.typed.ItemKind.TheVariants as kinds
use Rattle.hd_terms.specs.Atoms.{IsAtom}
use Rattle.hd_terms.specs.Typed.{AreTyped}
use Rattle.hd_terms.specs.Conditions.{AreConditions}
use Rattle.hd_pddl.specs.declared.tree.Init.{Init}
use Rattle.hd_pddl.specs.declared.tree.Init.TheVariants as inits
use Rattle.hd_pddl.specs.declared.tree.ProblemAst.{ProblemAst}
use Rattle.hd_pddl.specs.Sections.{IsSection, HasItems, SkipsRequirements, IsDefinition}

-- ( :domain NAME ), and more (BNF)
pub data HasDomainName : Forms → NameAt → Forms → Type 0 where
  domain : {f more : Forms} {at : ℕ} {n : List ℕ}
      → IsSection (codes "domain") f (word at (Name n) none) more
      → HasDomainName f (placed_name n at) more

-- a fluent's first value, whose number stands at this place
abbrev pub initial_value : Atom → ℤ → ℕ → Init
initial_value t v at = inits.Value (record { fluent = t; value = v; at = at })

-- what stands in an initial fact (BNF; that 'not' may stand there is own)
pub data IsInitial : Forms → Init → Type 0 where
  -- an atom
  atom : {inside : Forms} {t : Atom} → IsAtom inside t → IsInitial inside (inits.Atom t)
  -- not ( atom )
  not_atom : {a c d : ℕ} {inside : Forms} {t : Atom}
      → IsAtom inside t
      → IsInitial (word a Not (list c inside d none)) (inits.NotAtom t)
  -- = fluent NUMBER
  value : {a c d at : ℕ} {inside : Forms} {t : Atom} {v : ℤ}
      → IsAtom inside t
      → IsInitial (word a (Operator Equal) (list c inside d (word at (Number v) none))) (initial_value t v at)

-- ( initial fact )* (BNF)
pub data AreInitial : Forms → List Init → Type 0 where
  end : AreInitial none []
  one : {a b : ℕ} {inside rest : Forms} {i : Init} {is : List Init}
      → IsInitial inside i → AreInitial rest is
      → AreInitial (list a inside b rest) (i ∷ is)

-- ( :init ( initial fact )* ), and more (BNF)
pub data HasInit : Forms → List Init → Forms → Type 0 where
  init : {f inside more : Forms} {is : List Init}
      → IsSection (codes "init") f inside more → AreInitial inside is
      → HasInit f is more

-- ( :goal condition ), and more (BNF)
pub data HasGoal : Forms → List Condition → Forms → Type 0 where
  goal : {f inside more : Forms} {a b : ℕ} {cs : List Condition}
      → IsSection (codes "goal") f (list a inside b none) more
      → AreConditions (list a inside b none) cs
      → HasGoal f cs more

-- [ ( :metric minimize ( NAME ) ) ], alone (BNF, where any expression may be minimized or
-- maximized)
pub data IsMetric : Forms → Option NameAt → Type 0 where
  absent : IsMetric none None
  present : {f : Forms} {a b c at : ℕ} {n : List ℕ}
      → IsSection (codes "metric") f (word a (Name (codes "minimize")) (list b (word at (Name n) none) c none)) none
      → IsMetric f (Some (placed_name n at))

-- a problem of these parts
abbrev pub made_problem : NameAt → NameAt → List Typed → List Init → List Condition → Option NameAt → ProblemAst
made_problem n d os is cs m = record { name = n; domain = d; objects = os; init = is; goal = cs; metric = m }

-- ( define ( problem NAME ) ( :domain NAME ) [requirements] [objects] init goal [metric] ) (BNF)
pub data IsProblem : Forms → ProblemAst → Type 0 where
  problem : {forms sections f1 f2 f3 f4 last : Forms} {n d : NameAt} {os : List Typed} {is : List Init}
      {cs : List Condition} {m : Option NameAt}
      → IsDefinition (codes "problem") forms n sections
      → HasDomainName sections d f1
      → SkipsRequirements f1 f2
      → HasItems (AreTyped kinds.Name) (codes "objects") f2 os f3
      → HasInit f3 is f4
      → HasGoal f4 cs last
      → IsMetric last m
      → IsProblem forms (made_problem n d os is cs m)
