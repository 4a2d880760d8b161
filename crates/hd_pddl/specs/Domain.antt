-- The grammar of domains: what forms say, one case an alternative. "BNF" is the BNF of PDDL 2.1
-- (Fox and Long 2003, its appendix), without what is not read; "own" is a rule of this project.
use Rattle.std.specs.Prelude.{ℕ, List, [], ◌∷◌, codes}
use Rattle.hd_lex.specs.declared.token.Operator.TheVariants.{Minus}
use Rattle.hd_forms.specs.declared.names.NameAt.{NameAt}
use Rattle.hd_forms.specs.declared.word.FormWord.TheVariants.{Name, Keyword, Operator}
use Rattle.hd_forms.specs.Forms.{Forms, none, word, list}
use Rattle.hd_forms.specs.Reading.{placed_name}
use Rattle.hd_terms.specs.declared.tree.Condition.{Condition}
use Rattle.hd_terms.specs.declared.tree.Effect.{Effect}
use Rattle.hd_terms.specs.declared.tree.Typed.{Typed}
use Rattle.hd_terms.specs.declared.typed.ItemKind.TheVariants as kinds
use Rattle.hd_terms.specs.Typed.{AreTyped}
use Rattle.hd_terms.specs.Conditions.{AreConditions}
use Rattle.hd_terms.specs.Effects.{AreEffects}
use Rattle.hd_pddl.specs.declared.tree.Action.{Action}
use Rattle.hd_pddl.specs.declared.tree.DomainAst.{DomainAst}
use Rattle.hd_pddl.specs.declared.tree.Signature.{Signature}
use Rattle.hd_pddl.specs.Sections.{HasItems, HasPart, SkipsRequirements, IsDefinition}

-- a declared name with its parameters
abbrev pub made_signature : NameAt → List Typed → Signature
made_signature n ps = record { name = n; parameters = ps }

-- what stands in a signature: NAME variables (BNF)
pub data IsSignature : Forms → Signature → Type 0 where
  signature : {at : ℕ} {n : List ℕ} {rest : Forms} {ps : List Typed}
      → AreTyped kinds.Variable rest ps
      → IsSignature (word at (Name n) rest) (made_signature (placed_name n at) ps)

-- ( signature )* (BNF)
pub data AreSignatures : Forms → List Signature → Type 0 where
  end : AreSignatures none []
  one : {a b : ℕ} {inside rest : Forms} {s : Signature} {ss : List Signature}
      → IsSignature inside s → AreSignatures rest ss
      → AreSignatures (list a inside b rest) (s ∷ ss)

-- functions: ( signature ) [ - number ], any number of times (BNF; the type is that of PDDL 3.1)
pub data AreFunctions : Forms → List Signature → Type 0 where
  end : AreFunctions none []
  -- ( signature ), and more
  one : {a b : ℕ} {inside rest : Forms} {s : Signature} {ss : List Signature}
      → IsSignature inside s → AreFunctions rest ss
      → AreFunctions (list a inside b rest) (s ∷ ss)
  -- ( signature ) - number, and more
  numbers : {a b c d : ℕ} {inside rest : Forms} {s : Signature} {ss : List Signature}
      → IsSignature inside s → AreFunctions rest ss
      → AreFunctions (list a inside b (word c (Operator Minus) (word d (Name (codes "number")) rest))) (s ∷ ss)

-- an action of these parts
abbrev pub made_action : NameAt → List Typed → List Condition → List Effect → Action
made_action n vs ps es = record { name = n; parameters = vs; precondition = ps; effect = es }

-- what stands in an action: :action NAME :parameters ( variables ) [ :precondition condition ] [
-- :effect effect ] (BNF)
pub data IsAction : Forms → Action → Type 0 where
  action : {a at b c d : ℕ} {n : List ℕ} {parameters more last : Forms}
      {vs : List Typed} {ps : List Condition} {es : List Effect}
      → AreTyped kinds.Variable parameters vs
      → HasPart AreConditions (codes "precondition") more ps last
      → HasPart AreEffects (codes "effect") last es none
      → IsAction
      (word a (Keyword (codes "action"))
      (word at (Name n) (word b (Keyword (codes "parameters")) (list c parameters d more))))
      (made_action (placed_name n at) vs ps es)

-- ( action )* (BNF)
pub data AreActions : Forms → List Action → Type 0 where
  end : AreActions none []
  one : {a b : ℕ} {inside rest : Forms} {t : Action} {ts : List Action}
      → IsAction inside t → AreActions rest ts
      → AreActions (list a inside b rest) (t ∷ ts)

-- a domain of these parts
abbrev pub made_domain : NameAt → List Typed → List Typed → List Signature → List Signature → List Action → DomainAst
made_domain n ts cs ps fs as' =
    record { name = n; types = ts; constants = cs; predicates = ps; functions = fs; actions = as' }

-- ( define ( domain NAME ) [requirements] [types] [constants] [predicates] [functions] action* )
-- (BNF)
pub data IsDomain : Forms → DomainAst → Type 0 where
  domain : {forms sections f1 f2 f3 f4 actions : Forms} {n : NameAt} {ts cs : List Typed} {ps fs : List Signature}
      {as' : List Action}
      → IsDefinition (codes "domain") forms n sections
      → SkipsRequirements sections f1
      → HasItems (AreTyped kinds.Name) (codes "types") f1 ts f2
      → HasItems (AreTyped kinds.Name) (codes "constants") f2 cs f3
      → HasItems AreSignatures (codes "predicates") f3 ps f4
      → HasItems AreFunctions (codes "functions") f4 fs actions
      → AreActions actions as'
      → IsDomain forms (made_domain n ts cs ps fs as')
