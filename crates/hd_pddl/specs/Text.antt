-- Which texts are domains and problems (own).
use Rattle.std.specs.Prelude.{ℕ, List}
use Rattle.hd_forms.specs.Text.{IsTextOf}
use Rattle.hd_pddl.specs.declared.tree.DomainAst.{DomainAst}
use Rattle.hd_pddl.specs.declared.tree.ProblemAst.{ProblemAst}
use Rattle.hd_pddl.specs.Domain.{IsDomain}
use Rattle.hd_pddl.specs.Problem.{IsProblem}

-- the text is this domain (own)
abbrev pub IsDomainText : List ℕ → DomainAst → Type 0
IsDomainText = IsTextOf IsDomain

-- the text is this problem (own)
abbrev pub IsProblemText : List ℕ → ProblemAst → Type 0
IsProblemText = IsTextOf IsProblem
