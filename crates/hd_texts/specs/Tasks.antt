-- The task that two texts say. (Our own.)
use Rattle.std.specs.Prelude.{◌≡◌, ℕ, List}
use Rattle.hd_task.specs.declared.task.Task.{Task}
use Rattle.hd_forms.specs.declared.error.ReadError.{ReadError}
use Rattle.hd_forms.specs.Text as reader
use Rattle.hd_pddl.specs.Text.{IsDomainText, IsProblemText}
use Rattle.hd_pddl.specs.Domain.{IsDomain}
use Rattle.hd_pddl.specs.Problem.{IsProblem}
use Rattle.hd_pddl.specs.declared.tree.DomainAst.{DomainAst}
use Rattle.hd_pddl.specs.declared.tree.ProblemAst.{ProblemAst}
use Rattle.hd_check.specs.declared.fault.Source.{Source}
use Rattle.hd_check.specs.declared.fault.Source.TheVariants.{Domain, Problem}
use Rattle.hd_check.specs.declared.fault.CheckFault as checker
use Rattle.hd_check.specs.declared.fault.CheckError.TheVariants.{In}
use Rattle.hd_check.specs.Whole.{AreFaultlessTexts, lifted_task, StandsInTexts}
use Rattle.hd_lifted.specs.declared.task.LiftedTask.{LiftedTask}
use Rattle.hd_grounding.specs.Grounding.{IsGrounding}
use Rattle.hd_ground.specs.declared.error.GroundError.{GroundError}
use Rattle.hd_ground.specs.Telling.{Tells}
use Rattle.hd_texts.specs.declared.fault.TaskFault.{TaskFault}
use Rattle.hd_texts.specs.declared.fault.TaskFault.TheVariants.{Check, NoMemory}
use Rattle.hd_texts.specs.Fault.{read_in, grounded_in}

-- two texts say these trees
pub record SayTrees (domain problem : List ℕ) (d : DomainAst) (p : ProblemAst) : Type 0 where
  pub domain_says : IsDomainText domain d
  pub problem_says : IsProblemText problem p

-- a lifted task is what two texts say: they are read, no fault stands in them, and this is what
-- they stand for
pub record IsLiftedOf (domain problem : List ℕ) (l : LiftedTask) : Type 0 where
  pub domain_tree : DomainAst
  pub problem_tree : ProblemAst
  pub says : SayTrees domain problem domain_tree problem_tree
  pub faultless : AreFaultlessTexts domain_tree problem_tree
  pub stands : l ≡ lifted_task domain_tree problem_tree

-- a task is what two texts say: the grounding of the lifted task that they say
pub record IsTaskOf (domain problem : List ℕ) (t : Task) : Type 0 where
  pub lifted : LiftedTask
  pub says : IsLiftedOf domain problem lifted
  pub made : IsGrounding lifted t

-- what a fault reports of two texts that say no lifted task: lack of memory reports nothing
pub data ExplainsTexts (domain problem : List ℕ) : TaskFault → Type 0 where
  Memory : ExplainsTexts domain problem NoMemory
  -- the domain's text is at fault
  InDomain : (error : ReadError) → reader.Explains IsDomain domain error → ExplainsTexts domain problem (read_in Domain error)
  -- the domain's text is read, and the problem's is at fault
  InProblem : (d : DomainAst) (error : ReadError)
      → IsDomainText domain d → reader.Explains IsProblem problem error → ExplainsTexts domain problem (read_in Problem error)
  -- both are read, and this fault of names, types or the metric stands in them
  AtFault : (d : DomainAst) (p : ProblemAst) (source : Source) (fault : checker.CheckFault)
      → SayTrees domain problem d p → StandsInTexts d p (In source fault) → ExplainsTexts domain problem (Check source fault)

-- what a fault reports of two texts that say no task
pub data ExplainsTask (domain problem : List ℕ) : TaskFault → Type 0 where
  -- they say no lifted task
  Unlifted : (f : TaskFault) → ExplainsTexts domain problem f → ExplainsTask domain problem f
  -- no fault stands in them, and the grounder reports so of the lifted task
  Ungrounded : (l : LiftedTask) (error : GroundError)
      → IsLiftedOf domain problem l → Tells l error → ExplainsTask domain problem (grounded_in error)
