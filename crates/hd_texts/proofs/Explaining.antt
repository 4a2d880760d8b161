-- What faults tell of two texts.
use Rattle.std.proofs.Common.{ℕ, List, Err}
use Rattle.hd_pddl.specs.declared.tree.DomainAst.{DomainAst}
use Rattle.hd_pddl.specs.declared.tree.ProblemAst.{ProblemAst}
use Rattle.hd_check.specs.declared.fault.CheckError.{CheckError}
use Rattle.hd_check.specs.declared.fault.CheckError.TheVariants as checking
use Rattle.hd_check.specs.Whole as checker
use Rattle.hd_texts.specs.Fault.{checked_in}
use Rattle.hd_texts.specs.declared.fault.TaskFault.{TaskFault}
use Rattle.hd_texts.specs.Tasks.{SayTrees, ExplainsTexts, Memory, AtFault, ExplainsTask, Unlifted}

pub check_explained :
    (domain problem : List ℕ) (d : DomainAst) (p : ProblemAst) (e : CheckError)
    → SayTrees domain problem d p → checker.Answers d p (Err e) → ExplainsTexts domain problem (checked_in e)
check_explained domain problem d p (checking.In source fault) says told = AtFault d p source fault says told
check_explained domain problem d p checking.NoMemory says told = Memory

-- of texts that say no lifted task
pub unlifted : (domain problem : List ℕ) (f : TaskFault) → ExplainsTexts domain problem f → ExplainsTask domain problem f
unlifted domain problem f told = Unlifted f told
