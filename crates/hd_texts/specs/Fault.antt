-- Why two texts have no task. (Our own.)
use Rattle.std.specs.Prelude.{ℕ, List, ◌++◌, codes}
use Rattle.hd_forms.specs.declared.error.ReadError.{ReadError}
use Rattle.hd_forms.specs.declared.error.ReadError.TheVariants as reading
use Rattle.hd_forms.specs.Error as reader
use Rattle.hd_check.specs.declared.fault.Source.{Source}
use Rattle.hd_check.specs.declared.fault.CheckError.{CheckError}
use Rattle.hd_check.specs.declared.fault.CheckError.TheVariants as checking
use Rattle.hd_check.specs.Fault as checker
use Rattle.hd_ground.specs.declared.error.GroundError.{GroundError}
use Rattle.hd_ground.specs.declared.error.GroundError.TheVariants as grounding
use Rattle.hd_ground.specs.Error as grounder
use Rattle.hd_texts.specs.declared.fault.TaskFault.{TaskFault}
use Rattle.hd_texts.specs.declared.fault.TaskFault.TheVariants.{Read, Check, Ground, NoMemory}

-- the printed form: which text, where it is of one, then the fault's own form
abbrev pub text_of : TaskFault → List ℕ
text_of (Read source error) = checker.source_text source ++ reader.text_of error
text_of (Check source fault) = checker.source_text source ++ checker.text_of fault
text_of (Ground error) = grounder.text_of error
text_of NoMemory = codes "NoMemory"

-- a reader's error in a text; lack of memory is in none
abbrev pub read_in : Source → ReadError → TaskFault
read_in source (reading.Lex fault) = Read source (reading.Lex fault)
read_in source (reading.Unbalanced at) = Read source (reading.Unbalanced at)
read_in source (reading.Unexpected at) = Read source (reading.Unexpected at)
read_in source (reading.Unsupported word at) = Read source (reading.Unsupported word at)
read_in source (reading.TooDeep at) = Read source (reading.TooDeep at)
read_in source reading.NoMemory = NoMemory

-- what a check reports
abbrev pub checked_in : CheckError → TaskFault
checked_in (checking.In source fault) = Check source fault
checked_in checking.NoMemory = NoMemory

-- why a lifted task has no task to search; lack of memory is no fault of it
abbrev pub grounded_in : GroundError → TaskFault
grounded_in grounding.TooMany = Ground grounding.TooMany
grounded_in (grounding.Undefined fluent) = Ground (grounding.Undefined fluent)
grounded_in (grounding.NegativeCost action) = Ground (grounding.NegativeCost action)
grounded_in grounding.NoMemory = NoMemory
