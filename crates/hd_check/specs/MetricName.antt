-- The metric's name. (Our own.)
use Rattle.std.specs.Prelude.{ℕ, ◌==◌, if◌then◌else◌, List, length, Option, Some, None}
use Rattle.hd_forms.specs.declared.names.NameAt.{NameAt}
use Rattle.hd_terms.specs.declared.typed.ItemKind.TheVariants as kinds
use Rattle.hd_names.specs.declared.table.Table.{Table}
use Rattle.hd_check.specs.declared.fault.CheckFault.{CheckFault}
use Rattle.hd_check.specs.declared.fault.CheckFault.TheVariants.{WrongArity}
use Rattle.hd_base.specs.Options.{◌or◌}
use Rattle.hd_names.specs.Names.{unknown_in}
use Rattle.hd_check.specs.Fault.{name_fault}
use Rattle.hd_check.specs.Terms.{parameters_of}

-- the metric's function has to be declared, without parameters
abbrev pub metric_name_fault : Table (List ℕ) → Option NameAt → Option CheckFault
metric_name_fault functions None = None
metric_name_fault functions (Some m) =
    name_fault (unknown_in kinds.Name functions.names m)
    or (if length (parameters_of functions m) == 0 then None else Some (WrongArity m.name m.at))
