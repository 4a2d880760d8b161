use Rattle.hd_lifted.proofs.Unchanged.{exec-unchanged}
use Rattle.hd_lifted.proofs.kept_laws.unchanged_lifted_functions_keep_their_values.Goals as goal

pub returns : goal.returns
returns c = exec-unchanged
