use Rattle.hd_successors.proofs.Rows.{filter_nothing}
use Rattle.hd_successors.proofs.successors.Successors.new.Goals as goal

pub returns-in-Ok-clause-marked : goal.returns-in-Ok-clause-marked
returns-in-Ok-clause-marked c = filter_nothing _ _ c.in-Ok.ensures.none
