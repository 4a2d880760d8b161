use Rattle.hd_world.proofs.MoveTables.{moves_tabled}
use Rattle.hd_world.proofs.schedule_laws.moves_are_those_of_the_table.Goals as goal

pub returns : goal.returns
returns c = moves_tabled
