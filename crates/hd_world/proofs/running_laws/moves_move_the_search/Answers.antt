use Rattle.hd_world.proofs.Searching.{turns_search}
use Rattle.hd_world.proofs.running_laws.moves_move_the_search.Goals as goal

pub returns : goal.returns
returns c = λ t f r r' m x moved. turns_search t f r x m r' moved
