use Rattle.hd_world.proofs.Stepping.{steps_search}
use Rattle.hd_world.proofs.answer_laws.steps_move_the_search.Goals as goal

pub returns : goal.returns
returns c = λ t digest f f' r r' m x e. steps_search t digest f f' r r' x m e
