use Rattle.hd_world.proofs.Answering.{answers_truly}
use Rattle.hd_world.proofs.answer_laws.answers_are_true.Goals as goal

pub returns : goal.returns
returns c = λ t r x. answers_truly t r x
