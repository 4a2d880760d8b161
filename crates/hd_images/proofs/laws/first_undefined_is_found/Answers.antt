use Rattle.hd_images.proofs.TaskFluents.{undefined_in-met}
use Rattle.hd_images.proofs.laws.first_undefined_is_found.Goals as goal

pub returns : goal.returns
returns c = undefined_in-met
