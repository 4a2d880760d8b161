use Rattle.hd_images.proofs.TaskFluents.{NumbersFluents-from_met}
use Rattle.hd_images.proofs.laws.fluents_of_images_are_numbered.Goals as goal

pub returns : goal.returns
returns c = NumbersFluents-from_met
