use Rattle.hd_images.proofs.TaskFluents.{IsTooLarge-from_met}
use Rattle.hd_images.proofs.laws.images_of_many_fluents_are_too_many.Goals as goal

pub returns : goal.returns
returns c = IsTooLarge-from_met
