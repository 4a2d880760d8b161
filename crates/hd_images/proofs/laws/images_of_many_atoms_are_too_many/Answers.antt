use Rattle.hd_images.proofs.TaskAtoms.{IsTooLarge-from_gathered}
use Rattle.hd_images.proofs.laws.images_of_many_atoms_are_too_many.Goals as goal

pub returns : goal.returns
returns c = IsTooLarge-from_gathered
