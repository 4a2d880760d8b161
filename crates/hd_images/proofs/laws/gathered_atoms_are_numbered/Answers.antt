use Rattle.hd_images.proofs.TaskAtoms.{NumbersAtoms-from_gathered}
use Rattle.hd_images.proofs.laws.gathered_atoms_are_numbered.Goals as goal

pub returns : goal.returns
returns c = NumbersAtoms-from_gathered
