use Rattle.hd_image.proofs.Stopping.{image_read}
use Rattle.hd_image.proofs.laws.images_are_read_as_their_groups.Goals as goal

pub returns : goal.returns
returns c = λ v digest groups len sound. image_read v digest groups len sound
