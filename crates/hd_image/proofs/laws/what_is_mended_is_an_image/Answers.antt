use Rattle.hd_image.proofs.Stopping.{mended}
use Rattle.hd_image.proofs.laws.what_is_mended_is_an_image.Goals as goal

pub returns : goal.returns
returns c = λ digest content found is. mended digest content found is
