use Rattle.hd_image.proofs.Answering.{has_answer}
use Rattle.hd_image.proofs.laws.each_content_has_an_answer.Goals as goal

pub returns : goal.returns
returns c = λ digest content fits. has_answer digest content fits
