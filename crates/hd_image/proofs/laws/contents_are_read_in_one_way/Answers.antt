use Rattle.hd_image.proofs.Ways.{one_answer}
use Rattle.hd_image.proofs.laws.contents_are_read_in_one_way.Goals as goal

pub returns : goal.returns
returns c = λ digest content a b na nb x y. one_answer digest content a b na nb x y
