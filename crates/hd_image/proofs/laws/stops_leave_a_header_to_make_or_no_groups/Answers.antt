use Rattle.hd_image.proofs.Stopping.{making_none}
use Rattle.hd_image.proofs.laws.stops_leave_a_header_to_make_or_no_groups.Goals as goal

pub returns : goal.returns
returns c = λ v digest content len making. making_none v digest content len making
