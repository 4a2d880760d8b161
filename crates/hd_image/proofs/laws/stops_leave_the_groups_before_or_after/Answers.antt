use Rattle.hd_image.proofs.Stopping.{before_or_after}
use Rattle.hd_image.proofs.laws.stops_leave_the_groups_before_or_after.Goals as goal

pub returns : goal.returns
returns c = λ v digest groups next content len sound group left. before_or_after v digest groups next content len sound group left
