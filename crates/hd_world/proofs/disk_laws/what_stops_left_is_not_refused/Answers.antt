use Rattle.hd_world.proofs.Opened.{left_not_refused}
use Rattle.hd_world.proofs.disk_laws.what_stops_left_is_not_refused.Goals as goal

pub returns : goal.returns
returns c = λ digest doing content error len sound left refused. left_not_refused digest doing content error len sound left refused
