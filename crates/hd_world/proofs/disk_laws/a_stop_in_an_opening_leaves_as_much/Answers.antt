use Rattle.hd_world.proofs.Leaving.{open_stop}
use Rattle.hd_world.proofs.disk_laws.a_stop_in_an_opening_leaves_as_much.Goals as goal

pub returns : goal.returns
returns c = λ digest doing content calls f n left len sound before o stop. open_stop digest doing content calls f n left len sound before o stop
