use Rattle.hd_world.proofs.Leaving.{append_stop}
use Rattle.hd_world.proofs.disk_laws.a_stop_in_an_append_leaves_the_groups.Goals as goal

pub returns : goal.returns
returns c = λ digest f next n content left. append_stop digest f next n content left
