use Rattle.hd_world.proofs.Admitting.{all_admissible}
use Rattle.hd_world.proofs.running_laws.nothing_is_refused.Goals as goal

pub returns : goal.returns
returns c = all_admissible
