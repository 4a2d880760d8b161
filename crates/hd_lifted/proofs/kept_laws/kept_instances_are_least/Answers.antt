use Rattle.hd_lifted.proofs.Least.{kept_among}
use Rattle.hd_lifted.proofs.kept_laws.kept_instances_are_least.Goals as goal

pub returns : goal.returns
returns c = kept_among
