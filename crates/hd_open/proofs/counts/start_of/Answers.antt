use Rattle.hd_open.proofs.Lowest.{start_less}
use Rattle.hd_open.proofs.counts.start_of.Goals as goal

pub returns-clause-less : goal.returns-clause-less
returns-clause-less c = start_less c.args.end c.requires
