use Rattle.std.proofs.Common.{◌∙◌, ap}
use Rattle.hd_open.specs.Live.{live}
use Rattle.hd_open.proofs.Packing.{live-packed}
use Rattle.hd_open.proofs.compacting.compact.Goals as goal

pub returns-clause-nodes : goal.returns-clause-nodes
returns-clause-nodes g c = ap live (c.cut.ensures ∙ c.gather-count.ensures.first) ∙ live-packed c.args.slots.now.items
