use Rattle.std.proofs.Common.{sym}
use Rattle.hd_entries.proofs.Held.{entry_found, entry_missing}
use Rattle.hd_entries.proofs.expanded.ExpandedPlans.node.Goals as goal

pub returns-in-Some : goal.returns-in-Some
returns-in-Some c = sym (entry_found c.args.self.now c.requires.held c.args.number c.in-Some.entry (sym c.in-Some.ensures))

pub returns-in-None : goal.returns-in-None
returns-in-None c = sym (entry_missing c.args.self.now c.requires.held c.args.number (sym c.in-None.ensures))
