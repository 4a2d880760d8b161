use Rattle.std.proofs.Common.{◌≡◌, length}
use Rattle.hd_successors.specs.Chains.{AreChains}
use Rattle.hd_successors.proofs.watches.chains_of.Given as goal

abbrev pub invariant-loop-action : goal.invariant-loop-action
invariant-loop-action l = record {
  chains : AreChains l.watched l.last.items l.before.items l.action;
  atoms : length l.last.items ≡ l.atoms;
}
