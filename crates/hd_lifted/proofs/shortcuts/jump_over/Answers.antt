use Rattle.hd_lifted.specs.Types.{reflexive, transitive}
use Rattle.hd_lifted.proofs.Jumps.{jump_up}
use Rattle.hd_lifted.proofs.shortcuts.jump_over.Goals as goal

pub returns-then-abs_diff : goal.returns-then-abs_diff
returns-then-abs_diff c parents j =
    transitive (jump_up parents c.args.jumps.now c.args.parent c.entry_of-near.result j c.entry_of-near.ensures)
    (jump_up parents c.args.jumps.now c.entry_of-near.result c.entry_of-far.result j c.entry_of-far.ensures)

pub returns-else-abs_diff : goal.returns-else-abs_diff
returns-else-abs_diff c parents j = reflexive c.args.parent
