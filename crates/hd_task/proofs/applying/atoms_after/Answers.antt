use Rattle.std.proofs.Common.{◌∙◌, refl}
use Rattle.hd_task.proofs.Atoms.{written_atoms}
use Rattle.hd_task.proofs.applying.atoms_after.Goals as goal

pub returns : goal.returns
returns c =
    written_atoms c.args.task.now c.args.state.now c.args.action.now _ c.requires.atoms
    (c.set_each-2.ensures ∙ rw (c.as_slice-3.ensures, c.set_each.ensures, c.as_slice-2.ensures, c.in_ok-bits.ensures.items, c.as_slice.ensures) refl)
