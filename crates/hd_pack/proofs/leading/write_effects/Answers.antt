use Rattle.std.proofs.Common.{ℕ, List, true, false, fold, ap, ap₂, ◌∙◌}
use Rattle.hd_task.specs.declared.state.State.{State}
use Rattle.hd_pack.specs.Leading.{with_atom_value}
use Rattle.hd_pack.proofs.Steps.{written_by}
use Rattle.hd_pack.proofs.leading.write_effects.Goals as goal

pub returns : goal.returns
returns c =
    written_by c.args.task.now c.args.state.now c.args.action.now c.set_atoms-hash.new.state c.set_atoms-hash-2.new.state c.set_fluents.new.kid c.as_slice-3.result.now c.set_fluents.result
    c.requires.of_task c.requires.fits
    (c.set_atoms-hash.ensures.state ∙ ap₂ (λ (s : State) (is : List ℕ). fold (with_atom_value false) s is) c.requires.copy c.as_slice.ensures)
    (c.set_atoms-hash-2.ensures.state ∙ ap (λ (is : List ℕ). fold (with_atom_value true) c.set_atoms-hash.new.state is) c.as_slice-2.ensures)
    c.as_slice-3.ensures c.set_fluents.ensures
