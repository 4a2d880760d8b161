use Rattle.std.proofs.Common.{ℕ, List, true, false, fold, ap, ap₂, ◌∙◌}
use Rattle.hd_task.specs.declared.effect.Effect.{Effect}
use Rattle.hd_task.specs.declared.state.State.{State}
use Rattle.hd_pack.specs.Leading.{with_atom_value, with_effect_value}
use Rattle.hd_pack.proofs.Steps.{effects_written}
use Rattle.hd_tables.proofs.draft.Draft.write_effects.Goals as goal

pub returns-clause-written : goal.returns-clause-written
returns-clause-written c = λ ok.
    c.set_fluents.ensures.written ok
    ∙ (ap (λ (es : List Effect). fold (with_effect_value c.args.before.now.fluents) c.set_atoms-2.new.self es) c.as_slice-3.ensures
    ∙ effects_written c.args.task.now c.args.before.now c.args.action.now c.set_atoms.new.self c.set_atoms-2.new.self c.requires.of_task c.requires.fits
    (c.set_atoms.ensures ∙ ap₂ (λ (s : State) (is : List ℕ). fold (with_atom_value false) s is) c.requires.copy c.as_slice.ensures)
    (c.set_atoms-2.ensures ∙ ap (λ (is : List ℕ). fold (with_atom_value true) c.set_atoms.new.self is) c.as_slice-2.ensures))
