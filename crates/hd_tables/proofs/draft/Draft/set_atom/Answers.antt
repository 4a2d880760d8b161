use Rattle.std.proofs.Common.{slice_get, ap, ◌∙◌}
use Rattle.hd_task.specs.declared.state.State.{State}
use Rattle.hd_pack.proofs.Steps.{read_or, atom_stays, atom_there, atom_turned}
use Rattle.hd_tables.proofs.draft.Draft.set_atom.Goals as goal

pub returns-then-before-value : goal.returns-then-before-value
returns-then-before-value c =
    atom_stays c.args.value c.unwrap_or-before.result c.args.self.now c.args.atom
    (read_or c.args.self.now.atoms c.args.atom c.atom.result c.args.value c.unwrap_or-before.result (c.atom.ensures ∙ ap (λ (s : State). slice_get s.atoms c.args.atom) c.row.ensures) c.unwrap_or-before.ensures) c.if-before-value.true

pub flip-requires : goal.flip-requires
flip-requires c =
    atom_there c.args.value c.unwrap_or-before.result c.args.self.now c.args.atom
    (read_or c.args.self.now.atoms c.args.atom c.atom.result c.args.value c.unwrap_or-before.result (c.atom.ensures ∙ ap (λ (s : State). slice_get s.atoms c.args.atom) c.row.ensures) c.unwrap_or-before.ensures) c.if-before-value.false

pub returns : goal.returns
returns c =
    c.flip.ensures ∙ atom_turned c.args.value c.unwrap_or-before.result c.args.self.now c.args.atom
    (read_or c.args.self.now.atoms c.args.atom c.atom.result c.args.value c.unwrap_or-before.result (c.atom.ensures ∙ ap (λ (s : State). slice_get s.atoms c.args.atom) c.row.ensures) c.unwrap_or-before.ensures) c.if-before-value.false
