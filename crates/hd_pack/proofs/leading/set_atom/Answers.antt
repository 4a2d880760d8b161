use Rattle.std.proofs.Common.{◌∙◌}
use Rattle.hd_pack.proofs.Steps.{read_or, atom_stays, atom_there, atom_turned}
use Rattle.hd_pack.proofs.leading.set_atom.Goals as goal

pub returns-then-before-value-clause-state : goal.returns-then-before-value-clause-state
returns-then-before-value-clause-state c =
    atom_stays c.args.value c.unwrap_or-before.result c.args.state.now c.args.atom
    (read_or c.args.state.now.atoms c.args.atom _ c.args.value _ c.atom.ensures c.unwrap_or-before.ensures) c.if-before-value.true

pub make-requires-clause-fits : goal.make-requires-clause-fits
make-requires-clause-fits c =
    atom_there c.args.value c.unwrap_or-before.result c.args.state.now c.args.atom
    (read_or c.args.state.now.atoms c.args.atom _ c.args.value _ c.atom.ensures c.unwrap_or-before.ensures) c.if-before-value.false

pub returns-clause-state : goal.returns-clause-state
returns-clause-state c =
    c.make.ensures.state ∙ atom_turned c.args.value c.unwrap_or-before.result c.args.state.now c.args.atom
    (read_or c.args.state.now.atoms c.args.atom _ c.args.value _ c.atom.ensures c.unwrap_or-before.ensures) c.if-before-value.false
