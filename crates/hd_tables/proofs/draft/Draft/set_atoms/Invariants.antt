use Rattle.std.proofs.Common.{◌≡◌, take, fold}
use Rattle.hd_pack.specs.Leading.{with_atom_value}
use Rattle.hd_tables.proofs.draft.Draft.set_atoms.Given as goal

-- the atoms so far are written
abbrev pub invariant-loop-atom : goal.invariant-loop-atom
invariant-loop-atom l = l.self ≡ fold (with_atom_value l.value) l.initial.self (take l.atom-index l.atoms)
