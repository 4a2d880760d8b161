use Rattle.std.proofs.Common.{◌≡◌, take, fold}
use Rattle.hd_zobrist.specs.Hash.{state_hash}
use Rattle.hd_pack.specs.Leading.{with_atom_value}
use Rattle.hd_pack.proofs.leading.set_atoms.Given as goal

-- the atoms so far are written, and the hash is the state's
abbrev pub invariant-loop-atom : goal.invariant-loop-atom
invariant-loop-atom l = record {
  state : l.state ≡ fold (with_atom_value l.value) l.initial.state (take l.atom-index l.atoms);
  hash : l.hash ≡ state_hash l.state;
}
