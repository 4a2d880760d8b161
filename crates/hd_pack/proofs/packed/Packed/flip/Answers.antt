use Rattle.hd_pack.proofs.Packings.{parts_of, parts_flipped, state_of, packing_of, atom_byte}
use Rattle.hd_pack.proofs.packed.Packed.flip.Goals as goal

pub flip_atom-requires : goal.flip_atom-requires
flip_atom-requires c = atom_byte _ _ _ c.args.atom (parts_of _ _ _ c.self.view_is c.self.invariant) c.requires

pub invariant_of-self : goal.invariant_of-self
invariant_of-self c =
    packing_of _ _ _ (parts_flipped _ _ _ _ c.args.atom (parts_of _ _ _ c.self.view_is c.self.invariant) c.requires c.flip_atom.ensures)

pub returns : goal.returns
returns c =
    state_of _ _ _ (parts_flipped _ _ _ _ c.args.atom (parts_of _ _ _ c.self.view_is c.self.invariant) c.requires c.flip_atom.ensures)
