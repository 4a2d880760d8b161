use Rattle.std.proofs.Common.{length, sym, ap, ◌∙◌}
use Rattle.hd_task.specs.declared.state.State.{State}
use Rattle.hd_pack.proofs.Packings.{parts_of, parts_flipped, state_of, atom_byte}
use Rattle.hd_tables.proofs.Packed.{whole_of}
use Rattle.hd_tables.proofs.draft.Draft.flip.Goals as goal

pub flip_atom-requires : goal.flip_atom-requires
flip_atom-requires c = atom_byte _ _ _ c.args.atom (parts_of _ _ _ c.self.view_is c.self.invariant.packing) c.requires

pub invariant_of-self : goal.invariant_of-self
invariant_of-self c =
    whole_of _ _ _ _ (parts_flipped _ _ _ _ c.args.atom (parts_of _ _ _ c.self.view_is c.self.invariant.packing) c.requires c.flip_atom.ensures)
    (ap (λ (s : State). length s.fluents) (sym c.self.view_is) ∙ c.self.invariant.values) c.self.invariant.few_atoms c.self.invariant.few

pub returns : goal.returns
returns c =
    state_of _ _ _ (parts_flipped _ _ _ _ c.args.atom (parts_of _ _ _ c.self.view_is c.self.invariant.packing) c.requires c.flip_atom.ensures)
