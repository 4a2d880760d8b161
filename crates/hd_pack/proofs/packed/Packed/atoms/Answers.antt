use Rattle.hd_pack.proofs.Packings.{parts_of}
use Rattle.hd_pack.proofs.packed.Packed.atoms.Goals as goal

pub returns : goal.returns
returns c = (parts_of _ _ _ c.self.view_is c.self.invariant).count
