use Rattle.std.proofs.Common.{Bool, Some, sym, ap, ◌∙◌, arith}
use Rattle.hd_pack.proofs.Trips.{bytes_enough}
use Rattle.hd_pack.proofs.Packings.{atom_within, atom_beyond}
use Rattle.hd_tables.proofs.row.Row.atom.Goals as goal

pub atom_in-requires : goal.atom_in-requires
atom_in-requires c =
    let enough = bytes_enough c.self.inside.atoms c.self.inside.bytes c.self.invariant.packing.packed in
    let below = c.if-atom-self.true in
    omega (arith, enough, below)

pub returns-then-atom-self : goal.returns-then-atom-self
returns-then-atom-self c = ap (λ (b : Bool). Some b) c.atom_in.ensures ∙ sym (atom_within _ _ _ c.args.atom c.self.view_is c.if-atom-self.true)

pub returns-else-atom-self : goal.returns-else-atom-self
returns-else-atom-self c = sym (atom_beyond _ _ _ c.args.atom c.self.view_is c.if-atom-self.false)
