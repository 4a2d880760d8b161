use Rattle.std.proofs.Common.{◌≡◌, ℕ, Bool, Some, List, length, sym, ap, ◌∙◌, arith}
use Rattle.hd_pack.specs.Packing.{atom_in}
use Rattle.hd_pack.proofs.Trips.{bytes_enough}
use Rattle.hd_pack.proofs.Packings.{atom_within, atom_beyond}
use Rattle.hd_pack.proofs.packed.Packed.atom.Goals as goal

pub atom_in-requires : goal.atom_in-requires
atom_in-requires c =
    let enough = bytes_enough c.self.inside.atoms c.self.inside.bytes.items c.self.invariant.packed in
    let same : length c.as_slice.result.now ≡ length c.self.inside.bytes.items = ap length c.as_slice.ensures in
    let below = c.if-atom-self.true in
    omega (arith, enough, same, below)

pub returns-then-atom-self : goal.returns-then-atom-self
returns-then-atom-self c =
    ap (λ (b : Bool). Some b) (c.atom_in.ensures ∙ ap (λ (ns : List ℕ). atom_in ns c.args.atom) c.as_slice.ensures)
    ∙ sym (atom_within _ _ _ c.args.atom c.self.view_is c.if-atom-self.true)

pub returns-else-atom-self : goal.returns-else-atom-self
returns-else-atom-self c = sym (atom_beyond _ _ _ c.args.atom c.self.view_is c.if-atom-self.false)
