use Rattle.std.specs.Int.{bit_at}
use Rattle.std.proofs.Common.{◌≡◌, ◌==◌, ℕ, length, sym, ap, ◌∙◌, arith}
use Rattle.hd_task.specs.declared.state.State.{State}
use Rattle.hd_pack.proofs.Trips.{bytes_enough, length-unpacked}
use Rattle.hd_tables.proofs.Eights.{eight_are}
use Rattle.hd_tables.proofs.row.Row.eight_atoms.Goals as goal

pub byte-requires : goal.byte-requires
byte-requires c =
    let i = c.self.inside in
    let enough = bytes_enough i.atoms i.bytes c.self.invariant.packing.packed in
    let many : length c.args.self.now.atoms ≡ i.atoms = ap (λ (s : State). length s.atoms) (sym c.self.view_is) ∙ length-unpacked i.atoms i.bytes in
    let whole = c.requires in
    omega (arith, enough, many, whole)

pub returns : goal.returns
returns c k h =
    let i = c.self.inside in
    let many : length c.args.self.now.atoms ≡ i.atoms = ap (λ (s : State). length s.atoms) (sym c.self.view_is) ∙ length-unpacked i.atoms i.bytes in
    let whole = c.requires in
    ap (λ (b : ℕ). bit_at b k == 1) c.byte.ensures
    ∙ eight_are i.atoms i.bytes c.args.self.now c.args.number k c.self.view_is (omega (arith, many, whole)) h
