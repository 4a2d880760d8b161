use Rattle.std.proofs.Common.{sym, ap, subst, ◌∙◌, arith}
use Rattle.hd_pack.proofs.Packings.{Parts, state_of}
use Rattle.hd_pack.specs.Packing.{unpacked}
use Rattle.hd_tables.specs.Rows.{IsWhole}
use Rattle.hd_tables.proofs.Packed.{whole_of}
use Rattle.hd_tables.proofs.row.Row.of_packed.Goals as goal

pub invariant_of-result : goal.invariant_of-result
invariant_of-result c =
    let s = c.args.state.now in
    let parts : Parts c.atoms.result c.bytes.result.now s =
    record { count = c.atoms.ensures ∙ sym c.requires.atoms; bytes = c.bytes.ensures.bytes; fit = c.bytes.ensures.fit }
    in
    let few_atoms = c.args.layout.few_atoms in
    let few = c.args.layout.few_fluents in
    let atoms = c.atoms.ensures in
    let fluents = c.fluents.ensures in
    subst (IsWhole c.atoms.result c.fluents.result) (sym c.whole.ensures)
    (whole_of c.atoms.result c.fluents.result c.bytes.result.now s parts (c.requires.fluents ∙ sym fluents) (omega (arith, few_atoms, atoms)) (omega (arith, few, fluents)))

pub returns : goal.returns
returns c =
    let s = c.args.state.now in
    ap (unpacked c.atoms.result) c.whole.ensures
    ∙ state_of c.atoms.result c.bytes.result.now s (record { count = c.atoms.ensures ∙ sym c.requires.atoms; bytes = c.bytes.ensures.bytes; fit = c.bytes.ensures.fit })
