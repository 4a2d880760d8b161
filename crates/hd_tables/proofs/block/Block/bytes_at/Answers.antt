use Rattle.std.proofs.Common.{◌≡◌, ℕ, List, length, refl, sym, ap, subst, ◌∙◌, arith}
use Rattle.hd_pack.specs.declared.split.Segment.{Segment}
use Rattle.hd_pack.specs.Splitting.{AreWithin}
use Rattle.hd_tables.specs.Rows.{row_in}
use Rattle.hd_tables.specs.Blocks.{widths_of}
use Rattle.hd_tables.proofs.BlockRows.{row_reach, row_split}
use Rattle.hd_tables.proofs.block.Block.bytes_at.Goals as goal

pub row_at-requires : goal.row_at-requires
row_at-requires c =
    let reach = row_reach (widths_of c.args.layout) c.args.self.now c.args.place c.bytes.result _ c.requires.block c.requires.place c.in-None.is c.bytes.ensures in
    let same = ap length c.as_slice-rows.ensures.value in
    omega (arith, reach, same)

pub row_at-requires-in-Some : goal.row_at-requires-in-Some
row_at-requires-in-Some c =
    let reach = row_reach (widths_of c.args.layout) c.args.self.now c.args.place c.in-Some.pattern.width _ c.requires.block c.requires.place c.in-Some.is refl in
    let same = ap length c.as_slice-rows.ensures.value in
    omega (arith, reach, same)

pub of-requires : goal.of-requires
of-requires c =
    let s = c.in-Some.pattern in
    let b = c.args.self.now in
    let row : c.row_at-in-Some.result.now ≡ row_in s.width b.bytes.items c.args.place =
    c.row_at-in-Some.ensures ∙ ap (λ (xs : List ℕ). row_in s.width xs c.args.place) c.as_slice-rows.ensures.value in
    subst (λ (ps : List Segment). AreWithin ps c.as_slice-in-Some.result.now c.row_at-in-Some.result.now) (sym c.as_slice.ensures.value)
    (subst (λ (xs : List ℕ). AreWithin s.segments.items xs c.row_at-in-Some.result.now) (sym c.as_slice-in-Some.ensures.value)
    (subst (AreWithin s.segments.items s.base.items) (sym row) (row_split (widths_of c.args.layout) b c.args.place s c.requires.block c.requires.place c.in-Some.is)))
