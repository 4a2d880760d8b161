use Rattle.std.proofs.Common.{◌<◌, ℕ, Some, sym, ap, ap₂, subst, ◌∙◌, arith}
use Rattle.hd_task.specs.declared.state.State.{State}
use Rattle.hd_pack.specs.Packing.{unpacked}
use Rattle.hd_tables.specs.Rows.{IsWhole}
use Rattle.hd_tables.specs.Blocks.{row_state, row_width, widths_of, IsStateRow}
use Rattle.hd_tables.proofs.Packed.{rows_count, row_fits, row_there}
use Rattle.hd_tables.proofs.block.Block.at.Goals as goal

pub bytes_at-bytes-requires-clause-place : goal.bytes_at-bytes-requires-clause-place
bytes_at-bytes-requires-clause-place c =
    let b = c.args.self.now in
    let w = widths_of c.args.layout in
    let n = rows_count (row_state w b.pattern) (row_width w b.pattern) b.bytes.items b.count in
    let place = c.requires.place in
    omega (arith, n, place)

pub of-requires : goal.of-requires
of-requires c =
    let b = c.args.self.now in
    let w = widths_of c.args.layout in
    let n = rows_count (row_state w b.pattern) (row_width w b.pattern) b.bytes.items b.count in
    let place = c.requires.place in
    let lt : c.args.place < b.count = omega (arith, n, place) in
    let fits = row_fits (IsStateRow w b.pattern) (row_width w b.pattern) b.bytes.items b.count c.args.place c.requires.block.rows lt in
    subst (λ (k : ℕ). IsWhole k c.fluents.result c.bytes_at-bytes.result) (sym c.atoms.ensures)
    (subst (λ (k : ℕ). IsWhole w.atoms k c.bytes_at-bytes.result) (sym c.fluents.ensures)
    (subst (IsWhole w.atoms w.fluents) (sym c.bytes_at-bytes.ensures) fits.whole))

pub returns : goal.returns
returns c =
    let b = c.args.self.now in
    let w = widths_of c.args.layout in
    let n = rows_count (row_state w b.pattern) (row_width w b.pattern) b.bytes.items b.count in
    let place = c.requires.place in
    let lt : c.args.place < b.count = omega (arith, n, place) in
    row_there (row_state w b.pattern) (row_width w b.pattern) b.bytes.items b.count c.args.place lt
    ∙ ap (λ (s : State). Some s) (ap₂ unpacked (sym c.atoms.ensures) (sym c.bytes_at-bytes.ensures) ∙ sym c.of.ensures)
