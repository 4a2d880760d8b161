use Rattle.std.proofs.Common.{◌≡◌, ◌++◌, true, ℕ, List, None, length, sym, ap, ap₂, subst, ◌∙◌, arith}
use Rattle.hd_pack.specs.declared.split.Segment.{Segment}
use Rattle.hd_pack.specs.Splitting.{agrees, own_bytes, AreInside}
use Rattle.hd_tables.specs.Rows.{row_in}
use Rattle.hd_tables.specs.Widths.{state_width}
use Rattle.hd_tables.specs.Blocks.{widths_of}
use Rattle.hd_tables.proofs.BlockRows.{row_reach}
use Rattle.hd_tables.proofs.Thinning.{same_long, rows_more, states_more}
use Rattle.hd_tables.proofs.thin.own_bytes.Goals as goal

pub row_at-row-requires : goal.row_at-row-requires
row_at-row-requires c =
    let inside = c.loop-place-test.true in
    let all = c.loop-place.auto.place-end in
    let reach = row_reach (widths_of c.args.layout) c.args.block.now c.loop-place.place c.bytes.result None c.requires.block (omega (arith, inside, all)) c.requires.whole c.bytes.ensures in
    let same = ap length c.as_slice.ensures.value in
    omega (arith, reach, same)

pub push_own-requires-clause-inside : goal.push_own-requires-clause-inside
push_own-requires-clause-inside c =
    subst (λ (ps : List Segment). AreInside ps c.as_slice-in-loop-place-2.result.now) (sym c.as_slice-in-loop-place.ensures.value)
    (subst (AreInside c.args.pattern.now.segments.items) (sym c.as_slice-in-loop-place-2.ensures.value) c.requires.inside)

pub push_own-requires-clause-len : goal.push_own-requires-clause-len
push_own-requires-clause-len c =
    let w = widths_of c.args.layout in
    let inside = c.loop-place-test.true in
    let all = c.loop-place.auto.place-end in
    let row : c.row_at-row.result.now ≡ row_in (state_width w) c.args.block.now.bytes.items c.loop-place.place =
    c.row_at-row.ensures ∙ ap₂ (λ (k : ℕ) (xs : List ℕ). row_in k xs c.loop-place.place) c.bytes.ensures c.as_slice.ensures.value in
    ap length row
    ∙ (same_long w c.args.block.now c.args.pattern.now c.requires.block c.requires.whole c.requires.inside c.requires.base c.requires.width c.loop-place.place (omega (arith, inside, all))
    ∙ sym (ap length c.as_slice-in-loop-place-2.ensures.value))

pub loop-place-preserved : goal.loop-place-preserved
loop-place-preserved c =
    let w = widths_of c.args.layout in
    let s = c.args.pattern.now in
    let inside = c.loop-place-test.true in
    let all = c.loop-place.auto.place-end in
    let row : c.row_at-row.result.now ≡ row_in (state_width w) c.args.block.now.bytes.items c.loop-place.place =
    c.row_at-row.ensures ∙ ap₂ (λ (k : ℕ) (xs : List ℕ). row_in k xs c.loop-place.place) c.bytes.ensures c.as_slice.ensures.value in
    let told : c.in_ok-push_own.field-0 ≡ true = c.if-not-branch.false in
    let agree : agrees s.segments.items s.base.items (row_in (state_width w) c.args.block.now.bytes.items c.loop-place.place) ≡ true =
    sym (sym told ∙ (c.in_ok-push_own.ensures.agrees
    ∙ (ap₂ (λ (ps : List Segment) (xs : List ℕ). agrees ps xs c.row_at-row.result.now) c.as_slice-in-loop-place.ensures.value c.as_slice-in-loop-place-2.ensures.value
    ∙ ap (agrees s.segments.items s.base.items) row))) in
    let more = c.in_ok-push_own.ensures.own told ∙ ap₂ (λ (ps : List Segment) (xs : List ℕ). c.loop-place.bytes.items ++ own_bytes ps xs) c.as_slice-in-loop-place.ensures.value row in
    record {
      rows =
          rows_more w c.args.block.now s c.requires.block c.requires.whole c.requires.inside c.requires.base c.requires.width c.loop-place.place (omega (arith, inside, all)) agree c.loop-place.bytes.items _ more
          c.loop-place.invariant.rows;
      states =
          states_more w c.args.block.now s c.requires.block c.requires.whole c.requires.inside c.requires.base c.requires.width c.loop-place.place (omega (arith, inside, all)) agree c.loop-place.bytes.items _ more
          c.loop-place.invariant.rows c.loop-place.invariant.states;
    }
