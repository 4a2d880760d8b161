use Rattle.std.proofs.Common.{ℕ, ◌||◌, ◌&&◌, ◌==◌, ◌+◌, ◌∙◌, ◌∷◌, [], refl, ap, sym, length, nat_lt, slice_get, arith}
use Rattle.std.proofs.Math.Facts.{Fits-of_lt}
use Rattle.hd_task.specs.Conditions.{has_atom}
use Rattle.hd_successors.specs.Seeing.{watches_one, other_passes, is_in_byte}
use Rattle.hd_base.specs.Bits.{bit_in}
use Rattle.hd_successors.proofs.Rows.{passing_below, watches_either, watches_same, watches_nothing, no_bits, mark_within, next_bit, last_bit}
use Rattle.hd_successors.proofs.watches.Watches.mark_byte.Goals as goal

pub loop-bit-init : goal.loop-bit-init
loop-bit-init c = record {
  within = omega arith;
  marks = λ i.
      let watch = slice_get c.args.self.now.watched i in
      sym (ap (λ b. (b && other_passes (has_atom c.args.state.now) watch) || bit_in c.args.marks.now i)
      (watches_nothing _ watch (no_bits (length c.args.self.now.last) c.args.byte c.args.base)));
}

pub loop-bit-smaller : goal.loop-bit-smaller
loop-bit-smaller c =
    let next = next_bit (c.args.byte ∷ []) (length c.args.self.now.last) c.args.byte c.args.base c.loop-bit.from c.in-Some.bit refl (omega arith) c.in-Some.ensures in
    let small = next.small in
    let behind = next.behind in
    omega (arith, small, behind)

pub loop-bit-preserved : goal.loop-bit-preserved
loop-bit-preserved c =
    let count = length c.args.self.now.last in
    let next = next_bit (c.args.byte ∷ []) count c.args.byte c.args.base c.loop-bit.from c.in-Some.bit refl (omega arith) c.in-Some.ensures in
    let small = next.small in
    record {
      within = omega (arith, small);
      marks = λ i.
          let watch = slice_get c.args.self.now.watched i in
          let other = other_passes (has_atom c.args.state.now) watch in
          c.mark_watchers.ensures i
          ∙ (ap (λ b. (watches_one (λ a. (a == (c.args.base + c.in-Some.bit)) && nat_lt a count) watch && other) || b) (c.loop-bit.invariant.marks i)
          ∙ watches_either (passing_below count (is_in_byte c.args.byte c.args.base) (c.args.base + c.loop-bit.from)) _ _ watch other _ next.more);
    }

pub overflow_add-base : goal.overflow_add-base
overflow_add-base c =
    let small = mark_within (c.args.byte ∷ []) c.args.byte c.in-Some.bit refl (omega arith) c.in-Some.ensures.is_marked_there in
    let near = c.requires.near in
    Fits-of_lt (omega (arith, small, near))

pub overflow_add-from : goal.overflow_add-from
overflow_add-from c =
    let small = mark_within (c.args.byte ∷ []) c.args.byte c.in-Some.bit refl (omega arith) c.in-Some.ensures.is_marked_there in
    Fits-of_lt (omega (arith, small))

pub returns : goal.returns
returns c =
    λ i.
    let count = length c.args.self.now.last in
    let watch = slice_get c.args.self.now.watched i in
    c.loop-bit.invariant.marks i
    ∙ ap (λ b. (b && other_passes (has_atom c.args.state.now) watch) || bit_in c.args.marks.now i)
    (watches_same _ _ watch (last_bit (c.args.byte ∷ []) count c.args.byte c.args.base c.loop-bit.from refl (omega arith) c.in_default.ensures))
