use Rattle.std.proofs.Common.{◌||◌, ◌&&◌, ◌+◌, ◌*◌, ◌∙◌, ap, sym, length, nat_lt, get_or, slice_get, arith}
use Rattle.std.proofs.Math.Facts.{Fits-lt-pow}
use Rattle.hd_task.specs.Conditions.{has_atom}
use Rattle.hd_successors.specs.Seeing.{watches_one, other_passes, is_in_byte}
use Rattle.hd_base.specs.Bits.{bit_in}
use Rattle.hd_successors.proofs.Rows.{passing_below, watches_either, watches_same, watches_nothing, enough_bytes, byte_more, no_bytes, all_bytes}
use Rattle.hd_successors.proofs.watches.Watches.mark_seen.Goals as goal

pub bounds-bytes-place : goal.bounds-bytes-place
bounds-bytes-place c =
    let enough = enough_bytes c.args.state.now c.bytes-bytes.result.now c.bytes-bytes.ensures.bytes in
    let size = c.requires.of_task in
    let len = c.len.ensures in
    let end = c.div_ceil-place-end.ensures in
    omega (arith, enough, size, len, end)

pub loop-place-init : goal.loop-place-init
loop-place-init c =
    λ i.
    let watch = slice_get c.args.self.now.watched i in
    sym (ap (λ b. (b && other_passes (has_atom c.args.state.now) watch) || bit_in c.args.marks.now i)
    (watches_nothing _ watch (no_bytes c.args.state.now (length c.args.self.now.last))))

pub loop-place-preserved : goal.loop-place-preserved
loop-place-preserved c =
    λ i.
    let count = length c.args.self.now.last in
    let place = c.loop-place.place in
    let byte = get_or c.bytes-bytes.result.now place 0 in
    let watch = slice_get c.args.self.now.watched i in
    let other = other_passes (has_atom c.args.state.now) watch in
    c.mark_place.ensures i
    ∙ (ap (λ b. (watches_one (λ a. nat_lt a count && is_in_byte byte (8 * place) a) watch && other) || b) (c.loop-place.invariant i)
    ∙ watches_either (passing_below count (has_atom c.args.state.now) (8 * place)) _ _ watch other _
    (λ a. byte_more c.args.state.now c.bytes-bytes.result.now count place (place + 1) a c.bytes-bytes.ensures.bytes c.requires.of_task (Fits-lt-pow (c.type_inv.bytes place)) (omega arith)))

pub returns : goal.returns
returns c =
    λ i.
    let len = c.len.ensures in
    let end = c.div_ceil-place-end.ensures in
    let watch = slice_get c.args.self.now.watched i in
    c.loop-place.invariant i
    ∙ ap (λ b. (b && other_passes (has_atom c.args.state.now) watch) || bit_in c.args.marks.now i)
    (watches_same _ _ watch (all_bytes c.args.state.now (length c.args.self.now.last) c.loop-place.place c.requires.of_task (omega (arith, len, end))))
