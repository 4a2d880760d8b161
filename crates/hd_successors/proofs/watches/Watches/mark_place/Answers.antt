use Rattle.std.proofs.Common.{◌||◌, ◌&&◌, ◌*◌, ap, sym, slice_get}
use Rattle.hd_task.specs.Conditions.{has_atom}
use Rattle.hd_successors.specs.Seeing.{other_passes}
use Rattle.hd_base.specs.Bits.{bit_in}
use Rattle.hd_successors.proofs.Chaining.{none_in_byte}
use Rattle.hd_successors.proofs.watches.Watches.mark_place.Goals as goal

pub returns-then-not-is_headed : goal.returns-then-not-is_headed
returns-then-not-is_headed c =
    λ i.
    let s = c.args.self.now in
    let watch = slice_get s.watched i in
    let none = none_in_byte s.watched s.last s.before c.args.byte (8 * c.args.place) i s.chained c.ranges.byte.fits (c.is_headed.ensures c.if-not-is_headed.true) in
    sym (ap (λ b. (b && other_passes (has_atom c.args.state.now) watch) || bit_in c.args.marks.now i) none)
