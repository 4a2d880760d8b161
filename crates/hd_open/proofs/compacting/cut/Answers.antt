use Rattle.std.proofs.Common.{◌≡◌, ◌∙◌, None, sym, arith}
use Rattle.std.proofs.lemmas.Option.{none-some}
use Rattle.hd_open.proofs.Packing.{left_more, left_none}
use Rattle.hd_open.proofs.compacting.cut.Goals as goal

pub loop-slots-preserved : goal.loop-slots-preserved
loop-slots-preserved g c = (
  left_more c.args.slots.now.items c.loop-slots.slots.items c.take_last.new.self.items c.take_last.result c.loop-slots.invariant.0
      c.take_last.ensures.items,
  omega arith,
)

pub unreachable-requires : goal.unreachable-requires
unreachable-requires g c =
    let none : c.take_last.result ≡ None =
    left_none c.args.slots.now.items c.loop-slots.slots.items c.take_last.new.self.items c.take_last.result c.args.count c.loop-slots.invariant.0
    c.take_last.ensures.items c.requires.empty (omega arith)
    in
    none-some c.in-Some._node (sym none ∙ c.in-Some.is)
