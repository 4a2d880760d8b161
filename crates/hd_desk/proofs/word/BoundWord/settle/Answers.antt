use Rattle.std.proofs.Common.{ap, ◌∙◌}
use Rattle.hd_desk.specs.Bound.{BoundView, SeatView, bound_in, least}
use Rattle.hd_desk.proofs.Steps.{settled}
use Rattle.hd_desk.proofs.word.BoundWord.settle.Goals as goal

pub returns : goal.returns
returns c =
    let start = c.self.inside.table.shared.key in
    let seat = c.seat.inside.seat in
    let all = ap (λ (s : SeatView). s.parts) c.seat.view_is ∙ c.requires.parts in
    let word = settled start seat.id c.word-word.result seat.me.0 _ _ c.close_with-closed.ensures.values.2 all c.word-word.ensures in
    c.bound_at.ensures
    ∙ ap bound_in (word
    ∙ (ap (λ (b : BoundView). least b.start seat.me.0.offers) c.self.view_is
    ∙ ap (λ (s : SeatView). least c.args.self.start s.offers) c.seat.view_is))
