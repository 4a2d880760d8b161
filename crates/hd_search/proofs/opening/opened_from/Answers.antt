use Rattle.std.proofs.Common.{◌≡◌, length, sym, ap, ◌∙◌}
use Rattle.hd_search.proofs.Places.{length_all}
use Rattle.hd_search.proofs.Seating.{room_for}
use Rattle.hd_search.proofs.opening.opened_from.Goals as goal

pub returns-clause-committer : goal.returns-clause-committer
returns-clause-committer g c =
    let t = c.args.task.now in
    let kids = c.args.recovered.book.state.entries in
    let count : c.args.workers ≡ length c.args.recovered.workers.items =
    sym (ap length c.requires.workers ∙ length_all t kids c.args.workers)
    in
    let room = c.in_ok-places.ensures.room kids (room_for _ _ _ _ _ _ count c.in_ok-desk.ensures.room) in
    record {
      outside = room.outside;
      seen = room.seen;
      whole = c.in_ok-desk.ensures.parts;
      some = c.requires.some;
      counted = c.in_ok-desk.ensures.amount ∙ c.requires.acknowledged;
    }

pub returns-clause-bound : goal.returns-clause-bound
returns-clause-bound g c = record { start = c.in_ok-desk.ensures.bound; seen = c.in_ok-places.ensures.bound }
