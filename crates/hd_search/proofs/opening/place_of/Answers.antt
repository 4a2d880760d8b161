use Rattle.hd_search.proofs.Seating.{room_after}
use Rattle.hd_search.proofs.opening.place_of.Goals as goal

pub returns-clause-room : goal.returns-clause-room
returns-clause-room g c = λ log left room.
    let hands = c.in_ok-hands.ensures in
    room_after c.args.task.now log c.args.desk.now left c.args.rest.now room (record { pass = c.another.new.pass; share = c.split_off.new.self; seat = c.another-2.new.seat; hands = c.share.new.hands }) c.another.ensures.old c.another.ensures.old_view c.split_off.ensures.parts_left c.another-2.ensures.left hands.of hands.left hands.parts
