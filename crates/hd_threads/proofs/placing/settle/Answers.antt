use Rattle.std.proofs.Common.{refl, ◌∙◌}
use Rattle.hd_desk.specs.Bound.{bound_in}
use Rattle.hd_turns.specs.Calls.{after_seeing}
use Rattle.hd_threads.proofs.Places.{seated_by}
use Rattle.hd_threads.proofs.Stays.{settle_stays}
use Rattle.hd_threads.proofs.placing.settle.Goals as goal

pub returns : goal.returns
returns g c =
    let at = c.requires.at in
    let x = c.settle_best.ensures in
    let w = c.args.place.now.worker in
    let s = settle_stays w.task (after_seeing (bound_in c.settle_best.new.seat.seen) w) c.settle_best.new.worker c.settle_best.result x.ok x.err in
    record {
      stays = record {
        at = record {
          seated = seated_by c.args.desk.now c.args.place.now _ at.seated at.seated.outside refl refl x.seat.of at.seated.hands refl s.task x.lookup;
          numbered = s.given ∙ at.numbered;
        };
        still = record { pass = refl; share = refl; seat = x.seat.parts; hands = refl; task = s.task; room = s.room };
      };
    }
