use Rattle.std.proofs.Common.{refl, ◌∙◌}
use Rattle.hd_threads.proofs.Places.{moved_seated}
use Rattle.hd_threads.proofs.Stays.{take_stays}
use Rattle.hd_threads.proofs.placing.take.Goals as goal

pub returns : goal.returns
returns g c =
    let at = c.requires.at in
    let x = c.take_next.ensures in
    let s = take_stays c.args.id c.args.place.now.hands c.args.place.now.worker c.take_next.new.hands c.take_next.new.worker c.take_next.result x.taken x.err in
    record {
      stays = record {
        at = record {
          seated = moved_seated c.args.desk.now c.args.place.now _ at.seated x.of x.same s.task refl refl refl refl;
          numbered = s.given ∙ at.numbered;
        };
        still = record { pass = refl; share = refl; seat = refl; hands = x.parts; task = s.task; room = s.room };
      };
    }
