use Rattle.std.proofs.Common.{refl, ◌∙◌}
use Rattle.hd_threads.proofs.Places.{moved_seated}
use Rattle.hd_threads.proofs.Stays.{sent_stays}
use Rattle.hd_threads.proofs.placing.send.Goals as goal

pub returns : goal.returns
returns g c =
    let at = c.requires.at in
    let x = c.send_next.ensures in
    let s = sent_stays c.args.workers c.args.place.now.hands c.args.place.now.worker c.send_next.new.hands c.send_next.new.worker c.send_next.result x.sent in
    record {
      stays = record {
        at = record {
          seated = moved_seated c.args.desk.now c.args.place.now _ at.seated x.of x.same s.task refl refl refl refl;
          numbered = s.given ∙ at.numbered;
        };
        still = record { pass = refl; share = refl; seat = refl; hands = x.parts; task = s.task; room = s.room };
      };
    }
