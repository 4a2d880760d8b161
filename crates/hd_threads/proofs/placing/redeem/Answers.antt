use Rattle.std.proofs.Common.{refl, ◌∙◌}
use Rattle.crossbeam_queue.specs.Passes.{view}
use Rattle.hd_threads.proofs.Places.{seated_by}
use Rattle.hd_threads.proofs.Stays.{redeem_task, redeem_given}
use Rattle.hd_threads.proofs.placing.redeem.Goals as goal

pub returns-clause-back : goal.returns-clause-back
returns-clause-back g c =
    let at = c.requires.at in
    let pass = c.redeem_next.ensures.pass in
    let w = c.args.place.now.worker in
    let w' = c.redeem_next.new.worker in
    let log = (view c.redeem_next.new.pass).seen.log in
    let task = redeem_task log c.args.held w w' c.redeem_next.result c.redeem_next.ensures.redeemed c.redeem_next.ensures.err in
    let given = redeem_given log c.args.held w w' c.redeem_next.result c.redeem_next.ensures.redeemed c.redeem_next.ensures.err in
    record {
      at = record {
        seated = seated_by c.args.desk.now c.args.place.now _ at.seated pass.outside pass.task refl refl at.seated.hands refl task at.seated.lookup;
        numbered = given ∙ at.numbered;
      };
      keeps = record { parts = pass.parts; share = refl; seat = refl; hands = refl; grows = pass.grows; task = task };
    }
