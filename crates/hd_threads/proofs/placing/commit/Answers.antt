use Rattle.std.proofs.Common.{ap, subst, sym}
use Rattle.crossbeam_queue.specs.Passes.{view}
use Rattle.hd_desk.specs.Hands.{IsFor, parts_of}
use Rattle.hd_worker.specs.Lookup.{IsLookupOf}
use Rattle.hd_threads.proofs.Places.{seated_by, committed_behind}
use Rattle.hd_threads.proofs.placing.commit.Goals as goal

pub returns-clause-seated : goal.returns-clause-seated
returns-clause-seated g c =
    let s = c.requires.at.seated in
    let p = c.args.place.now in
    let q = c.commit_next.new.place in
    let x = c.commit_next.ensures in
    record {
      seated = seated_by c.args.desk.now p q s x.pass.outside x.pass.task x.share x.seat.of (subst (IsFor c.args.desk.now.boxes) (sym x.hands) s.hands)
          (ap (λ h. h.of) x.hands) x.worker_task (subst (IsLookupOf p.worker.task) (sym x.lookup) s.lookup);
      keeps = record { parts = x.pass.parts; share = x.share; seat = x.seat.parts; hands = ap parts_of x.hands; grows = x.pass.grows; task = x.worker_task };
    }

pub returns-clause-behind : goal.returns-clause-behind
returns-clause-behind g c =
    let s = c.requires.at.seated in
    let p = c.args.place.now in
    let q = c.commit_next.new.place in
    let x = c.commit_next.ensures in
    committed_behind c.args.desk.now p q (view p.pass).seen.log (view q.pass).seen.log
    p.share.amount q.share.amount p.seat q.seat c.commit_next.result
    (seated_by c.args.desk.now p q s x.pass.outside x.pass.task x.share x.seat.of (subst (IsFor c.args.desk.now.boxes) (sym x.hands) s.hands)
    (ap (λ h. h.of) x.hands) x.worker_task (subst (IsLookupOf p.worker.task) (sym x.lookup) s.lookup)) c.requires.at.numbered x.committed
