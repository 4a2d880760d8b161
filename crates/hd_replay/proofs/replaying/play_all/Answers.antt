use Rattle.std.proofs.Common.{◌+◌, [], ◌∷◌, None, length, ap, ◌∙◌, arith}
use Rattle.std.proofs.lemmas.List.{length-drop}
use Rattle.hd_store.specs.declared.memory.MemoryDisk.{MemoryDisk}
use Rattle.hd_store.specs.Device.{content_of}
use Rattle.hd_store.specs.MemoryDisk.{device_of}
use Rattle.hd_world.specs.declared.moves.Move.TheVariants.{Resume}
use Rattle.hd_world.specs.World.{Stopped}
use Rattle.hd_replay.specs.declared.report.Report.{Report}
use Rattle.hd_replay.specs.Playing.{IsEndedBy, IsReported}
use Rattle.hd_replay.proofs.Plays.{rests_next, reported_now, reported_last, none_there}
use Rattle.hd_replay.proofs.Steps.{if_ok}
use Rattle.hd_replay.proofs.replaying.play_all.Goals as goal

pub overflow_add-at-in-Stopped : goal.overflow_add-at-in-Stopped
overflow_add-at-in-Stopped c =
    let s = c.loop-at.invariant.starts in
    let few = (c.in-Stopped.ensures s.0 s.1).few in
    let long = ap length c.moves_from-rest.ensures ∙ length-drop (c.loop-at.at + 1) c.args.moves.now in
    omega (arith, few, long, c.loop-at-test.true)

pub overflow_add-at-in-Stopped-2 : goal.overflow_add-at-in-Stopped-2
overflow_add-at-in-Stopped-2 c =
    let s = c.loop-at.invariant.starts in
    let few = (c.in-Stopped.ensures s.0 s.1).few in
    let long = ap length c.moves_from-rest.ensures ∙ length-drop (c.loop-at.at + 1) c.args.moves.now in
    omega (arith, few, long, c.loop-at-test.true)

pub loop-at-preserved : goal.loop-at-preserved
loop-at-preserved c =
    let s = c.loop-at.invariant.starts in
    let stopped = c.in-Stopped.ensures s.0 s.1 in
    let few = stopped.few in
    let long = ap length c.moves_from-rest.ensures ∙ length-drop (c.loop-at.at + 1) c.args.moves.now in
    record {
      starts = (stopped.content, stopped.started);
      at = λ first started.
          let x = c.loop-at.invariant.at first started in
          rests_next c.args.task.now c.args.digest.now first c.args.moves.now c.moves_from-rest.result.now c.loop-at.at c.in-Stopped.count c.move_at-next.result
          c.loop-at.held c.in-Stopped.left x c.move_at-next.ensures c.moves_from-rest.ensures (c.in-Stopped.ensures x.content x.started);
      within = omega (arith, few, long, c.loop-at-test.true);
    }

pub returns-in-Ended : goal.returns-in-Ended
returns-in-Ended c = λ content started.
    let x = c.loop-at.invariant.at content started in
    reported_now c.args.task.now c.args.digest.now content c.args.moves.now c.moves_from-rest.result.now c.loop-at.at c.move_at-next.result c.loop-at.held
    c.in-Ended.left c.in-Ended.report x c.move_at-next.ensures c.moves_from-rest.ensures (c.in-Ended.ensures x.content x.started)

pub returns : goal.returns
returns c = λ content started.
    let t = c.args.task.now in
    let digest = c.args.digest.now in
    let ms = c.args.moves.now in
    let x = c.loop-at.invariant.at content started in
    if_ok (λ (r : MemoryDisk × Report). IsEndedBy t digest (Stopped x.content) (Resume 1 None ∷ []) r.0 r.1)
    (λ (r : MemoryDisk × Report). IsReported t digest content ms (content_of (device_of r.0)) r.1) c.play_last.result
    (λ r e. reported_last t digest content ms c.loop-at.at c.loop-at.held r.0 r.1 x (none_there ms c.loop-at.at c.loop-at-test.false) e)
    (c.play_last.ensures x.content x.started)
