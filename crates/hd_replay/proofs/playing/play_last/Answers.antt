use Rattle.std.proofs.Common.{◌≤◌, [], ◌∷◌, None, arith}
use Rattle.hd_store.specs.declared.memory.MemoryDisk.{MemoryDisk}
use Rattle.hd_world.specs.declared.moves.Move.TheVariants.{Resume}
use Rattle.hd_world.specs.World.{Stopped, MayResume}
use Rattle.hd_replay.specs.declared.report.Report.{Report}
use Rattle.hd_replay.specs.Playing.{IsEndOf, IsEndedBy}
use Rattle.hd_replay.proofs.Plays.{run_begins, last_played}
use Rattle.hd_replay.proofs.Steps.{if_ok}
use Rattle.hd_replay.proofs.playing.play_last.Goals as goal

pub returns : goal.returns
returns g c = λ content started.
    let t = c.args.task.now in
    let digest = c.args.digest.now in
    let j = c.in_ok-journal.journal in
    let r = c.in_ok-run.run' in
    let o = c.in_ok-journal.ensures content started in
    let begun = c.in_ok-run.ensures digest o.file o.stands in
    let may : MayResume 1 None = (omega arith, omega arith) in
    if_ok (λ (e : MemoryDisk × Report). IsEndOf t digest o.file r e.0 e.1)
    (λ (e : MemoryDisk × Report). IsEndedBy t digest (Stopped content) (Resume 1 None ∷ []) e.0 e.1) c.report.result
    (λ e end. last_played t digest content j r e.0 e.1 o begun may end)
    (c.report.ensures t digest o.file (run_begins t digest o.file j 1 r o.stands begun))
