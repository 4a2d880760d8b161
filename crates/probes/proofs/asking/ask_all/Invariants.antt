use Rattle.std.proofs.Common.{◌≡◌, ◌<◌}
use Rattle.probes.proofs.asking.ask_all.Given as goal

-- the book stays one of the task, and the share has a part
abbrev pub invariant-loop-line : goal.invariant-loop-line
invariant-loop-line g l = (l.book.state.task ≡ l.desk.task.now) × (0 < l.share.parts)
