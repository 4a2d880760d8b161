use Rattle.std.proofs.Common.{string_bytes}
use Rattle.hplan.proofs.TaskLines.{behind_lines}
use Rattle.hplan.proofs.text.push_actions.Goals as goal

pub loop-action-preserved : goal.loop-action-preserved
loop-action-preserved c =
    behind_lines c.args.task.now (string_bytes c.args.text.now) (string_bytes c.loop-action.text) (string_bytes c.push_numbered.new.text) c.loop-action.action
    c.loop-action.invariant c.in_ok-push_numbered.ensures
