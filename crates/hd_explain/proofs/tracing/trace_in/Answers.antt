use Rattle.std.proofs.Common.{string_bytes, subst, ap, ◌∙◌}
use Rattle.std.specs.Prelude.{IfOk}
use Rattle.hd_lifted.specs.Steps.{Reached, start}
use Rattle.hd_explain.specs.Traces.{TracesFrom}
use Rattle.hd_explain.proofs.tracing.trace_in.Goals as goal

pub returns : goal.returns
returns c =
    subst (λ (r : Reached). IfOk c.trace_from-text.result (λ text. TracesFrom c.args.lookups.now r 1 c.args.steps.now (string_bytes text)))
    (c.in_ok-place.ensures.start ∙ ap start c.task.ensures) c.trace_from-text.ensures
