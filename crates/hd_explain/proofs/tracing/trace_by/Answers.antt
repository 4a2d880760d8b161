use Rattle.std.proofs.Common.{string_bytes, subst, ◌∙◌}
use Rattle.std.specs.Prelude.{IfOk}
use Rattle.hd_lifted.specs.declared.task.LiftedTask.{LiftedTask}
use Rattle.hd_explain.specs.Traces.{IsTrace}
use Rattle.hd_explain.proofs.tracing.trace_by.Goals as goal

pub returns : goal.returns
returns c =
    subst (λ (t : LiftedTask). IfOk c.trace_in-text.result (λ text. IsTrace t c.args.steps.now (string_bytes text))) (c.in_ok-lookups.ensures ∙ c.task.ensures.task)
    c.trace_in-text.ensures
