use Rattle.std.proofs.Common.{string_bytes, subst, ◌∙◌}
use Rattle.std.specs.Prelude.{IfOk, IfSome, IfNone}
use Rattle.hd_explain.specs.Plans.{TellsReason, NeedsNoReason}
use Rattle.hd_explain.proofs.plan.explain_by.Goals as goal

pub returns-clause-told : goal.returns-clause-told
returns-clause-told c =
    subst (λ t. IfOk c.explain_in-line.result (λ l. IfSome l (λ line. TellsReason t c.args.steps.now (string_bytes line)))) (c.in_ok-lookups.ensures ∙ c.task.ensures.task)
    c.explain_in-line.ensures.told

pub returns-clause-none : goal.returns-clause-none
returns-clause-none c =
    subst (λ t. IfOk c.explain_in-line.result (λ l. IfNone l (NeedsNoReason t c.args.steps.now))) (c.in_ok-lookups.ensures ∙ c.task.ensures.task)
    c.explain_in-line.ensures.none
