use Rattle.std.proofs.Common.{subst}
use Rattle.std.specs.Prelude.{IfOk, IfSome, IfNone, string_bytes}
use Rattle.hd_explain.specs.Plans.{TellsReason, NeedsNoReason}
use Rattle.hplan.proofs.TextReasons.{told_in, none_in, unread_in}
use Rattle.hplan.proofs.reasons.reason_in.Goals as goal

pub returns-in-Ok-clause-told : goal.returns-in-Ok-clause-told
returns-in-Ok-clause-told c =
    told_in string_bytes c.args.checked.now c.args.plan.now c.in-Ok.steps c.in-Ok.ensures.answer c.explain-reason.result
    (subst (λ s. IfOk c.explain-reason.result (λ x. IfSome x (λ line. TellsReason c.args.checked.now s (string_bytes line)))) c.as_slice.ensures c.explain-reason.ensures.told)

pub returns-in-Ok-clause-none : goal.returns-in-Ok-clause-none
returns-in-Ok-clause-none c =
    none_in c.args.checked.now c.args.plan.now c.in-Ok.steps c.in-Ok.ensures.answer c.explain-reason.result
    (subst (λ s. IfOk c.explain-reason.result (λ x. IfNone x (NeedsNoReason c.args.checked.now s))) c.as_slice.ensures c.explain-reason.ensures.none)

pub returns-in-Err-BadLine-clause-none : goal.returns-in-Err-BadLine-clause-none
returns-in-Err-BadLine-clause-none c =
    unread_in c.args.checked.now c.args.plan.now c.in-Err-BadLine.field-0 c.in-Err-BadLine.field-0-0 c.in-Err-BadLine.field-0-is
    c.in-Err-BadLine.ensures.refusal
