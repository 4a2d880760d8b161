use Rattle.std.proofs.Common.{sym, ◌∙◌, string_bytes}
use Rattle.hplan.specs.Reasons.{InTexts}
use Rattle.hplan.proofs.TextReasons.{told_of, none_of}
use Rattle.hplan.proofs.reasons.explain.Goals as goal

pub returns-in-Ok-clause-told : goal.returns-in-Ok-clause-told
returns-in-Ok-clause-told c =
    told_of string_bytes c.args.domain.now c.args.problem.now c.args.plan.now c.in-Ok.checked c.in-Ok.ensures.found
    c.reason_in-reason.result c.reason_in-reason.ensures.told

pub returns-in-Ok-clause-none : goal.returns-in-Ok-clause-none
returns-in-Ok-clause-none c =
    none_of c.args.domain.now c.args.problem.now c.args.plan.now c.in-Ok.checked c.in-Ok.ensures.found
    c.reason_in-reason.result c.reason_in-reason.ensures.none

pub returns-then-stands-clause-none : goal.returns-then-stands-clause-none
returns-then-stands-clause-none c =
    InTexts c.in-Err.fault c.in-Err.ensures.refusal (sym c.is_in_texts-stands.ensures ∙ c.if-stands.true)
