use Rattle.std.proofs.Common.{◌≡◌, ℕ, List, string_bytes, subst, sym, ap, ◌∙◌}
use Rattle.std.specs.Prelude.{IfOk}
use Rattle.hd_judge.specs.Tables.{reached_in}
use Rattle.hd_explain.specs.Texts.{text_of}
use Rattle.hd_explain.specs.Plans.{objects_of}
use Rattle.hd_explain.proofs.plan.line_of.Goals as goal

pub returns-in-Some : goal.returns-in-Some
returns-in-Some c =
    let t = c.args.lookups.now in
    let r = reached_in c.args.place.now in
    let reason = c.args.told.now.reason in
    subst (λ (os : List ℕ). IfOk c.text_of.result (λ line. string_bytes line ≡ text_of t r os reason))
    (c.as_slice-objects.ensures ∙ sym (ap objects_of c.in-Some.is))
    (subst (λ u. IfOk c.text_of.result (λ line. string_bytes line ≡ text_of u r c.as_slice-objects.result.now reason)) c.task-task.ensures c.text_of.ensures)

pub returns-in-None : goal.returns-in-None
returns-in-None c =
    let t = c.args.lookups.now in
    let r = reached_in c.args.place.now in
    let reason = c.args.told.now.reason in
    subst (λ (os : List ℕ). IfOk c.text_of-in-None.result (λ line. string_bytes line ≡ text_of t r os reason))
    (c.as_slice.ensures ∙ sym (ap objects_of c.in-None.is))
    (subst (λ u. IfOk c.text_of-in-None.result (λ line. string_bytes line ≡ text_of u r c.as_slice.result.now reason)) c.task-task.ensures c.text_of-in-None.ensures)
