use Rattle.std.proofs.Common.{◌++◌, append_assoc, ap, ◌∙◌, string_bytes}
use Rattle.std.specs.Prelude.{codes, decimal}
use Rattle.hplan.specs.TaskText.{departing_text}
use Rattle.hplan.proofs.text.push_departed.Goals as goal

pub returns : goal.returns
returns c =
    let text = string_bytes c.args.text.now in
    let by = departing_text c.args.task.now c.args.departure.by in
    let lead = codes "range left: entry " ++ (decimal c.args.departure.entry ++ codes ", ") in
    c.in_ok-push_departing.ensures
    ∙ (ap (λ xs. xs ++ by) (c.in_ok-push_str.ensures.bytes ∙ ap (λ ys. text ++ ys) (c.as_str.ensures.value ∙ c.in_ok-lead.ensures.ok))
    ∙ append_assoc text lead by)
