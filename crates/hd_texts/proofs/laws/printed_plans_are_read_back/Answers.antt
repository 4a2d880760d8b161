use Rattle.hd_task.specs.Plans.{start}
use Rattle.std.proofs.Common.{Some}
use Rattle.hd_plan.proofs.Written.{plan_text_reads}
use Rattle.hd_grounding.proofs.Runs.{all_named}
use Rattle.hd_texts.specs.Printing.{steps_of}
use Rattle.hd_texts.proofs.Named.{lower_steps}
use Rattle.hd_texts.proofs.laws.printed_plans_are_read_back.Goals as goal

pub returns : goal.returns
returns c t u p cost made names valid small =
    plan_text_reads (steps_of u p) cost small (lower_steps t u made names p (all_named t u made p (Some (start u)) valid.end valid.executes))
