use Rattle.hd_plan.proofs.Written.{plan_text_reads}
use Rattle.hd_plan.proofs.law.what_is_written_is_read_back.Goals as goal

pub returns : goal.returns
returns c = record { read_back = plan_text_reads }
