use Rattle.std.proofs.Common.{All, sym, subst}
use Rattle.hd_plan.specs.Text.{IsStep}
use Rattle.hd_plan.proofs.Lowered.{reads_names}
use Rattle.hd_plan.proofs.read.read_plan.Goals as goal

pub returns-in-Ok-clause-names : goal.returns-in-Ok-clause-names
returns-in-Ok-clause-names c = subst (All IsStep) (sym c.from_vec.ensures) (reads_names c.in-Ok.ensures.answer)
