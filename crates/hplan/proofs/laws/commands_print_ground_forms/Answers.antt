use Rattle.hplan.proofs.StepTexts.{step_of-text}
use Rattle.hplan.proofs.laws.commands_print_ground_forms.Goals as goal

pub returns : goal.returns
returns c = record { form = step_of-text }
