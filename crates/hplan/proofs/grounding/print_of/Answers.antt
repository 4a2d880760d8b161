use Rattle.hplan.specs.Printing.{InTexts}
use Rattle.hplan.proofs.Writing.{untouched}
use Rattle.hplan.proofs.grounding.print_of.Goals as goal

pub returns-in-Err-clause-refusal : goal.returns-in-Err-clause-refusal
returns-in-Err-clause-refusal c = λ bytes noted. rw c.from.ensures (InTexts (untouched bytes noted) c.in-Err.fault c.in-Err.ensures.refusal)
