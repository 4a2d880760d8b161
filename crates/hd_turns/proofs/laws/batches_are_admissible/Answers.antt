use Rattle.hd_turns.proofs.Turning.{admissible}
use Rattle.hd_turns.proofs.laws.batches_are_admissible.Goals as goal

pub returns : goal.returns
returns c = λ b w x. admissible b w x
