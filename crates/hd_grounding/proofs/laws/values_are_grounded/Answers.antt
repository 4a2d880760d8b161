use Rattle.hd_grounding.proofs.Writing.{value_after_agrees}
use Rattle.hd_grounding.proofs.laws.values_are_grounded.Goals as goal

pub returns : goal.returns
returns c atoms fluents objects a s n g z agree read none start = value_after_agrees atoms fluents s n agree objects g a z read none start
