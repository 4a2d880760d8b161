use Rattle.hd_grounding.proofs.Holding.{condition_agrees}
use Rattle.hd_grounding.proofs.laws.conditions_are_grounded.Goals as goal

pub returns : goal.returns
returns c atoms fluents objects condition s n agree numbered = condition_agrees atoms fluents s n agree objects condition numbered
