use Rattle.hd_grounding.proofs.Paying.{costs_agree}
use Rattle.hd_grounding.proofs.laws.costs_are_grounded.Goals as goal

pub returns : goal.returns
returns c t atoms fluents objects a s n agree first read = costs_agree t atoms fluents s n agree first objects a read
