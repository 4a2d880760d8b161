use Rattle.hd_grounding.proofs.Making.{IsGrounding-from_parts}
use Rattle.hd_grounding.proofs.fitting_laws.grounded_parts_are_a_grounding.Goals as goal

pub returns : goal.returns
returns c = IsGrounding-from_parts
