use Rattle.std.proofs.Common.{subst}
use Rattle.hd_base.specs.Spelling.{IsText}
use Rattle.hd_base.proofs.name.Name.copied.Goals as goal

-- the bytes stay a text
pub invariant_of-result : goal.invariant_of-result
invariant_of-result c = subst IsText c.in-Inside.is c.self.invariant
