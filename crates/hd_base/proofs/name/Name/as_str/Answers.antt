use Rattle.std.proofs.Common.{subst}
use Rattle.std.proofs.lemmas.Str.{IsUtf8-had}
use Rattle.hd_base.specs.Spelling.{IsText}
use Rattle.hd_base.proofs.name.Name.as_str.Goals as goal

-- the bytes in a name are a text
pub unreachable-requires : goal.unreachable-requires
unreachable-requires c =
    let text = subst IsText c.in-Inside.is c.self.invariant in
    c.in_default.ensures.cases.0 (IsUtf8-had _ text.1)
