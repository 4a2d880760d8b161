use Rattle.std.proofs.Common.{refl, arith}
use Rattle.hd_pack.proofs.Packings.{state_of}
use Rattle.hd_tables.proofs.Packed.{parts_empty, whole_of}
use Rattle.hd_tables.proofs.draft.Draft.empty.Goals as goal

pub invariant_of-result : goal.invariant_of-result
invariant_of-result c = whole_of _ _ _ _ (parts_empty _ c.new.ensures.items) refl (omega arith) (omega arith)

pub returns : goal.returns
returns c = state_of _ _ _ (parts_empty _ c.new.ensures.items)
