-- When two packed states with their hashes are the same, and that same ones are hashed alike. (Our
-- own.)
use Rattle.std.specs.Prelude.{◌≡◌, Bool, true, nat_eq, ◌&&◌}
use Rattle.std.specs.Cmp.{IsEquivalence}
use Rattle.std.specs.Hash as fed
use Rattle.std.proofs.Common.{ap}
use Rattle.std.proofs.lemmas.Cmp.{nat_eq_equiv, on_equiv, and_equiv}
use Rattle.std.proofs.lemmas.Bool.{and_parts, eqb-true}
use Rattle.hd_task.specs.declared.state.State.{State}
use Rattle.hd_zobrist.specs.Hash.{state_hash}
use Rattle.hd_pack.specs.Packing.{same_packing}
use Rattle.hd_pack.specs.Laws as packed

-- two states have the same hash, and then the same packing
unfoldable pub same_hashed : State → State → Bool
same_hashed s t = nat_eq (state_hash s) (state_hash t) && same_packing s t

pub same_equiv : IsEquivalence same_hashed
unfolding same_hashed
same_equiv = and_equiv (on_equiv state_hash nat_eq_equiv) packed.same_equiv

pub same_alike : (s t : State) → same_hashed s t ≡ true → fed.u64 (state_hash s) ≡ fed.u64 (state_hash t)
unfolding same_hashed
same_alike s t same = ap fed.u64 (eqb-true (state_hash s) (state_hash t) (and_parts (nat_eq (state_hash s) (state_hash t)) (same_packing s t) same).0)
