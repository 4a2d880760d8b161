-- What `==` and hashes of packed states owe: to be the same packing is an equivalence, and the same
-- ones are hashed alike. (Our own.)
use Rattle.std.specs.Prelude.{◌≡◌, true, length, nat_eq}
use Rattle.std.specs.Cmp.{IsEquivalence}
use Rattle.std.specs.Hash as fed
use Rattle.std.specs.Hash.{second_alike, on_Alike, items_Alike, same_Alike}
use Rattle.std.proofs.lemmas.Cmp.{nat_list_eq_equiv, nat_eq_equiv, on_equiv, and_equiv}
use Rattle.std.proofs.lemmas.Bool.Decides.{Decides-eqb}
use Rattle.hd_task.specs.declared.state.State.{State}
use Rattle.hd_pack.specs.Packing.{same_packing, packed_bytes}

pub same_equiv : IsEquivalence same_packing
unfolding same_packing
same_equiv = and_equiv (on_equiv (λ (s : State). length s.atoms) nat_eq_equiv) (on_equiv packed_bytes nat_list_eq_equiv)

pub same_alike : (s t : State) → same_packing s t ≡ true → fed.slice fed.u8 (packed_bytes s) ≡ fed.slice fed.u8 (packed_bytes t)
unfolding same_packing
same_alike = (second_alike (λ (s t : State). nat_eq (length s.atoms) (length t.atoms)) (on_Alike packed_bytes (items_Alike (same_Alike fed.u8 Decides-eqb)))).fed
