-- Parcels whose states stand at places.
use Rattle.std.proofs.Common.{◌≡◌, ℕ, Some, List, [], ◌∷◌, ◌++◌, length, drop, slice_get, sym, ap, ◌∙◌, subst, append-nil}
use Rattle.std.proofs.lemmas.Option.{none-some, same_Some}
use Rattle.hd_task.specs.declared.state.State.{State}
use Rattle.hd_node.specs.Parcel.{ParcelView}
use Rattle.hd_base.specs.Lists.{BeginsWith}
use Rattle.hd_worker.specs.Nodes.{AreMet}
use Rattle.hd_worker.proofs.Settled.{state_stays}

-- they stand there among more states too
pub met_stays : (states states' : List State) (fresh : List ParcelView) (places : List ℕ) → BeginsWith states' states → AreMet states fresh places → AreMet states' fresh places
met_stays states states' fresh [] begins met = tt
met_stays states states' [] (place ∷ places) begins met = absurd met
met_stays states states' (p ∷ fresh) (place ∷ places) begins met = (state_stays states states' place p.state begins met.0, met_stays states states' fresh places begins met.1)

-- the next one stands there too
pub met_push :
    (states : List State) (fresh : List ParcelView) (places : List ℕ) (p : ParcelView) (place : ℕ) → AreMet states fresh places → slice_get fresh (length places) ≡ Some p
    → slice_get states place ≡ Some p.state → AreMet states fresh (places ++ place ∷ [])
met_push states [] [] p place met at there = absurd (none-some p at)
met_push states [] (k ∷ places) p place met at there = absurd met
met_push states (q ∷ fresh) [] p place met at there = (there ∙ ap (λ (r : ParcelView). Some r.state) (sym (same_Some q p at)), tt)
met_push states (q ∷ fresh) (k ∷ places) p place met at there = (met.0, met_push states fresh places p place met.1 at there)

rest_met : (states : List State) (fresh : List ParcelView) (after : List ℕ) (place : ℕ) → AreMet states fresh (place ∷ after) → AreMet states (drop 1 fresh) after
rest_met states [] after place met = absurd met
rest_met states (q ∷ fresh) after place met = met.1

tail_met : (states : List State) (fresh : List ParcelView) (places : List ℕ) → AreMet states fresh places → AreMet states (drop 1 fresh) (drop 1 places)
tail_met states fresh [] met = tt
tail_met states fresh (k ∷ places) met = rest_met states fresh places k met

-- and the others at the others
pub met_tail : (states : List State) (fresh fresh' : List ParcelView) (places : List ℕ) → AreMet states fresh places → fresh' ≡ drop 1 fresh → AreMet states fresh' (drop 1 places)
met_tail states fresh fresh' places met rest = subst (λ (ps : List ParcelView). AreMet states ps (drop 1 places)) (sym rest) (tail_met states fresh places met)

-- the same states begin with themselves
pub begins_same : (a b : List State) → a ≡ b → BeginsWith a b
begins_same a b same = ([], same ∙ sym (append-nil b))
