-- What a run holds stays true as the entries of its book grow.
use Rattle.std.proofs.Common.{Option, Some, None, List}
use Rattle.std.specs.List.{AllByRecursion}
use Rattle.hd_entries.specs.Settling.{BookState}
use Rattle.hd_entries.specs.Holding.{Released}
use Rattle.hd_book.specs.declared.outgoing.Outgoing.{Outgoing}
use Rattle.hd_entries.specs.Releasing.{ParcelsView}
use Rattle.hd_turns.specs.Growth.{Grows}
use Rattle.hd_turns.specs.Truth.{IsTrueParcel}
use Rattle.hd_turns.proofs.Growing.{true_stays, all_true_stay, seen_stays, worker_stays}
use Rattle.hd_world.specs.Seats.{Seat}
use Rattle.hd_world.specs.Truth.{IfTrueOf, IsTrueOut, IsTrueSeat}

module _ (b b' : BookState) (g : Grows b b') where
  pub hand_stays : (hand : Option Released) → IfTrueOf b hand → IfTrueOf b' hand
  hand_stays None x = tt
  hand_stays (Some p) x = true_stays b b' g p x

  pub seat_stays : (s : Seat) → IsTrueSeat b s → IsTrueSeat b' s
  seat_stays s x = record {
    worker = worker_stays b b' g s.worker x.worker;
    hand = hand_stays s.hand x.hand;
    told = seen_stays b b' g s.told x.told;
  }

  pub box_stays : (box : List Released) → AllByRecursion (IsTrueParcel b) box → AllByRecursion (IsTrueParcel b') box
  box_stays box x = all_true_stay b b' g box x

  pub out_stays : (o : Option (Outgoing ParcelsView)) → IsTrueOut b o → IsTrueOut b' o
  out_stays None x = tt
  out_stays (Some o) x = box_stays o.released.kids x
