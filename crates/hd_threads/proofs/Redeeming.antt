-- What a ticket was redeemed for.
use Rattle.std.proofs.Common.{◌≡◌, Bool, true, false, cond, ◌||◌, Option, Some, None, List, refl, sym, ap, subst, ◌∙◌}
use Rattle.std.specs.Prelude.{Result, Ok, Err, IfOk, OnOk, OnErr}
use Rattle.std.proofs.lemmas.Option.{same_Some}
use Rattle.hd_task.specs.declared.task.Task.{Task}
use Rattle.hd_task.specs.declared.plan.Kid.{Kid}
use Rattle.hd_book.specs.declared.not_out.NotOut.{NotOut}
use Rattle.hd_book.specs.declared.outgoing.Outgoing.{Outgoing}
use Rattle.hd_book.specs.declared.redeemed.Redeemed.{Redeemed}
use Rattle.hd_book.specs.declared.redeemed.Redeemed.TheVariants as redeemed
use Rattle.hd_book.specs.Batches.{TicketView, ReceiptView, Batches, is_its}
use Rattle.hd_book.specs.Queue.{are_acknowledged}
use Rattle.hd_book.specs.Releasing.{released_in}
use Rattle.hd_book.specs.TicketRedeeming.{given_for, answer_for, redeemed_for}
use Rattle.hd_book.specs.Slots.{ticket_at}
use Rattle.hd_book.specs.TicketSteps as tickets
use Rattle.hd_book.proofs.Redeeming.{comes_back}
use Rattle.hd_entries.specs.Releasing.{ParcelsView}
use Rattle.hd_book.specs.View.{BookView}
use Rattle.hd_book.specs.Steps.{after_redeem, after_halt}
use Rattle.hd_threads.specs.declared.shared.Given.{Given}
use Rattle.hd_threads.specs.declared.shared.Given.TheVariants.{Parcels, NotYet, Void}
use Rattle.hd_threads.specs.Shared.{given_by, IsGivenBy, IsGivenFrom, IsGivenIn}

-- ---- a receipt is of entries that are acknowledged

redeemed_queue : (k : TicketView) (b : Batches ParcelsView) → (tickets.redeemed k b).queue ≡ b.queue
redeemed_queue k b =
    elim (are_acknowledged b.queue k.first k.end || b.halted) as (λ y. (cond {A = Batches ParcelsView} y (tickets.without k.number b) b).queue ≡ b.queue) [
      | true ↦ refl
      | false ↦ refl
    ]

given_receipt : (b : Batches ParcelsView) (k : TicketView) (parcels released : ParcelsView) (receipt : ReceiptView) (acknowledged halted : Bool)
    → are_acknowledged b.queue k.first k.end ≡ acknowledged
    → cond {A = Redeemed ParcelsView} acknowledged (redeemed.Released (record { first = k.first; end = k.end }) released) (cond halted redeemed.Void (redeemed.NotYet k)) ≡ redeemed.Released receipt parcels
    → are_acknowledged b.queue receipt.first receipt.end ≡ true
given_receipt b k parcels released receipt true halted is e =
    let same : record { first = k.first; end = k.end } ≡ receipt = cc in
    ap (λ (r : ReceiptView). are_acknowledged b.queue r.first r.end) (sym same) ∙ is
given_receipt b k parcels released receipt false true is e = absurd (cc)
given_receipt b k parcels released receipt false false is e = absurd (cc)

answer_receipt : (b : Batches ParcelsView) (k : TicketView) (parcels : ParcelsView) (receipt : ReceiptView) (slot : Option (Outgoing ParcelsView))
    → answer_for b k slot ≡ Ok (redeemed.Released receipt parcels) → are_acknowledged b.queue receipt.first receipt.end ≡ true
answer_receipt b k parcels receipt None e = absurd (cc)
answer_receipt b k parcels receipt (Some o) e =
    elim (is_its k (Some o)) as (λ y. cond {A = Result (Redeemed ParcelsView) NotOut} y (Ok (given_for b k o.released)) (Err (record {})) ≡ Ok (redeemed.Released receipt parcels) → are_acknowledged b.queue receipt.first receipt.end ≡ true) [
      | true ↦ λ e.
          given_receipt b k parcels o.released receipt (are_acknowledged b.queue k.first k.end) b.halted refl (let same : given_for b k o.released ≡ redeemed.Released receipt parcels = cc in same)
      | false ↦ λ e. absurd (cc)
    ] e

-- the receipt of a ticket that was redeemed can be presented
pub receipt_acknowledged : (b : Batches ParcelsView) (k : TicketView) (parcels : ParcelsView) (receipt : ReceiptView)
    → redeemed_for b k ≡ Ok (redeemed.Released receipt parcels) → are_acknowledged (tickets.redeemed k b).queue receipt.first receipt.end ≡ true
receipt_acknowledged b k parcels receipt e =
    ap (λ q. are_acknowledged q receipt.first receipt.end) (redeemed_queue k b) ∙ answer_receipt b k parcels receipt (ticket_at b.tickets k.number) e

-- ---- a ticket that comes back is the same

by_again : (k again : TicketView) (b : Batches ParcelsView) (a : Result (Redeemed ParcelsView) NotOut) → redeemed_for b k ≡ a → Ok (NotYet again) ≡ given_by a → again ≡ k
by_again k again b (Ok (redeemed.Released receipt parcels)) is e = absurd (cc)
by_again k again b (Ok (redeemed.NotYet ticket)) is e =
    let same : again ≡ ticket = cc in
    same ∙ (comes_back b k ticket is).0
by_again k again b (Ok redeemed.Void) is e = absurd (cc)
by_again k again b (Err error) is e = absurd (cc)

-- to redeem a ticket changes no entry
redeemed_entries : (k : TicketView) (b b' : BookView) (r : Result Given NotOut) → OnOk r (b' ≡ after_redeem k b) → OnErr r (b' ≡ after_halt b) → b'.state.entries ≡ b.state.entries
redeemed_entries k b b' (Ok given) ok err = ap (λ (x : BookView). x.state.entries) ok
redeemed_entries k b b' (Err error) ok err = ap (λ (x : BookView). x.state.entries) err

given_before : (task : Option Task) (log : List Kid) (k : TicketView) (b : BookView) (r : Result Given NotOut)
    → task ≡ Some b.state.task → log ≡ b.state.entries → r ≡ given_by (redeemed_for b.batches k) → IfOk r (IsGivenFrom b.state.task log k) → IfOk r (IsGivenIn task log k)
given_before task log k b (Ok (Parcels parcels)) of_task has is from = record { book = b; of_task = of_task; has = has; is = is; released = from }
given_before task log k b (Ok (NotYet again)) of_task has is from = by_again k again b.batches (redeemed_for b.batches k) refl is
given_before task log k b (Ok Void) of_task has is from = record { book = b; of_task = of_task; has = has; is = is; released = from }
given_before task log k b (Err error) of_task has is from = tt

-- what a book of this task gives, with the log that it has afterwards
pub given_in : (task : Option Task) (log : List Kid) (k : TicketView) (b b' : BookView) (r : Result Given NotOut)
    → task ≡ Some b.state.task → log ≡ b'.state.entries → r ≡ given_by (redeemed_for b.batches k) → IfOk r (IsGivenFrom b.state.task b.state.entries k)
    → OnOk r (b' ≡ after_redeem k b) → OnErr r (b' ≡ after_halt b) → IfOk r (IsGivenIn task log k)
given_in task log k b b' r of_task has is from ok err =
    let same = has ∙ redeemed_entries k b b' r ok err in
    given_before task log k b r of_task same is (subst (λ (l : List Kid). IfOk r (IsGivenFrom b.state.task l k)) (sym same) from)

asked_before : (task : Option Task) (log : List Kid) (k : TicketView) (b : BookView) (r : Result Given NotOut)
    → task ≡ Some b.state.task → log ≡ b.state.entries → r ≡ given_by (redeemed_for b.batches k) → IfOk r (IsGivenFrom b.state.task log k) → IfOk r (IsGivenBy task log k)
asked_before task log k b (Ok given) of_task has is from = record { book = b; of_task = of_task; has = has; is = is; released = from }
asked_before task log k b (Err error) of_task has is from = tt

-- the same of a ticket that the book was asked for
pub asked_in : (task : Option Task) (log : List Kid) (k : TicketView) (b b' : BookView) (r : Result Given NotOut)
    → task ≡ Some b.state.task → log ≡ b'.state.entries → r ≡ given_by (redeemed_for b.batches k) → IfOk r (IsGivenFrom b.state.task b.state.entries k)
    → OnOk r (b' ≡ after_redeem k b) → OnErr r (b' ≡ after_halt b) → IfOk r (IsGivenBy task log k)
asked_in task log k b b' r of_task has is from ok err =
    let same = has ∙ redeemed_entries k b b' r ok err in
    asked_before task log k b r of_task same is (subst (λ (l : List Kid). IfOk r (IsGivenFrom b.state.task l k)) (sym same) from)

-- what a task's book gave is what the entries of the ticket release
pub given_released : (t : Task) (log : List Kid) (k : TicketView) (parcels : ParcelsView) → IsGivenBy (Some t) log k (Parcels parcels) → parcels ≡ released_in t log k.first k.end
given_released t log k parcels x = x.released ∙ ap (λ (u : Task). released_in u log k.first k.end) (sym (same_Some t x.book.state.task x.of_task))
