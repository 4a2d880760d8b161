-- What a ticket is redeemed for.
use Rattle.std.proofs.Common.{◌≡◌, Bool, true, false, cond, ◌||◌, Option, Some, None, refl}
use Rattle.std.specs.Prelude.{Result, Ok, Err}
use Rattle.hd_book.specs.declared.not_out.NotOut.{NotOut}
use Rattle.hd_book.specs.declared.outgoing.Outgoing.{Outgoing}
use Rattle.hd_book.specs.declared.redeemed.Redeemed.{Redeemed}
use Rattle.hd_book.specs.declared.redeemed.Redeemed.TheVariants as given
use Rattle.hd_book.specs.Batches.{TicketView, Batches, is_its}
use Rattle.hd_book.specs.Queue.{are_acknowledged}
use Rattle.hd_book.specs.TicketRedeeming.{given_for, answer_for, redeemed_for}
use Rattle.hd_book.specs.Slots.{ticket_at}
use Rattle.hd_book.specs.TicketSteps.{without, redeemed}

-- a ticket that comes back is the same, and the batches are as they were
abbrev pub IsAgain : {R : Type 0} → Batches R → TicketView → TicketView → Type 0
IsAgain b k again = (again ≡ k) × (redeemed k b ≡ b)

given_again : {R : Type 0} (b : Batches R) (k again : TicketView) (released : R) (acknowledged halted : Bool)
    → cond {A = Redeemed R} acknowledged (given.Released (record { first = k.first; end = k.end }) released) (cond halted given.Void (given.NotYet k)) ≡ given.NotYet again
    → (again ≡ k) × (cond (acknowledged || halted) (without k.number b) b ≡ b)
given_again b k again released true halted e = absurd (cc)
given_again b k again released false true e = absurd (cc)
given_again b k again released false false e = (cc, refl)

answer_again : {R : Type 0} (b : Batches R) (k again : TicketView) (slot : Option (Outgoing R)) → answer_for b k slot ≡ Ok (given.NotYet again) → IsAgain b k again
answer_again b k again None e = absurd (cc)
answer_again {R} b k again (Some o) e =
    elim (is_its k (Some o)) as (λ y. cond {A = Result (Redeemed R) NotOut} y (Ok (given_for b k o.released)) (Err (record {})) ≡ Ok (given.NotYet again) → IsAgain b k again) [
      | true ↦ λ e.
          given_again b k again o.released (are_acknowledged b.queue k.first k.end) b.halted (let same : given_for b k o.released ≡ given.NotYet again = cc in same)
      | false ↦ λ e. absurd (cc)
    ] e

pub comes_back : {R : Type 0} (b : Batches R) (k again : TicketView) → redeemed_for b k ≡ Ok (given.NotYet again) → IsAgain b k again
comes_back b k again e = answer_again b k again (ticket_at b.tickets k.number) e
