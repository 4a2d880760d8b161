-- What a redemption, a pull and an acknowledgement leave as it was.
use Rattle.std.proofs.Common.{◌≡◌, ℕ, Bool, true, false, cond, Option, Some, None, List, [], ◌∷◌, refl}
use Rattle.std.specs.Prelude.{Result, Ok, Err}
use Rattle.hd_book.specs.declared.not_out.NotOut.{NotOut}
use Rattle.hd_book.specs.declared.redeemed.Redeemed.{Redeemed}
use Rattle.hd_book.specs.declared.redeemed.Redeemed.TheVariants as given
use Rattle.hd_book.specs.Batches.{TicketView}
use Rattle.hd_book.specs.TicketRedeeming.{redeemed_for}
use Rattle.hd_journal.specs.Group.{GroupView}
use Rattle.hd_entries.specs.Releasing.{ParcelsView}
use Rattle.hd_book.specs.Groups.{is_group_out}
use Rattle.hd_book.specs.Steps.{after_flush}
use Rattle.hd_world.specs.Seats.{Seat, Run}
use Rattle.hd_world.specs.Moves.{redeemed_by, redeemed_of, ticket_redeemed, pulled_to, acked_of}

module _ (r : Run) where
  redeem_by : (k : ℕ) (s : Seat) (ticket : TicketView) (rest : List TicketView) (a : Result (Redeemed ParcelsView) NotOut) → (redeemed_by k r s ticket rest a).book.state ≡ r.book.state
  redeem_by k s ticket rest (Ok (given.Released receipt parcels)) = refl
  redeem_by k s ticket rest (Ok (given.NotYet again)) = refl
  redeem_by k s ticket rest (Ok given.Void) = refl
  redeem_by k s ticket rest (Err error) = refl

  redeem_of : (k : ℕ) (s : Seat) (held : List TicketView) → (redeemed_of k r s held).book.state ≡ r.book.state
  redeem_of k s [] = refl
  redeem_of k s (ticket ∷ rest) = redeem_by k s ticket rest (redeemed_for r.book.batches ticket)

  pub redeem_state : (k : ℕ) (os : Option Seat) → (ticket_redeemed k r os).book.state ≡ r.book.state
  redeem_state k None = refl
  redeem_state k (Some s) = redeem_of k s s.tickets

  pub pull_state : (g : Option GroupView) → (pulled_to r g).book.state ≡ r.book.state
  pull_state None = refl
  pull_state (Some g) = refl

  ack_by : (out : Bool) → (cond {A = Run} out (record r { book = after_flush r.book; flushed = None }) (record r { flushed = None })).book.state ≡ r.book.state
  ack_by true = refl
  ack_by false = refl

  pub ack_state : (g : Option GroupView) → (acked_of r g).book.state ≡ r.book.state
  ack_state None = refl
  ack_state (Some g) = ack_by (is_group_out r.book g)
