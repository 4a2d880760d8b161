-- In a sound run no batch is refused for what it says, and no ticket and no group is refused.
use Rattle.std.proofs.Common.{◌≡◌, ◌⊎◌, inl, inr, ℕ, Bool, true, false, cond, not, Option, Some, None, List, [], slice_get, take, refl, sym, ap, ap₂, ◌∙◌, subst}
use Rattle.std.specs.Prelude.{option_map}
use Rattle.hd_base.proofs.Lists.{AllByRecursion-slice_get}
use Rattle.hd_task.specs.declared.task.Task.{Task}
use Rattle.hd_node.specs.declared.batch.Outcome.{Outcome}
use Rattle.hd_entries.specs.declared.refusal.Refusal.{Refusal}
use Rattle.hd_entries.specs.declared.refusal.Refusal.TheVariants.{Full}
use Rattle.hd_entries.specs.Settling.{first_refusal}
use Rattle.hd_entries.specs.Refusing as entries
use Rattle.hd_journal.specs.Group.{GroupView}
use Rattle.hd_book.specs.declared.refusal.CommitRefusal.{CommitRefusal}
use Rattle.hd_book.specs.declared.refusal.CommitRefusal.TheVariants.{Halted, Refused}
use Rattle.hd_book.specs.View.{BookView, entries_view}
use Rattle.hd_book.specs.Refusing.{commit_refusal_to}
use Rattle.hd_turns.specs.Calls.{batch_of}
use Rattle.hd_world.specs.Seats.{Seat, Run}
use Rattle.hd_world.specs.Stops.{File, journal_entries}
use Rattle.hd_world.specs.Order.{AreOut, StandsInJournal, NoneIsOut, IsPulled, IsAppended}
use Rattle.hd_world.specs.Sound.{IsSound}
use Rattle.hd_world.specs.Headline.{IfOut, IfNext, IsAdmissibleSeat, written_count, AllIsAdmissible}
use Rattle.hd_world.proofs.Lists.{AllByRecursion-from_slice_get}
use Rattle.hd_world.proofs.Going.{batch_free}
use Rattle.hd_world.proofs.Sounding.{group_ready, pulled_out, flushed_out}

-- what is left of the refusals
left_by : (room : Bool) → (option_map Refused (cond (not room) (Some Full) None) ≡ None) ⊎ (option_map Refused (cond (not room) (Some Full) None) ≡ Some (Refused Full))
left_by true = inl refl
left_by false = inr refl

left_of : (b : BookView) (batch : List Outcome) → b.batches.halted ≡ false → first_refusal b.state [] batch ≡ None
    → (commit_refusal_to b batch ≡ None) ⊎ (commit_refusal_to b batch ≡ Some (Refused Full))
left_of b batch running free =
    let room = entries.has_room (entries_view b) batch in
    let same : commit_refusal_to b batch ≡ option_map Refused (cond (not room) (Some Full) None) =
    ap₂ (λ (h : Bool) (o : Option Refusal). cond {A = Option CommitRefusal} h (Some Halted) (option_map Refused (cond (not room) (Some Full) o))) running free
    in
    subst (λ (o : Option CommitRefusal). (o ≡ None) ⊎ (o ≡ Some (Refused Full))) (sym same) (left_by room)

module _ (t : Task) (f : File) (r : Run) (x : IsSound t f r) where
  seat_admissible : (k : ℕ) (s : Seat) → slice_get r.seats k ≡ Some s → IsAdmissibleSeat r s
  seat_admissible k s e = record {
    batch = left_of r.book (batch_of s.worker) x.order.running (batch_free t r x.truth x.once k s e);
    tickets = AllByRecursion-slice_get (AreOut r.book) r.seats k s x.tickets.out e;
  }

  group_next : (g : Option GroupView) → r.group ≡ g → IfNext f g
  group_next None e = tt
  group_next (Some g) e = (group_ready t f r x g e).next

  pulled_is_out : (g : Option GroupView) → r.group ≡ g → IfOut r g
  pulled_is_out None e = tt
  pulled_is_out (Some g) e = pulled_out t f r x g e

  group_out : (g : Option GroupView) → r.flushed ≡ g → IfOut r g
  group_out None e = tt
  group_out (Some g) e = flushed_out t f r x g e

  -- what stands in the journal
  stands_written : (group flushed : Option GroupView) → StandsInJournal f r.book.state.entries r.book.batches.queue group flushed
      → journal_entries f ≡ take (written_count r.book flushed) r.book.state.entries
  stands_written group flushed (NoneIsOut out none nothing is) =
      is ∙ ap (λ (o : Option GroupView). take (written_count r.book o) r.book.state.entries) (sym nothing)
  stands_written group flushed (IsPulled out near its nothing is) =
      is ∙ ap (λ (o : Option GroupView). take (written_count r.book o) r.book.state.entries) (sym nothing)
  stands_written group flushed (IsAppended out none its is) =
      is ∙ ap (λ (o : Option GroupView). take (written_count r.book o) r.book.state.entries) (sym its)

  pub all_admissible : AllIsAdmissible f r
  all_admissible = record {
    seats = AllByRecursion-from_slice_get (IsAdmissibleSeat r) r.seats seat_admissible;
    group = group_next r.group refl;
    pulled = pulled_is_out r.group refl;
    flushed = group_out r.flushed refl;
    held = x.tickets.held;
    written = stands_written r.group r.flushed x.order.stands;
  }
