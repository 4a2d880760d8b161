-- A batch that came into the book.
use Rattle.std.proofs.Common.{◌≡◌, ℕ, ◌+◌, Option, Some, List, [], length, sym, ap, subst, ◌∙◌}
use Rattle.std.specs.Prelude.{unwrap_or}
use Rattle.hd_task.specs.declared.task.Task.{Task}
use Rattle.hd_task.specs.declared.plan.Kid.{Kid}
use Rattle.hd_task.specs.Entries.{plans_of}
use Rattle.hd_task.specs.Expansions.{bound_of}
use Rattle.hd_node.specs.declared.batch.Outcome.{Outcome}
use Rattle.hd_base.specs.Lists.{BeginsWith}
use Rattle.hd_entries.specs.Settling.{expansions}
use Rattle.hd_entries.proofs.Accepting.{all_entries}
use Rattle.hd_book.specs.Batches.{TicketView}
use Rattle.hd_book.specs.View.{BookView}
use Rattle.hd_book.specs.Steps.{after_commit}
use Rattle.hd_turns.specs.Worker.{WorkerView}
use Rattle.hd_turns.specs.Calls.{batch_of, after_batch, after_numbering}
use Rattle.hd_desk.specs.Bound.{SeatView}
use Rattle.hd_threads.specs.Working.{IsBoundBy, EntersBook, with_offer, IsBatchIn}

-- what a book of a task is after a batch, where its log began with what was seen before
pub is_in :
    (task : Option Task) (before : List Kid) (outcomes : List Outcome) (b b' : BookView) (first : ℕ) (bound : Option ℕ)
    → task ≡ Some b.state.task → BeginsWith b.state.entries before → b' ≡ after_commit outcomes b → b'.state.task ≡ b.state.task
    → first ≡ length b.state.entries → bound ≡ bound_of b'.state.task (expansions b'.state)
    → EntersBook task before outcomes b'.state.entries first bound
is_in task before outcomes b b' first bound of begins after same number least = record {
  earlier = b.state.entries;
  begins = begins;
  number = number;
  gains = ap (λ (x : BookView). x.state.entries) after ∙ all_entries outcomes b.state;
  least = subst (λ o. IsBoundBy o b'.state.entries bound) (sym of) (least ∙ ap (λ t. bound_of t (unwrap_or (plans_of b'.state.entries) [])) same);
}

-- the same of a worker's batch, whose bound is offered
pub batch_in :
    (before : List Kid) (count : ℕ) (seat : SeatView) (w : WorkerView) (after : List Kid) (count' : ℕ) (seat' : SeatView) (w' : WorkerView)
    (ticket : TicketView) (task : Option Task) (outcomes : List Outcome) (first : ℕ) (bound : Option ℕ)
    → task ≡ Some w.task → outcomes ≡ batch_of w → EntersBook task before outcomes after first bound
    → ticket.first ≡ first → ticket.end ≡ length after → w' ≡ after_numbering first (after_batch w) → count' ≡ count + 1
    → seat'.offers ≡ with_offer bound seat.offers → IsBatchIn before count seat w after count' seat' w' ticket
batch_in before count seat w after count' seat' w' ticket task outcomes first bound of these is from to numbered counted offered = record {
  first = first;
  bound = bound;
  is = subst (λ os. EntersBook (Some w.task) before os after first bound) these (subst (λ t. EntersBook t before outcomes after first bound) of is);
  from = from;
  to = to;
  numbered = numbered;
  counted = counted;
  offered = offered;
}
