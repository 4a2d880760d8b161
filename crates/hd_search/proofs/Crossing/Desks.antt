-- That what the threads of a search share may be shared, and that what each has of its own may go
-- to it.
use denote.RattleType.{RattleType}
use denote.Ref.{NamedLft}
use denote.Param.Send.{IsSend, IsSync, sendable}
use denote.Param.SendFields.{declared_send, declared_sync, FieldsHave}
use Rattle.std.specs.declared.sync.ledger.Ledger as ledger
use Rattle.std.proofs.sync.ledger.Book.TheSendSync as made
use Rattle.std.proofs.sync.ledger.Share.TheSendSync as share
use Rattle.atomic_table.proofs.shared.Seat.TheSendSync as pass
use Rattle.hd_desk.proofs.word.BoundSeat.TheSendSync as seat
use Rattle.hd_desk.proofs.word.BoundWord.TheSendSync as bound
use Rattle.hd_desk.proofs.lock.Lock.TheSendSync as lock
use Rattle.hd_desk.proofs.mail.Hands.TheSendSync as hands
use Rattle.hd_desk.proofs.mail.Mailboxes.TheSendSync as boxes
use Rattle.hd_task.specs.contracts.task.Task as task
use Rattle.hd_threads.specs.contracts.letter.Letter as letter
use Rattle.hd_threads.proofs.pacing.Pace.TheSendSync as pace
use Rattle.hd_threads.proofs.waking.Bells.TheSendSync as bells
use Rattle.hd_threads.specs.contracts.placing.Desk as desk
use Rattle.hd_threads.specs.contracts.placing.Workplace as workplace
use Rattle.hd_threads.specs.contracts.shared.SharedBook as shared
use Rattle.hd_search.proofs.Crossing.Books.{book_send}
use Rattle.hd_search.proofs.Crossing.Nodes.{parcel_send}
use Rattle.hd_search.proofs.Crossing.Tasks.{task_sync}
use Rattle.hd_search.proofs.Crossing.Workers.{worker_send, lookup_send}

letter_send : (t : NamedLft) → IsSend (letter.the_row t)
letter_send t = search (sendable, parcel_send) depth 20

module _ (t : NamedLft) (L A : RattleType) (g : ledger.Ghosts L.Denot) (h : ledger.Ghosts A.Denot) where
  shared_send : IsSend (shared.the_row t L A g h)
  shared_send = search (sendable, book_send, made.the_send) depth 20

  desk_parts : FieldsHave IsSync (desk.the_type t L A g h).parts
  desk_parts = (lock.the_sync _ _ _ _ shared_send, (boxes.the_sync task.the_row (letter.the_row t) _ (letter_send t), (bound.the_sync, (pace.the_sync, (bells.the_sync, tt)))))

  pub desk_sync : IsSync (desk.the_row t L A g h)
  desk_sync = declared_sync (desk.the_type t L A g h) desk_parts

  workplace_parts : FieldsHave IsSend (workplace.the_type t L A g h).parts
  workplace_parts = (
    search (sendable, pass.the_send, shared_send) depth 10,
    (search (sendable, share.the_send) depth 10, (search (sendable, seat.the_send) depth 10, (search (sendable, hands.the_send, letter_send, task_sync) depth 10, (worker_send t, (lookup_send t, tt))))),
  )

  pub workplace_send : IsSend (workplace.the_row t L A g h)
  workplace_send = declared_send (workplace.the_type t L A g h) workplace_parts
