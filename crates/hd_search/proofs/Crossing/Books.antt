-- That a book may go to another thread.
use denote.RattleType.{RattleType}
use denote.Ref.{NamedLft}
use denote.Param.Send.{IsSend, sendable}
use Rattle.std.proofs.Crossing.{crosses}
use Rattle.std.specs.declared.sync.ledger.Ledger as ledger
use Rattle.std.proofs.sync.ledger.Book.TheSendSync as made
use Rattle.std.proofs.alloc.Global.TheSendSync as global
use Rattle.hd_base.proofs.sequence.Sequence.TheSendSync as sequence
use Rattle.hd_book.proofs.tickets.Tickets.TheSendSync as tickets
use Rattle.hd_book.specs.contracts.book.Book as book
use Rattle.hd_book.specs.contracts.content.BookContent as content
use Rattle.hd_entries.specs.contracts.releasing.Parcels as parcels
use Rattle.hd_search.proofs.Crossing.Lists.{entries_send}
use Rattle.hd_search.proofs.Crossing.Nodes.{outcome_send}
use Rattle.hd_search.proofs.Crossing.Tasks.{task_sync}

parcels_send : (t : NamedLft) → IsSend (parcels.the_row t)
parcels_send t = search (sendable, crosses, task_sync, sequence.the_send, outcome_send) depth 20

content_send : (t : NamedLft) → IsSend (content.the_row t)
content_send t = search (sendable, global.the_field_send, entries_send, tickets.the_send, parcels_send) depth 20

module _ (t : NamedLft) (L : RattleType) (g : ledger.Ghosts L.Denot) where
  pub book_send : IsSend (book.the_row t L g)
  book_send = search (sendable, crosses, content_send, made.the_send) depth 20
