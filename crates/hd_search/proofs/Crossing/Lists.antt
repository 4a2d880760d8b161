-- That the entries of a book, and the lists of a worker, may go to another thread.
use denote.Ref.{NamedLft}
use denote.Param.Send.{IsSend, sendable}
use Rattle.std.proofs.Crossing.{crosses}
use Rattle.std.proofs.MapsCrossing as maps
use Rattle.hd_closed.proofs.closed.Shut.TheSendSync as shut
use Rattle.hd_closed.proofs.notes.Note.TheSendSync as note
use Rattle.hd_closed.specs.contracts.closed.ClosedList as closed
use Rattle.hd_entries.proofs.entry.Best.TheSendSync as best
use Rattle.hd_entries.proofs.entry.Label.TheSendSync as label
use Rattle.hd_entries.specs.contracts.entries.Entries as entries
use Rattle.hd_pack.proofs.split.Segment.TheSendSync as segment
use Rattle.hd_tables.proofs.block.Block.TheSendSync as block
use Rattle.hd_tables.proofs.block.Pattern.TheSendSync as pattern
use Rattle.hd_tables.proofs.chunks.Chunks.TheSendSync as chunks
use Rattle.hd_tables.proofs.table.KidTable.TheSendSync as kids
use Rattle.hd_task.proofs.departure.Departure.TheSendSync as departure
use Rattle.hd_zobrist.proofs.words.Words.TheSendSync as words
use Rattle.std.proofs.alloc.Global.TheSendSync as global
use Rattle.hd_search.proofs.Crossing.Tasks.{task_sync}

pub closed_send : (t : NamedLft) → IsSend (closed.the_row t)
closed_send t = search (sendable, crosses, maps.crosses, task_sync, note.the_send, shut.the_send, segment.the_send, pattern.the_send, block.the_send) depth 20

pub entries_send : (t : NamedLft) → IsSend (entries.the_row t)
entries_send t = search (sendable, crosses, task_sync, kids.the_send, words.the_send, chunks.the_send, label.the_send, best.the_field_send, departure.the_field_send, global.the_field_send, segment.the_send, pattern.the_send, block.the_send) depth 30
