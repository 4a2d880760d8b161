-- That a worker, and what it looks up, may go to another thread.
use denote.Ref.{NamedLft}
use denote.Param.Send.{IsSend, sendable}
use Rattle.std.proofs.Crossing.{crosses}
use Rattle.std.proofs.alloc.Global.TheSendSync as global
use Rattle.hd_zobrist.proofs.words.Words.TheSendSync as words
use Rattle.hd_open.proofs.open.OpenList.TheSendSync as open_list
use Rattle.hd_pack.proofs.spare.SpareBlocks.TheSendSync as spare
use Rattle.hd_worker.proofs.node.WaitingNode.TheSendSync as node
use Rattle.hd_worker.specs.contracts.frontier.Frontier as frontier
use Rattle.hd_worker.specs.contracts.lookup.Lookup as lookup
use Rattle.hd_worker.specs.contracts.worker.Worker as worker
use Rattle.hd_search.proofs.Crossing.Lists.{closed_send}
use Rattle.hd_search.proofs.Crossing.Nodes.{parcel_send, outcome_send, hmax_send, successors_send}
use Rattle.hd_search.proofs.Crossing.Tasks.{task_sync}

frontier_send : (t : NamedLft) → IsSend (frontier.the_row t)
frontier_send t = search (sendable, crosses, task_sync, global.the_field_send, closed_send, open_list.the_send, spare.the_field_send, node.the_send, parcel_send) depth 20

pub worker_send : (t : NamedLft) → IsSend (worker.the_row t)
worker_send t = search (sendable, crosses, task_sync, global.the_field_send, frontier_send, outcome_send, parcel_send) depth 20

pub lookup_send : (t : NamedLft) → IsSend (lookup.the_row t)
lookup_send t = search (sendable, words.the_send, successors_send, hmax_send) depth 20
