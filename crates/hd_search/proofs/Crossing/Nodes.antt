-- That parcels, outcomes, and what estimates and finds states, may go to another thread.
use denote.Ref.{NamedLft}
use denote.Param.Send.{IsSend, sendable}
use Rattle.std.proofs.Crossing.{crosses}
use Rattle.hd_base.proofs.sequence.Sequence.TheSendSync as sequence
use Rattle.hd_task.proofs.plan.Kid.TheSendSync as kid
use Rattle.hd_task.proofs.departure.DepartsBy.TheSendSync as departs_by
use Rattle.hd_task.proofs.applying.GoalTest.TheSendSync as goal_test
use Rattle.hd_pack.proofs.packed.Packed.TheSendSync as packed
use Rattle.hd_hmax.proofs.batches.Batches.TheSendSync as batches
use Rattle.hd_hmax.proofs.estimate.EstimateValue.TheSendSync as value
use Rattle.hd_hmax.proofs.rows.NumberRows.TheSendSync as rows
use Rattle.hd_hmax.proofs.settling.Work.TheSendSync as work
use Rattle.hd_hmax.specs.contracts.estimate.Estimate as estimate
use Rattle.hd_hmax.specs.contracts.hmax.Hmax as hmax
use Rattle.hd_successors.proofs.watches.Watches.TheSendSync as watches
use Rattle.hd_successors.specs.contracts.successors.Successors as successors
use Rattle.hd_node.proofs.batch.By.TheSendSync as by
use Rattle.hd_node.proofs.children.Children.TheSendSync as children
use Rattle.hd_node.proofs.hashed.Hashed.TheSendSync as hashed
use Rattle.hd_node.specs.contracts.batch.Outcome as outcome
use Rattle.hd_node.specs.contracts.expansion.Expansion as expansion
use Rattle.hd_node.specs.contracts.parcel.Parcel as parcel
use Rattle.hd_search.proofs.Crossing.Tasks.{task_sync}

pub parcel_send : (t : NamedLft) → IsSend (parcel.the_row t)
parcel_send t = search (sendable, task_sync, kid.the_field_send, hashed.the_send) depth 20

pub estimate_send : (t : NamedLft) → IsSend (estimate.the_row t)
estimate_send t = search (sendable, task_sync, packed.the_send, value.the_field_send) depth 20

pub expansion_send : (t : NamedLft) → IsSend (expansion.the_row t)
expansion_send t = search (sendable, task_sync, kid.the_field_send, hashed.the_send, children.the_send, sequence.the_send, departs_by.the_send, goal_test.the_field_send) depth 20

pub outcome_send : (t : NamedLft) → IsSend (outcome.the_row t)
outcome_send t = search (sendable, kid.the_field_send, by.the_field_send, estimate_send, expansion_send) depth 20

pub hmax_send : (t : NamedLft) → IsSend (hmax.the_row t)
hmax_send t = search (sendable, crosses, task_sync, work.the_field_send, rows.the_send, batches.the_field_send) depth 20

pub successors_send : (t : NamedLft) → IsSend (successors.the_row t)
successors_send t = search (sendable, crosses, task_sync, watches.the_field_send) depth 20
