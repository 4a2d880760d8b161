-- What an open list keeps. (Our own.)
use Rattle.std.specs.Prelude.{◌≡◌, ℕ, List, Option, Some, None, length, slice_get, option_map, IfSome}
use Rattle.hd_open.specs.declared.slots.Gap.{Gap}
use Rattle.hd_open.specs.declared.slots.Hint.{Hint}
use Rattle.hd_open.specs.declared.counts.NodeCounts.{NodeCounts}
use Rattle.hd_open.specs.declared.queue.OpenQueue.{OpenQueue}
use Rattle.hd_open.specs.Live.{live, nodes_before, HoldsNode}
use Rattle.hd_open.specs.Marks.{AreMarks}
use Rattle.hd_open.specs.Counts.{AreCounts}
use Rattle.hd_open.specs.Queue.{Has, IsQueued, IsQueueOrderly, IsSingle, IsBelow}
use Rattle.hd_open.specs.Open.{Open}

-- the nodes in order, and where the gap stands among them
abbrev pub open_view : {A : Type 0} → List (Option A) → Option Gap → Open A
open_view slots gap = record { nodes = live slots; gap = option_map (λ g. (nodes_before slots g.arrival, g.total)) gap }

-- a node is at an arrival, and stands at a place
pub record IsHintOf {A : Type 0} (slots : List (Option A)) (h : Hint) : Type 0 where
  pub filled : HoldsNode slots h.arrival
  pub place : nodes_before slots h.arrival ≡ h.place

-- nodes are marked, counted and queued, and the slot of the gap is empty, with its entry still in
-- the queue
pub record IsOpenListKept {A : Type 0} (total : A → Option ℕ) (slots : List (Option A)) (gap : Option Gap) (hint : Option Hint) (q : OpenQueue) (c : NodeCounts) : Type 0 where
  pub queued : IsQueued total slots q
  pub orderly : IsQueueOrderly q
  pub single : IsSingle q
  pub latest : IsBelow q (length slots)
  pub marked : AreMarks slots c.marks.items
  pub counted : AreCounts slots c
  pub empty : (g : Gap) → gap ≡ Some g → slice_get slots g.arrival ≡ Some None
  pub waiting : (g : Gap) → gap ≡ Some g → Has q g.total g.arrival
  pub hinted : IfSome hint (IsHintOf slots)
