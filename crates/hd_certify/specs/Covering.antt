-- Which successors of entries need not be expanded, and the expansions of entries in a closed list.
-- (Closed lists are those of A*: Hart, Nilsson and Raphael 1968.)
use Rattle.std.specs.Prelude.{◌≡◌, ◌⊎◌, Bool, true, false, List, Option, Some, map, Contains}
use Rattle.std.specs.List.{AllByRecursion}
use Rattle.hd_task.specs.declared.plan.Kid.{Kid}
use Rattle.hd_task.specs.Plans.{Node, node, exec}
use Rattle.hd_task.specs.Expansions.{bound_of}
use Rattle.hd_task.specs.Covers.{IsDominated, IsBounded}
use Rattle.hd_hmax.specs.Rounds.{hmax}
use Rattle.hd_closed.specs.Closed.{Closed}
use Rattle.hd_entries.specs.Settling.{BookState, expansions, node_of}
use Rattle.hd_entries.specs.Resuming.{open_kids}

-- a node need not be expanded: an entry has its state at no greater cost, or it reaches the bound,
-- or no way leads on from it
abbrev pub IsSpared : BookState → Node → Type 0
IsSpared b r = IsDominated b.task (expansions b) r ⊎ IsBounded (bound_of b.task (expansions b)) r.cost (hmax b.task r.state)

-- whether all of these nodes are spared: if not, one of them is not
abbrev pub AreAllSpared : BookState → List Node → Bool → Type 0
AreAllSpared b nodes true = AllByRecursion (IsSpared b) nodes
AreAllSpared b nodes false = (r : Node) × Contains nodes r × (IsSpared b r → ⊥)

-- nodes are those of the successors that are no entries, in posting order
abbrev pub AreOpen : BookState → List Node → Type 0
AreOpen b nodes = map Some nodes ≡ map (node_of b) (open_kids b.task b.entries)

-- all successors that are no entries are spared, by their nodes
pub record AreSpared (b : BookState) : Type 0 where
  pub nodes : List Node
  pub are : AreOpen b nodes
  pub spared : AllByRecursion (IsSpared b) nodes

-- a successor that is no entry is not spared, by its node
pub record IsNeeded (b : BookState) : Type 0 where
  pub kid : Kid
  pub among : Contains (open_kids b.task b.entries) kid
  pub end : Node
  pub leads : node_of b kid ≡ Some end
  pub needed : IsSpared b end → ⊥

-- whether all successors that are no entries are spared
abbrev pub Spares : BookState → Bool → Type 0
Spares b true = AreSpared b
Spares b false = IsNeeded b

-- where an expansion of a closed list stands
abbrev pub node_in : Closed → Option Node
node_in c = Some (node c.state c.cost)

-- a closed list has the expansions of all entries, in order
abbrev pub AreAllClosed : BookState → List Closed → Type 0
AreAllClosed b closed = map node_in closed ≡ map (exec b.task) (expansions b)
