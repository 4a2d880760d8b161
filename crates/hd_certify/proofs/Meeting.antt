-- Nodes whose states stand in a list that grows.
use Rattle.std.proofs.Common.{◌≡◌, ℕ, ◌+◌, ◌<◌, List, [], ◌∷◌, ◌++◌, map, take, length, get_or, slice_get, Option, Some, refl, sym, ap, ap₂, ◌∙◌, arith, append_assoc, length-append}
use Rattle.std.specs.List.{AllByRecursion}
use Rattle.std.proofs.lemmas.List.{get_or_append_left, map-append, take_more}
use Rattle.std.proofs.lemmas.Option.{get_or_from_slice_get, slice_get-get_or, slice_get_within}
use Rattle.hd_base.specs.Lists.{BeginsWith}
use Rattle.hd_base.proofs.Lists.{AllByRecursion-push, AllByRecursion-slice_get}
use Rattle.hd_task.specs.declared.state.State.{State}
use Rattle.hd_task.specs.Plans.{Node, node}
use Rattle.hd_closed.specs.Closed.{ClosedView, nothing, state_at}
use Rattle.hd_certify.specs.declared.gathering.Gathered.{Gathered}
use Rattle.hd_certify.specs.declared.gathering.MetNode.{MetNode}
use Rattle.hd_certify.specs.Covering.{node_in}
use Rattle.hd_certify.specs.Gathering.{AreGathered, IsMet, node_met, nodes_met}

-- what stands where there is no node
abbrev pub no_node : MetNode
no_node = record { state = 0; cost = 0 }

-- a list that begins with one that begins with another
pub begins_on : (a b c : List State) → BeginsWith b a → BeginsWith c b → BeginsWith c a
begins_on a b c p q = (p.0 ++ q.0, q.1 ∙ (ap (λ (xs : List State). xs ++ q.0) p.1 ∙ append_assoc a p.0 q.0))

-- the states that were met are there still
pub met_on : (old new : List State) → BeginsWith new old → (m : MetNode) → IsMet old m → IsMet new m
met_on old new begins m met =
    let longer = ap length begins.1 in
    let both = length-append old begins.0 in
    omega (arith, met, longer, both)

pub all_met_on : (old new : List State) → BeginsWith new old → (ms : List MetNode) → AllByRecursion (IsMet old) ms → AllByRecursion (IsMet new) ms
all_met_on old new begins [] all = tt
all_met_on old new begins (m ∷ ms) all = (met_on old new begins m all.0, all_met_on old new begins ms all.1)

-- and the same
pub node_on : (old new : List State) → BeginsWith new old → (m : MetNode) → IsMet old m → node_met new m ≡ node_met old m
node_on old new begins m met =
    ap (λ (s : State). node s m.cost) (ap (λ (xs : List State). state_at xs m.state) begins.1 ∙ get_or_append_left old begins.0 nothing m.state met)

pub nodes_on : (old new : List State) → BeginsWith new old → (ms : List MetNode) → AllByRecursion (IsMet old) ms → nodes_met new ms ≡ nodes_met old ms
nodes_on old new begins [] all = refl
nodes_on old new begins (m ∷ ms) all =
    ap₂ (λ (r : Node) (rs : List (Option Node)). Some r ∷ rs) (node_on old new begins m all.0) (nodes_on old new begins ms all.1)

-- ---- one node more

-- what is added
abbrev pub met_at : ℕ → ℕ → MetNode
met_at place cost = record { state = place; cost = cost }

pub all_met_more :
    (old new : List State) → BeginsWith new old → (ms : List MetNode) → AllByRecursion (IsMet old) ms → (place cost : ℕ) (s : State) → slice_get new place ≡ Some s → AllByRecursion (IsMet new) (ms ++ met_at place cost ∷ [])
all_met_more old new begins ms all place cost s at = AllByRecursion-push (IsMet new) ms (met_at place cost) (all_met_on old new begins ms all) (slice_get_within new place s at)

pub nodes_more :
    (old new : List State) → BeginsWith new old → (ms : List MetNode) → AllByRecursion (IsMet old) ms → (place cost : ℕ) (s : State) → slice_get new place ≡ Some s
    → nodes_met new (ms ++ met_at place cost ∷ []) ≡ nodes_met old ms ++ Some (node s cost) ∷ []
nodes_more old new begins ms all place cost s at =
    map-append (λ (m : MetNode). Some (node_met new m)) ms (met_at place cost ∷ [])
    ∙ ap₂ (λ (rs : List (Option Node)) (z : State). rs ++ Some (node z cost) ∷ []) (nodes_on old new begins ms all) (get_or_from_slice_get new place s nothing at)

-- the nodes up to a place, and that one
pub nodes_next : (states : List State) (ms : List MetNode) (i : ℕ) → i < length ms → map (node_met states) (take (i + 1) ms) ≡ map (node_met states) (take i ms) ++ node_met states (get_or ms i no_node) ∷ []
nodes_next states ms i lt = ap (map (node_met states)) (take_more ms i no_node lt) ∙ map-append (node_met states) (take i ms) (get_or ms i no_node ∷ [])

-- nodes, each as where a plan leads
pub as_nodes : (states : List State) (ms : List MetNode) → map Some (map (node_met states) ms) ≡ nodes_met states ms
as_nodes states [] = refl
as_nodes states (m ∷ ms) = ap (λ (rs : List (Option Node)). Some (node_met states m) ∷ rs) (as_nodes states ms)

-- a node at a place
pub met_at_place : (states : List State) (ms : List MetNode) → AllByRecursion (IsMet states) ms → (place : ℕ) → place < length ms → (m : MetNode) → m ≡ get_or ms place m → IsMet states m
met_at_place states ms all place lt m is =
    AllByRecursion-slice_get (IsMet states) ms place m all (slice_get-get_or ms place m lt ∙ ap Some (sym is))

-- ---- what is gathered, where more states were met

pub gathered_on : (g : Gathered) (x : ClosedView) → AreGathered g → x.task ≡ g.closed.task → x.closed ≡ g.closed.closed → BeginsWith x.states g.closed.states
    → AreGathered (record { entries = g.entries; closed = x; nodes = g.nodes })
gathered_on g x before task closed begins = record {
  task = task ∙ before.task;
  kept = before.kept;
  closed = ap (map node_in) closed ∙ before.closed;
  met = all_met_on g.closed.states x.states begins g.nodes.items before.met;
  nodes = nodes_on g.closed.states x.states begins g.nodes.items before.met ∙ before.nodes;
}
