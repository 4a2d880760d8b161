-- What a frontier is, once all parcels are open nodes and one of these is taken out.
use Rattle.std.proofs.Common.{◌≡◌, ℕ, Option, Some, Result, OnErr, Ok, Err, IfSome, None, List, [], ◌++◌, slice_get, sym, ap, ap₂, ◌∙◌, subst}
use Rattle.std.specs.List.{AllByRecursion, insert, remove}
use Rattle.hd_task.specs.declared.state.State.{State}
use Rattle.hd_task.specs.declared.task.Task.{Task}
use Rattle.hd_hmax.specs.Rounds.{hmax}
use Rattle.hd_node.specs.declared.batch.Outcome.{Outcome}
use Rattle.hd_node.specs.Parcel.{ParcelView}
use Rattle.hd_entries.specs.Holding.{Released}
use Rattle.hd_closed.specs.Closed.{Closed}
use Rattle.hd_worker.specs.declared.node.WaitingNode.{WaitingNode}
use Rattle.hd_worker.specs.Nodes.{waiting_by, IsNodeOf}
use Rattle.hd_worker.specs.Frontier.{FrontierView, settled_at}
use Rattle.hd_turns.specs.Settling.{IsOutcomeOf, closed_by}
use Rattle.hd_worker.proofs.Settled.{insert-remove}

pub if_some : {A : Type 0} (o : Option A) (P Q : A → Type 0) → ((x : A) → P x → Q x) → IfSome o P → IfSome o Q
if_some None P Q f p = tt
if_some (Some x) P Q f p = f x p

pub always_err : {T E : Type 0} (r : Result T E) (P : Type 0) → P → OnErr r P
always_err (Ok x) P p = tt
always_err (Err e) P p = p

-- all are open nodes
pub all_waiting :
    (f : FrontierView) (states states' : List State) (nodes nodes' : List WaitingNode) (fresh fresh' : List ParcelView)
    → waiting_by states nodes fresh ≡ f.waiting → waiting_by states' nodes' fresh' ≡ waiting_by states nodes fresh → fresh' ≡ [] → waiting_by states' nodes' [] ≡ f.waiting
all_waiting f states states' nodes nodes' fresh fresh' is moved none = ap (waiting_by states' nodes') (sym none) ∙ (moved ∙ is)

-- nodes of the same task and the same states
pub nodes_again :
    (u t : Task) (states states' : List State) (nodes nodes' : List WaitingNode) → u ≡ t → states' ≡ states → nodes' ≡ nodes
    → AllByRecursion (IsNodeOf u states) nodes → AllByRecursion (IsNodeOf t states') nodes'
nodes_again u t states states' nodes nodes' own same are all =
    subst (λ (ns : List WaitingNode). AllByRecursion (IsNodeOf t states') ns) (sym are)
    (subst (λ (ss : List State). AllByRecursion (IsNodeOf t ss) nodes) (sym same) (subst (λ (v : Task). AllByRecursion (IsNodeOf v states) nodes) own all))

-- the node that was taken out is back
pub nodes_back :
    (nodes nodes' nodes'' : List WaitingNode) (k : ℕ) (n : WaitingNode) (total : Option ℕ) (gap : Option (ℕ × Option ℕ)) → slice_get nodes k ≡ Some n → nodes' ≡ remove nodes k → gap ≡ Some (k, total)
    → IfSome gap (λ g. nodes'' ≡ insert nodes' g.0 n) → nodes'' ≡ nodes
nodes_back nodes nodes' nodes'' k n total gap at gone left back =
    let put : nodes'' ≡ insert nodes' k n = subst (λ (o : Option (ℕ × Option ℕ)). IfSome o (λ g. nodes'' ≡ insert nodes' g.0 n)) left back in
    put ∙ (ap (λ (ns : List WaitingNode). insert ns k n) gone ∙ insert-remove nodes k n at)

-- a frontier with the same open nodes and expansions
pub same_frontier :
    (f : FrontierView) (t : Task) (waiting waiting' : List Released) (closed closed' : List Closed) (room : ℕ)
    → (let x : FrontierView = record { task = t; waiting = waiting; closed = closed; room = room } in x) ≡ f → waiting' ≡ waiting → closed' ≡ closed
    → (let x : FrontierView = record { task = t; waiting = waiting'; closed = closed'; room = room } in x) ≡ f
same_frontier f t waiting waiting' closed closed' room is same shut =
    ap₂ (λ (w : List Released) (cs : List Closed). let x : FrontierView = record { task = t; waiting = w; closed = cs; room = room } in x) same shut ∙ is

-- a frontier of which one node is settled
pub settled_frontier :
    (f : FrontierView) (t : Task) (waiting waiting' : List Released) (closed closed' : List Closed) (room : ℕ) (place pick : ℕ) (o : Outcome)
    → (let x : FrontierView = record { task = t; waiting = waiting; closed = closed; room = room } in x) ≡ f → waiting' ≡ remove f.waiting pick → closed' ≡ f.closed ++ closed_by place o
    → (let x : FrontierView = record { task = t; waiting = waiting'; closed = closed'; room = room } in x) ≡ settled_at place pick o f
settled_frontier f t waiting waiting' closed closed' room place pick o is gone shut =
    ap₂ (λ (w : List Released) (cs : List Closed). let x : FrontierView = record { task = t; waiting = w; closed = cs; room = room } in x) gone shut
    ∙ ap (λ (y : FrontierView). let x : FrontierView = record { task = y.task; waiting = remove f.waiting pick; closed = f.closed ++ closed_by place o; room = y.room } in x) is

-- an outcome by the same closed list
pub outcome_again :
    (t u : Task) (closed closed' : List Closed) (seen : Option ℕ) (r : Released) (o : Outcome) → t ≡ u → closed ≡ closed'
    → IsOutcomeOf t (hmax t) closed seen r o → IsOutcomeOf u (hmax u) closed' seen r o
outcome_again t u closed closed' seen r o own same is =
    subst (λ (cs : List Closed). IsOutcomeOf u (hmax u) cs seen r o) same (subst (λ (v : Task). IsOutcomeOf v (hmax v) closed seen r o) own is)
