-- What a batch of outcomes does to a book, and why it may be refused. (Our own; the three ways to
-- settle a successor are those of HDA*, Kishimoto, Fukunaga and Botea 2013: expansion, duplicate
-- detection and pruning.)
use Rattle.std.specs.Prelude.{◌≡◌, ℕ, ◌+◌, ◌<◌, Bool, true, false, not, ◌&&◌, ◌||◌, ◌==◌, nat_lt, nat_le, if◌then◌else◌, List, [], ◌∷◌, ◌++◌, length, slice_get, slice_index_or, slice_set, replicate, Option, Some, None, option_and_then, unwrap_or}
use Rattle.std.specs.List.{list_any, position_or_len, fold}
use Rattle.std.specs.Option.{option_or}
use Rattle.std.specs.Ordering.{int_eq}
use Rattle.std.specs.Cmp.Lexicographic.{pointwise}
use mathlib.Core.Bool.{beq}
use Rattle.hd_task.specs.declared.state.State.{State}
use Rattle.hd_task.specs.declared.task.Task.{Task}
use Rattle.hd_task.specs.declared.plan.Kid.{Kid}
use Rattle.hd_task.specs.declared.plan.TheConstants.{ROOT_PARENT}
use Rattle.hd_task.specs.Plans.{Node, exec, node}
use Rattle.hd_task.specs.Expansions.{bound_of}
use Rattle.hd_task.specs.Entries.{plan_of, plans_of}
use Rattle.hd_hmax.specs.Rounds.{hmax}
use Rattle.hd_node.specs.declared.batch.By.{By}
use Rattle.hd_node.specs.declared.batch.By.TheVariants.{Entry, Here}
use Rattle.hd_node.specs.declared.batch.Outcome.{Outcome}
use Rattle.hd_node.specs.declared.batch.Outcome.TheVariants.{Expanded, Duplicate, Bounded}
use Rattle.hd_hmax.specs.Value.{estimated}
use Rattle.hd_node.specs.Outcome.{kid_of}
use Rattle.hd_entries.specs.declared.refusal.Refusal.{Refusal}
use Rattle.hd_entries.specs.declared.refusal.Refusal.TheVariants.{UnknownParent, NotAKid, SettledBefore, StateDiffers, NotDominated, BelowBound}
use Rattle.hd_tables.specs.Kids.{root, same_kid}
use Rattle.hd_entries.specs.Kids.{posted_by}
use Rattle.hd_entries.specs.Marks.{IsMarked}

-- ---- a book

-- a book: its task, its entries, and a mark for each successor that they post
pub record BookState : Type 0 where
  pub task : Task
  pub entries : List Kid
  pub marks : List Bool

-- the plans that its entries name
abbrev pub expansions : BookState → List (List ℕ)
expansions b = unwrap_or (plans_of b.entries) []

-- what every book keeps: its entries name the plans of a legal list, and each mark is justified
pub record IsBookKept (b : BookState) : Type 0 where
  pub named : plans_of b.entries ≡ Some (expansions b)
  pub marked : IsMarked b.task (hmax b.task) (expansions b) b.marks
  pub short : length b.entries < ROOT_PARENT

-- ---- successors of a book

-- a successor is the root, or its parent is an entry
abbrev pub knows_parent : BookState → Kid → Bool
knows_parent b k = same_kid k root || nat_lt k.parent (length b.entries)

-- where a successor stands among the posted ones; their number if it is none of them
abbrev pub place_of : BookState → Kid → ℕ
place_of b k = position_or_len (same_kid k) (posted_by b.task (expansions b))

-- a successor is posted
abbrev pub is_posted : BookState → Kid → Bool
is_posted b k = nat_lt (place_of b k) (length (posted_by b.task (expansions b)))

-- a successor's mark
abbrev pub is_marked : BookState → Kid → Bool
is_marked b k = slice_index_or b.marks (place_of b k) true

-- where the plan of a successor leads
abbrev pub node_of : BookState → Kid → Option Node
node_of b k = option_and_then (exec b.task) (plan_of (expansions b) k)

-- where the plan of an entry leads, by its number; none where there is no such entry
abbrev pub entry_node : BookState → ℕ → Option Node
entry_node b n = option_and_then (exec b.task) (slice_get (expansions b) n)

-- ---- whether an outcome is right

-- two states are equal, atom by atom and value by value
abbrev pub same_state : State → State → Bool
same_state s u = pointwise beq s.atoms u.atoms && pointwise int_eq s.fluents u.fluents

-- a node is there and has this state
abbrev pub has_state : Option Node → State → Bool
has_state None s = false
has_state (Some r) s = same_state r.state s

-- a node is there and has this state and cost
abbrev pub is_node : Option Node → State → ℕ → Bool
is_node None s cost = false
is_node (Some r) s cost = same_state r.state s && (r.cost == cost)

-- two nodes are there, and the first has the second's state at no greater cost
abbrev pub dominates : Option Node → Option Node → Bool
dominates None o = false
dominates (Some a) None = false
dominates (Some a) (Some r) = same_state a.state r.state && nat_le a.cost r.cost

-- the node of an outcome that is an expansion
abbrev pub expanded_node : Option Outcome → Option Node
expanded_node None = None
expanded_node (Some (Expanded e)) = Some (node e.state e.cost)
expanded_node (Some (Duplicate k by)) = None
expanded_node (Some (Bounded k h)) = None

-- the node that a duplicate names: an entry from before the batch, or an earlier outcome of it that
-- is an expansion
abbrev pub node_by : BookState → List Outcome → By → Option Node
node_by b earlier (Entry n) = entry_node b n
node_by b earlier (Here i) = expanded_node (slice_get earlier i)

-- a node's cost and an estimate reach the bound, or the estimate is infinite
abbrev pub reaches : Option ℕ → Option Node → Option ℕ → Bool
reaches bound o None = true
reaches None o (Some v) = false
reaches (Some limit) None (Some v) = false
reaches (Some limit) (Some r) (Some v) = nat_le limit (r.cost + v)

-- ---- refusals, in the order in which they are looked for

-- why an outcome is refused by what it says of its successor
abbrev pub refusal_by : BookState → List Outcome → Outcome → Option Refusal
refusal_by b earlier (Expanded e) = if is_node (node_of b e.kid) e.state e.cost then None else Some StateDiffers
refusal_by b earlier (Duplicate k by) = if dominates (node_by b earlier by) (node_of b k) then None else Some NotDominated
refusal_by b earlier (Bounded k h) =
    if has_state (node_of b k) h.state then
    (if reaches (bound_of b.task (expansions b)) (node_of b k) (estimated h.value) then None else Some BelowBound)
    else Some StateDiffers

-- a successor is settled by an earlier outcome
abbrev pub is_settled_by : List Outcome → Kid → Bool
is_settled_by earlier k = list_any (λ o. same_kid k (kid_of o)) earlier

-- why an outcome is refused, by the book before the batch and the earlier outcomes of the batch
abbrev pub refusal_of : BookState → List Outcome → Outcome → Option Refusal
refusal_of b earlier o =
    if not (knows_parent b (kid_of o)) then Some UnknownParent
    else if not (is_posted b (kid_of o)) then Some NotAKid
    else if is_marked b (kid_of o) || is_settled_by earlier (kid_of o) then Some SettledBefore
    else refusal_by b earlier o

-- why a batch is refused: the first refusal of its outcomes, in order
abbrev pub first_refusal : BookState → List Outcome → List Outcome → Option Refusal
first_refusal b earlier [] = None
first_refusal b earlier (o ∷ later) = option_or (refusal_of b earlier o) (first_refusal b (earlier ++ o ∷ []) later)

-- ---- what an accepted batch does

-- a successor is marked
abbrev pub with_mark : BookState → Kid → List Bool
with_mark b k = slice_set b.marks (place_of b k) true

-- the book after an outcome: its successor is marked; an expansion is an entry more, and posts its
-- successors
abbrev pub settled : BookState → Outcome → BookState
settled b (Expanded e) = record {
  task = b.task;
  entries = b.entries ++ e.kid ∷ [];
  marks = with_mark b e.kid ++ replicate (length e.children) false;
}
settled b (Duplicate k by) = record { task = b.task; entries = b.entries; marks = with_mark b k }
settled b (Bounded k h) = record { task = b.task; entries = b.entries; marks = with_mark b k }

-- the entry of an outcome, if it is an expansion
abbrev pub entry_of : Outcome → List Kid
entry_of (Expanded e) = e.kid ∷ []
entry_of (Duplicate k by) = []
entry_of (Bounded k h) = []

-- the book after the outcomes of a batch
abbrev pub all_settled : BookState → List Outcome → BookState
all_settled b outcomes = fold settled b outcomes

-- an outcome is of the book's task
abbrev pub IsOutcomeOfTask : Task → Outcome → Type 0
IsOutcomeOfTask t (Expanded e) = e.task ≡ t
IsOutcomeOfTask t (Duplicate k by) = Unit {0}
IsOutcomeOfTask t (Bounded k h) = h.task ≡ t
