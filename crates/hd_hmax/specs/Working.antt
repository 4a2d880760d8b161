-- How the estimate is computed: places are closed one after the other, the cheapest first (as
-- shortest paths: Dijkstra 1959). (Our own.)
use Rattle.std.specs.Prelude.{◌≡◌, ℕ, ◌+◌, ◌*◌, ◌-◌, ◌<◌, ◌≤◌, nat_lt, Bool, true, false, List, length, filter, Option, Some, None, slice_get, slice_index_or, slice_set, Contains, ◌⊎◌, vec_len, vec_capacity}
use Rattle.std.specs.List.{fold}
use Rattle.std.specs.BinaryHeap.{heap_items, heap_len, heap_capacity}
use Rattle.hd_task.specs.declared.state.State.{State}
use Rattle.hd_task.specs.declared.action.Action.{Action}
use Rattle.hd_task.specs.declared.task.Task.{Task}
use Rattle.hd_task.specs.Conditions.{literal_holds}
use Rattle.hd_hmax.specs.declared.queue.RuleQueue.{RuleQueue}
use Rattle.hd_hmax.specs.declared.settling.Work.{Work}
use Rattle.hd_hmax.specs.Costs.{greater, plus_price}
use Rattle.hd_hmax.specs.Prices.{price}
use Rattle.hd_hmax.specs.Queue.{Ready, ready, WaitsIn}
use Rattle.hd_hmax.specs.Rounds.{cost_in, table_after}
use Rattle.hd_task.specs.Conditions.{literal}
use Rattle.hd_hmax.specs.Rules.{places, place_at, literal_at, needs, row, times}

-- ---- what places and rules cost

-- what the literal of a place costs in the end
abbrev pub final_value : Task → State → ℕ → Option ℕ
final_value t s p = cost_in (table_after t s (2 * length t.atoms)) (literal_at (length t.atoms) p)

-- as much as the dearest of some places
abbrev pub dearest_at : Task → State → List ℕ → Option ℕ
dearest_at t s ps = fold (λ c p. greater c (final_value t s p)) (Some 0) ps

-- the price of an action; the goal, which is no action, has the price 0
abbrev pub price_by : Task → Option Action → ℕ
price_by t None = 0
price_by t (Some a) = price t a

-- what it costs to take a rule: its price, and what the places cost that it needs
unfoldable pub rule_cost : Task → State → ℕ → Option ℕ
rule_cost t s r = plus_price (price_by t (slice_get t.actions r)) (dearest_at t s (needs t r))

-- ---- open places

-- a place is open: it is not closed yet
abbrev pub is_open : List Bool → ℕ → Bool
is_open pending p = slice_index_or pending p false

-- how many of some places are open
unfoldable pub open_in : List Bool → List ℕ → ℕ
open_in pending ps = length (filter (is_open pending) ps)

-- how many rules still need open places
unfoldable pub unfinished : List ℕ → ℕ
unfinished left = length (filter (nat_lt 0) left)

-- `left` counts what of its needs is open for each rule; `rest` are the rules that are to be told
-- of the place closed last, each as often as it needs it
pub record IsLeftCounted (t : Task) (pending : List Bool) (left rest : List ℕ) : Type 0 where
  pub width : length pending ≡ places (length t.atoms)
  pub rules : length left ≡ length t.actions + 1
  pub counted : (q : ℕ) → q ≤ length t.actions → slice_index_or left q 0 ≡ open_in pending (needs t q) + times q rest
  pub known : (q : ℕ) → Contains rest q → q ≤ length t.actions

-- ---- what waits

-- a rule that waits is there with what it costs, which is no less than the level
pub record IsEntry (t : Task) (s : State) (level : ℕ) (x : Ready) : Type 0 where
  pub known : x.0.1 ≤ length t.actions
  pub cost : rule_cost t s x.0.1 ≡ Some x.0.0
  pub above : level ≤ x.0.0

-- closed places cost at most the level; what waits costs what it says; the rules that are to be
-- told need a place at the level
pub record IsAtLevel (t : Task) (s : State) (pending : List Bool) (waits : Ready → Type 0) (level : ℕ) (rest : List ℕ) : Type 0 where
  pub closed : (p : ℕ) → p < places (length t.atoms) → is_open pending p ≡ false → (v : ℕ) × (final_value t s p ≡ Some v) × (v ≤ level)
  pub queued : (x : Ready) → waits x → IsEntry t s level x
  pub asking : (q : ℕ) → Contains rest q → (p : ℕ) × Contains (needs t q) p × (final_value t s p ≡ Some level)

-- an action was taken: what it brings about is closed
pub record IsTaken (t : Task) (brings : List (List ℕ)) (pending : List Bool) (q : ℕ) : Type 0 where
  pub action : q < length t.actions
  pub brought : (p : ℕ) → Contains (row brings q) p → is_open pending p ≡ false

-- a rule that needs no open place waits or was taken, but for the one that is `busy`
pub record AreReady (t : Task) (brings : List (List ℕ)) (pending : List Bool) (left : List ℕ) (waits : Ready → Type 0) (busy : ℕ) : Type 0 where
  pub ready : (q : ℕ) → q ≤ length t.actions → slice_index_or left q 0 ≡ 0 → ((c : ℕ) × waits (ready c q)) ⊎ ((q ≡ busy) ⊎ IsTaken t brings pending q)

-- a rule was told that one of the places which it needs was closed: where that was the last, it
-- waits
pub record IsTold (left : List ℕ) (waits : Ready → Type 0) (rule cost : ℕ) (after : List ℕ) (now : Ready → Type 0) : Type 0 where
  pub less : after ≡ slice_set left rule (slice_index_or left rule 0 - 1)
  pub kept : (y : Ready) → waits y → now y
  pub from : (y : Ready) → now y → waits y ⊎ ((slice_index_or left rule 0 ≡ 1) × (y ≡ ready cost rule))
  pub last : slice_index_or left rule 0 ≡ 1 → now (ready cost rule)

-- what is true in a state is closed; of an atom that the task lacks, its negation
abbrev pub HasStarted : Task → State → List Bool → Type 0
HasStarted t s pending = (b : Bool) (i : ℕ) → i ≤ length t.atoms → literal_holds s (literal b i) ≡ true → is_open pending (place_at (length t.atoms) b i) ≡ false

-- ---- as the code keeps it

-- a rule waits in a queue
abbrev pub Waits : RuleQueue → Ready → Type 0
Waits q = WaitsIn q.run.items q.taken (heap_items q.heap)

-- each rule's count is that of its open places, and of those that it is still to be told of
abbrev pub Counted : Task → Work → List ℕ → Type 0
Counted t w rest = IsLeftCounted t w.pending.items w.left.items rest

-- closed places cost at most the level, and a rule that waits in the queue costs what it says
abbrev pub Fair : Task → State → Work → ℕ → List ℕ → Type 0
Fair t s w level rest = IsAtLevel t s w.pending.items (Waits w.queue) level rest

-- a rule that needs no open place waits in the queue or was taken, but for the one that is `busy`
abbrev pub IsAllReady : Task → List (List ℕ) → Work → ℕ → Type 0
IsAllReady t brings w busy = AreReady t brings w.pending.items w.left.items (Waits w.queue) busy

-- there is a flag for each place, a number for each rule, and room for all rules in the queue
pub record HasWidth (t : Task) (w : Work) : Type 0 where
  pub pending : length w.pending.items ≡ places (length t.atoms)
  pub left : length w.left.items ≡ length t.actions + 1
  pub run : length t.actions + 1 ≤ vec_capacity w.queue.run
  pub heap : length t.actions + 1 ≤ heap_capacity w.queue.heap

-- the queue has room for all rules that may still come
pub record HasQueueRoom (t : Task) (w : Work) : Type 0 where
  pub run : vec_len w.queue.run + unfinished w.left.items ≤ length t.actions + 1
  pub heap : heap_len w.queue.heap + unfinished w.left.items ≤ length t.actions + 1
  pub run_room : length t.actions + 1 ≤ vec_capacity w.queue.run
  pub heap_room : length t.actions + 1 ≤ heap_capacity w.queue.heap

-- how many rules wait, and how many may still come
unfoldable pub load : Work → ℕ
load w = vec_len w.queue.run - w.queue.taken + heap_len w.queue.heap + unfinished w.left.items

-- no place that was closed is open
abbrev pub StayClosed : List Bool → List Bool → Type 0
StayClosed old new = (p : ℕ) → is_open old p ≡ false → is_open new p ≡ false
