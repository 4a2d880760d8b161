-- Arrivals in the order in which their nodes are to be expanded. (Buckets by value: Dial 1969.)
use Rattle.std.specs.Prelude.{◌≡◌, ◌⊎◌, ℕ, ◌<◌, ◌≤◌, true, List, [], ◌∷◌, Option, Some, None, length, slice_get, slice_index_or}
use Rattle.std.specs.List.{AllByRecursion}
use Rattle.std.specs.Ordering.{nat_cmp, ordering_then}
use Rattle.std.specs.declared.cmp.Ordering.{Ordering}
use Rattle.std.specs.BTreeSet.{contains}
use Rattle.hd_open.specs.declared.queue.OpenQueue.{OpenQueue}
use Rattle.hd_open.specs.declared.queue.TheConstants.{BUCKETS}
use Rattle.hd_open.specs.Marks.{slot_bit}
use Rattle.hd_open.specs.Totals.{IsNotAfter}

-- entries are ordered by total, and of equal totals by arrival
abbrev pub entry_cmp : ℕ × ℕ → ℕ × ℕ → Ordering
entry_cmp x y = ordering_then (nat_cmp x.0 y.0) (nat_cmp x.1 y.1)

-- a number stands in a list
abbrev pub IsAmong : List ℕ → ℕ → Type 0
IsAmong [] k = ⊥
IsAmong (x ∷ xs) k = (x ≡ k) ⊎ IsAmong xs k

-- no number is less than one before it
abbrev pub IsAscending : List ℕ → Type 0
IsAscending [] = Unit {0}
IsAscending (x ∷ xs) = AllByRecursion (λ y. x ≤ y) xs × IsAscending xs

-- the arrivals of a total that has a bucket
abbrev pub bucket : List (List ℕ) → ℕ → List ℕ
bucket small total = slice_index_or small total []

-- a queue has an arrival with this total
abbrev pub Has : OpenQueue → Option ℕ → ℕ → Type 0
Has q (Some t) arrival = IsAmong (bucket q.small.items t) arrival ⊎ (contains entry_cmp q.large (t, arrival) ≡ true)
Has q None arrival = IsAmong q.dead arrival

-- no bucket before this one has an arrival
abbrev pub AreEmptyBelow : List (List ℕ) → ℕ → Type 0
AreEmptyBelow small total = (t : ℕ) → t < total → bucket small t ≡ []

-- in each bucket, and among those that come last, arrivals ascend; totals without a bucket are
-- greater than those with one
pub record IsQueueOrderly (q : OpenQueue) : Type 0 where
  pub ascends : (t : ℕ) → IsAscending (bucket q.small.items t)
  pub few : length q.small.items ≤ BUCKETS
  pub empty : AreEmptyBelow q.small.items q.least
  pub greater : (t arrival : ℕ) → contains entry_cmp q.large (t, arrival) ≡ true → BUCKETS ≤ t
  pub dead : IsAscending q.dead

-- each arrival is less than this one
abbrev pub IsBelow : OpenQueue → ℕ → Type 0
IsBelow q arrival = (g : Option ℕ) (k : ℕ) → Has q g k → k < arrival

-- an arrival has one total
abbrev pub IsSingle : OpenQueue → Type 0
IsSingle q = (g h : Option ℕ) (k : ℕ) → Has q g k → Has q h k → g ≡ h

-- in the second list some of the arrivals may be gone whose slots are not marked
pub record AreCleared (words before after : List ℕ) : Type 0 where
  pub stays : (k : ℕ) → slot_bit words k ≡ 1 → IsAmong before k → IsAmong after k
  pub only : (k : ℕ) → IsAmong after k → IsAmong before k
  pub ascends : IsAscending before → IsAscending after

-- in the second queue some of the arrivals may be gone whose slots are not marked
pub record IsCleared (words : List ℕ) (before after : OpenQueue) : Type 0 where
  pub stays : (g : Option ℕ) (k : ℕ) → slot_bit words k ≡ 1 → Has before g k → Has after g k
  pub only : (g : Option ℕ) (k : ℕ) → Has after g k → Has before g k
  pub orderly : IsQueueOrderly after

-- an arrival comes no later than each other, and its slot is marked
pub record IsFirstWaiting (words : List ℕ) (q : OpenQueue) (arrival : ℕ) : Type 0 where
  pub total : Option ℕ
  pub has : Has q total arrival
  pub marked : slot_bit words arrival ≡ 1
  pub least : (g : Option ℕ) (k : ℕ) → Has q g k → IsNotAfter total arrival g k

-- each node has its entry
abbrev pub IsQueued : {A : Type 0} → (A → Option ℕ) → List (Option A) → OpenQueue → Type 0
IsQueued {A} total slots q = (k : ℕ) (x : A) → slice_get slots k ≡ Some (Some x) → Has q (total x) k
