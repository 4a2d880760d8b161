-- The batches with entries that are not acknowledged, in the order of their commits. (Our own.)
use Rattle.std.specs.Prelude.{◌≡◌, ℕ, ◌+◌, ◌-◌, ◌<◌, ◌≤◌, Bool, not, ◌&&◌, ◌||◌, ◌==◌, nat_lt, nat_le, List, [], ◌∷◌, ◌++◌, length, take, drop, take_while, Option, Some, None, if◌then◌else◌}
use Rattle.std.specs.declared.ops.Range.{Range}
use Rattle.hd_book.specs.declared.queue.TheConstants.{MAX_GROUP}

-- how many entries are acknowledged; where each batch after them ends, the oldest first; and how
-- many of these are in the group that is out, 0 if none is
pub record QueueView : Type 0 where
  pub acknowledged : ℕ
  pub ends : List ℕ
  pub out : ℕ

-- such a queue, and whether there is memory for one more batch
pub record Queued : Type 0 where
  pub batches : QueueView
  pub room : Bool

-- ---- what it says

-- where the last of some batches ends that begin after `from`
abbrev pub end_of : ℕ → List ℕ → ℕ
end_of from [] = from
end_of from (e ∷ ends) = end_of e ends

-- how many entries there are in all
abbrev pub entries_in_all : QueueView → ℕ
entries_in_all q = end_of q.acknowledged q.ends

-- where the group that is out ends
abbrev pub group_end : QueueView → ℕ
group_end q = end_of q.acknowledged (take q.out q.ends)

-- the entries of the group that is out, if one is
abbrev pub group_out : QueueView → Option (Range ℕ)
group_out q = if q.out == 0 then None else Some (record { start = q.acknowledged; end = group_end q })

-- the group that is out has these entries
abbrev pub is_out : QueueView → ℕ → ℕ → Bool
is_out q first end = nat_lt 0 q.out && (first == q.acknowledged) && (end == group_end q)

-- nothing waits, and no group is out
abbrev pub is_idle : QueueView → Bool
is_idle q = length q.ends == 0

-- a group is due: something waits, and none is out
abbrev pub is_due : QueueView → Bool
is_due q = (q.out == 0) && not (is_idle q)

-- these entries are acknowledged; none always are
abbrev pub are_acknowledged : QueueView → ℕ → ℕ → Bool
are_acknowledged q first end = (first == end) || nat_le end q.acknowledged

-- ---- what is done to it

-- a queue in which so many entries are acknowledged, and none after them
abbrev pub queue_from : ℕ → QueueView
queue_from n = record { acknowledged = n; ends = []; out = 0 }

-- one more batch of so many entries; one without entries does not wait
abbrev pub with_batch : ℕ → QueueView → QueueView
with_batch count q =
    record q { ends = if count == 0 then q.ends else q.ends ++ (entries_in_all q + count) ∷ [] }

-- a batch that ends here fits into a group of the entries from `from` on
abbrev pub fits_group : ℕ → ℕ → Bool
fits_group from end = nat_le (end - from) MAX_GROUP

-- how many batches go into the next group: from the oldest on, as many as fit together
abbrev pub fitting : QueueView → ℕ
fitting q = length (take_while (fits_group q.acknowledged) q.ends)

-- these batches are out, where none were
abbrev pub with_group : QueueView → QueueView
with_group q = record q { out = if q.out == 0 then fitting q else q.out }

-- the group that goes out next, if none is out
abbrev pub group_next : QueueView → Option (Range ℕ)
group_next q = if q.out == 0 then group_out (with_group q) else None

-- the group that was out is acknowledged
abbrev pub without_group : QueueView → QueueView
without_group q = record { acknowledged = group_end q; ends = drop q.out q.ends; out = 0 }

-- the group that was out waits again
abbrev pub with_none_out : QueueView → QueueView
with_none_out q = record q { out = 0 }

-- ---- what it keeps

-- batches begin after `from`: each has entries, and fits into a group
abbrev pub AreBatches : ℕ → List ℕ → Type 0
AreBatches from [] = Unit {0}
AreBatches from (e ∷ ends) = (from < e) × (e ≤ from + MAX_GROUP) × AreBatches e ends

-- the ends are those of batches, and what is out is among them
pub record IsQueue (q : QueueView) : Type 0 where
  pub batches : AreBatches q.acknowledged q.ends
  pub out : q.out ≤ length q.ends
