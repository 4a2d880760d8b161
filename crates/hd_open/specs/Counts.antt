-- Counts of what slots hold, by groups. (Binary indexed trees: Fenwick 1994.)
use Rattle.std.specs.Prelude.{◌≡◌, ℕ, ◌+◌, ◌-◌, ◌*◌, ◌^◌, ◌<◌, ◌≤◌, List, Option, length, slice_index, bit_and}
use Rattle.hd_open.specs.declared.counts.NodeCounts.{NodeCounts}
use Rattle.hd_open.specs.declared.counts.TheConstants.{GROUP}
use Rattle.hd_open.specs.Live.{live, nodes_before}

-- a number without its lowest one bit
abbrev pub start_of : ℕ → ℕ
start_of end = bit_and end (end - 1)

-- the part that ends before a group
abbrev pub part_at : List ℕ → ℕ → ℕ
part_at parts end = slice_index parts (end - 1)

-- the part that ends before this one has a group
pub record HasGroupBefore (end group : ℕ) : Type 0 where
  pub from : start_of end ≤ group
  pub upto : group < end

-- each part that has a group is one more in the second list, the others are the same
pub record IsRaised (before after : List ℕ) (group : ℕ) : Type 0 where
  pub here : (end : ℕ) → end ≤ length before → HasGroupBefore end group → part_at after end ≡ part_at before end + 1
  pub earlier : (end : ℕ) → 0 < end → end ≤ group → part_at after end ≡ part_at before end
  pub later : (end : ℕ) → group < start_of end → part_at after end ≡ part_at before end
  pub len : length after ≡ length before

-- each part that has a group may be one more
abbrev pub AreBelowLimit : List ℕ → ℕ → Type 0
AreBelowLimit parts group = (end : ℕ) → end ≤ length parts → HasGroupBefore end group → part_at parts end + 1 < 2 ^ 64

-- no part that has a group is nought
abbrev pub AreSome : List ℕ → ℕ → Type 0
AreSome parts group = (end : ℕ) → end ≤ length parts → HasGroupBefore end group → 0 < part_at parts end

-- they are the counts of these slots
pub record AreCounts {A : Type 0} (slots : List (Option A)) (c : NodeCounts) : Type 0 where
  pub parts : (end : ℕ) → 0 < end → end ≤ length c.parts.items
      → nodes_before slots (GROUP * start_of end) + part_at c.parts.items end ≡ nodes_before slots (GROUP * end)
  pub all : c.all ≡ length (live slots)
  pub covering : length slots ≤ GROUP * length c.parts.items
