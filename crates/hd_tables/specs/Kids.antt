-- The successors that entries post, as contracts see the table of them. (Our own; the pairs are
-- those of the journal.)
use Rattle.std.specs.Prelude.{◌≡◌, ◌≢◌, ℕ, ◌+◌, ◌-◌, ◌<◌, Bool, false, ◌&&◌, ◌==◌, List, [], ◌∷◌, ◌++◌, length, slice_set, slice_index_or}
use Rattle.std.specs.List.{count_by}
use Rattle.hd_task.specs.declared.plan.Kid.{Kid}
use Rattle.hd_task.specs.declared.plan.TheConstants.{ROOT_PARENT, ROOT_ACTION}

-- a table: the successors in the order in which they were posted, the root first; for each of them
-- a mark, whether it is settled; how many entries there are; and for how many entries and
-- successors more there is room without asking for memory
pub record KidsView : Type 0 where
  pub kids : List Kid
  pub marks : List Bool
  pub entries : ℕ
  pub entry_room : ℕ
  pub kid_room : ℕ

-- the root, which names the empty plan
abbrev pub root : Kid
root = record { parent = ROOT_PARENT; action = ROOT_ACTION }

-- the successor of an entry and an action
abbrev pub kid_from : ℕ → ℕ → Kid
kid_from n a = record { parent = n; action = a }

-- two successors are the same pair
abbrev pub same_kid : Kid → Kid → Bool
same_kid k q = (k.parent == q.parent) && (k.action == q.action)

-- how many successors are settled
abbrev pub marked_count : KidsView → ℕ
marked_count t = count_by (λ m. m) t.marks

-- two tables have the same successors and marks
pub record AreSameKids (t u : KidsView) : Type 0 where
  pub kids : u.kids ≡ t.kids
  pub marks : u.marks ≡ t.marks
  pub entries : u.entries ≡ t.entries

-- an action comes after those of the successors of entry n
abbrev pub ComesAfter : List Kid → ℕ → ℕ → Type 0
ComesAfter kids n a = (i : ℕ) (d : Kid) → i < length kids → (slice_index_or kids i d).parent ≡ n → (slice_index_or kids i d).action < a

-- no successor is one of entry n
abbrev pub HasNone : List Kid → ℕ → Type 0
HasNone kids n = (i : ℕ) (d : Kid) → i < length kids → (slice_index_or kids i d).parent ≢ n

-- the table with another mark at a place
abbrev pub with_mark_at : KidsView → ℕ → Bool → KidsView
with_mark_at t k mark = record {
  kids = t.kids;
  marks = slice_set t.marks k mark;
  entries = t.entries;
  entry_room = t.entry_room;
  kid_room = t.kid_room;
}

-- the table with an entry more, which has no successors
abbrev pub with_new_entry : KidsView → KidsView
with_new_entry t = record {
  kids = t.kids;
  marks = t.marks;
  entries = t.entries + 1;
  entry_room = t.entry_room - 1;
  kid_room = t.kid_room;
}

-- the table with a successor more of its last entry, which is not settled
abbrev pub with_kid : KidsView → ℕ → KidsView
with_kid t a = record {
  kids = t.kids ++ kid_from (t.entries - 1) a ∷ [];
  marks = t.marks ++ false ∷ [];
  entries = t.entries;
  entry_room = t.entry_room;
  kid_room = t.kid_room - 1;
}
