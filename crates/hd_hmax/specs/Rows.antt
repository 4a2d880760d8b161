-- Rows of numbers in one list: where each starts, and where the last one ends. (Our own.)
use Rattle.std.specs.Prelude.{◌≡◌, ℕ, ◌-◌, ◌≤◌, List, [], ◌∷◌, length, take, drop, slice_index_or}

-- the rows between starts, of a list that begins at the first start
abbrev pub rows_of : List ℕ → List ℕ → List (List ℕ)
rows_of [] items = []
rows_of (s ∷ []) items = []
rows_of (s ∷ e ∷ starts) items = take (e - s) items ∷ rows_of (e ∷ starts) (drop (e - s) items)

-- starts rise, and the last one is the end of the list
abbrev pub AreStarts : List ℕ → List ℕ → Type 0
AreStarts [] items = ⊥
AreStarts (s ∷ []) items = items ≡ []
AreStarts (s ∷ e ∷ starts) items = (s ≤ e) × (e - s ≤ length items) × AreStarts (e ∷ starts) (drop (e - s) items)

-- the first row starts at the beginning
pub record IsLaid (starts items : List ℕ) : Type 0 where
  pub first : slice_index_or starts 0 0 ≡ 0
  pub rise : AreStarts starts items
