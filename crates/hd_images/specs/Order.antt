-- Ground forms in their order. (Our own.)
use Rattle.std.specs.Prelude.{◌≤◌, ◌^◌, List, length}
use Rattle.std.specs.List.{AllPairs}
use Rattle.hd_lifted.specs.declared.schema.Ground.{Ground}
use Rattle.hd_lifted.specs.Numbering.{ComesBefore, form_key}

-- each of these forms comes before those after it
abbrev pub IsRising : List Ground → Type 0
IsRising forms = AllPairs (λ g h. ComesBefore (form_key g) (form_key h)) forms

-- forms in their order, of which each has a number of 32 bits
pub record HaveNumbers (forms : List Ground) : Type 0 where
  pub rising : IsRising forms
  pub few : length forms ≤ 2 ^ 32
