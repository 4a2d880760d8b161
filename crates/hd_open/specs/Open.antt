-- An open list, as contracts see it. (Our own.)
use Rattle.std.specs.Prelude.{◌≡◌, ℕ, List, Option, Some, None, slice_get, refl}
use Rattle.std.specs.List.{remove}
use Rattle.std.specs.Coded.{Coded, code_by, coded_ℕ, coded_list, coded_option, coded×}
use Rattle.hd_open.specs.Totals.{IsBest}

-- the nodes that wait, in the order in which they came; and the gap that the node taken out last
-- has left, if nothing has happened since: the place where it stood, and its total
pub record Open (A : Type 0) : Type 0 where
  pub nodes : List A
  pub gap : Option (ℕ × Option ℕ)

-- the code of an open list, from a code of its nodes
abbrev pub open_code : {A : Type 0} → Coded A → Coded (Open A)
open_code {A} c =
    code_by (List A × Option (ℕ × Option ℕ)) (coded× (coded_list c) (coded_option (coded× coded_ℕ (coded_option coded_ℕ))))
    (λ o. (o.nodes, o.gap)) (λ p. record { nodes = p.0; gap = p.1 }) (λ _. refl)

-- the gap is of a node of this total
abbrev pub IsGapOf : Option ℕ → Option (ℕ × Option ℕ) → Type 0
IsGapOf total None = ⊥
IsGapOf total (Some g) = g.1 ≡ total

-- the node at a place was taken out, and has left a gap
pub record TakesAt {A : Type 0} (total : A → Option ℕ) (before : Open A) (place : ℕ) (node : A) (after : Open A) : Type 0 where
  pub node_is : slice_get before.nodes place ≡ Some node
  pub rest : after.nodes ≡ remove before.nodes place
  pub gap : after.gap ≡ Some (place, total node)

-- the best node was taken out
pub record TakesBest {A : Type 0} (total : A → Option ℕ) (before : Open A) (node : A) (after : Open A) : Type 0 where
  pub place : ℕ
  pub best : IsBest total before.nodes place
  pub taken : TakesAt total before place node after
