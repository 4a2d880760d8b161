-- What became of the nodes that a worker has settled. (Our own.)
use Rattle.std.specs.Prelude.{ℕ, ◌+◌, List, [], ◌∷◌}
use Rattle.hd_hmax.specs.declared.estimate.EstimateValue.{EstimateValue}
use Rattle.hd_hmax.specs.declared.estimate.EstimateValue.TheVariants.{Cost, Dead}
use Rattle.hd_node.specs.declared.batch.Outcome.{Outcome}
use Rattle.hd_node.specs.declared.batch.Outcome.TheVariants.{Expanded, Duplicate, Bounded}
use Rattle.hd_threads.specs.declared.tally.Tally.{Tally}

-- nothing is settled
abbrev pub no_tally : Tally
no_tally = record { expanded = 0; duplicates = 0; pruned = 0; dead = 0 }

-- a node more is bounded: its estimate is finite, and reaches the bound; or there is no way to the
-- goal
abbrev pub one_more_bounded : Tally → EstimateValue → Tally
one_more_bounded t (Cost c) = record { expanded = t.expanded; duplicates = t.duplicates; pruned = t.pruned + 1; dead = t.dead }
one_more_bounded t Dead = record { expanded = t.expanded; duplicates = t.duplicates; pruned = t.pruned; dead = t.dead + 1 }

-- a node more is settled, by this outcome
abbrev pub one_more : Tally → Outcome → Tally
one_more t (Expanded e) = record { expanded = t.expanded + 1; duplicates = t.duplicates; pruned = t.pruned; dead = t.dead }
one_more t (Duplicate k by) = record { expanded = t.expanded; duplicates = t.duplicates + 1; pruned = t.pruned; dead = t.dead }
one_more t (Bounded k h) = one_more_bounded t h.value

-- a tally, and after it that of outcomes
abbrev pub tally_from : Tally → List Outcome → Tally
tally_from t [] = t
tally_from t (o ∷ outcomes) = tally_from (one_more t o) outcomes

-- the tally of outcomes
abbrev pub tally_of : List Outcome → Tally
tally_of outcomes = tally_from no_tally outcomes

-- how many nodes a tally counts
abbrev pub settled_in : Tally → ℕ
settled_in t = t.expanded + t.duplicates + t.pruned + t.dead
