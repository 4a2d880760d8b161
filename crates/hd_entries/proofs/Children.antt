-- The children of an expansion: how many there are.
use Rattle.std.proofs.Common.{◌≡◌, ℕ, ◌+◌, ◌*◌, ◌^◌, ◌<◌, ◌≤◌, Option, Some, List, [], ◌∷◌, length, refl, ap, ap₂, ◌∙◌, arith, length-append}
use Rattle.std.specs.List.{range_with_len}
use Rattle.std.proofs.lemmas.List.{length-map}
use Rattle.std.proofs.lemmas.List.Sums.{length-filter, count_by-le-length}
use Rattle.std.proofs.lemmas.List.FromFn.{length-range_with_len}
use Rattle.hd_task.specs.declared.task.Task.{Task}
use Rattle.hd_task.specs.Plans.{Node, node}
use Rattle.hd_task.specs.Expansions.{is_applicable, applicable_at}
use Rattle.hd_node.specs.Children.{ChildView}
use Rattle.hd_node.specs.Expansion.{ExpansionView}
use Rattle.hd_node.specs.declared.batch.TheConstants.{MAX_OUTCOMES}
use Rattle.hd_node.specs.declared.batch.Outcome.{Outcome}
use Rattle.hd_node.specs.declared.batch.Outcome.TheVariants.{Expanded, Duplicate, Bounded}
use Rattle.hd_node.specs.Children.{children_at}
use Rattle.hd_node.proofs.Steps.{children-actions, few_actions}
use Rattle.hd_entries.specs.Settling.{entry_of}
use Rattle.hd_entries.specs.Growing.{kids_at, successor_count}
use Rattle.hd_entries.specs.Holding.{released_from, released_at, released_by}

-- ---- how many

pub few_applicable : (t : Task) (r : Option Node) → length (applicable_at t r) ≤ length t.actions
unfolding applicable_at
few_applicable t r =
    omega (arith, length-filter (is_applicable t r) (range_with_len 0 (length t.actions)), count_by-le-length (is_applicable t r) (range_with_len 0 (length t.actions)), length-range_with_len 0 (length t.actions))

few_of : (e : ExpansionView) → length e.children ≤ 1048576
few_of e =
    let t = e.task in
    let r = node e.state e.cost in
    omega (arith, ap length e.all_children, ap length (children-actions t r), length-map (children_at t r) (λ (c : ChildView). c.action), few_applicable t (Some r), few_actions t)

few_in : (outcomes : List Outcome) → successor_count outcomes ≤ length outcomes * 1048576
few_in [] = omega arith
few_in (Expanded e ∷ outcomes) = omega (arith, few_of e, few_in outcomes)
few_in (Duplicate k by ∷ outcomes) = omega (arith, few_in outcomes)
few_in (Bounded k h ∷ outcomes) = omega (arith, few_in outcomes)

-- the successors of a batch can be counted
pub few_kids : (outcomes outcomes' : List Outcome) → outcomes' ≡ outcomes → length outcomes ≤ MAX_OUTCOMES → successor_count outcomes' < 2 ^ 64
few_kids outcomes outcomes' same few = omega (arith, few_in outcomes, ap successor_count same, few)

-- outcomes release as many parcels as they have successors
released_here : (n : ℕ) (o : Outcome) → length (released_at n o) ≡ kids_at o
released_here n (Expanded e) = length-map e.children (released_from n)
released_here n (Duplicate k by) = refl
released_here n (Bounded k h) = refl

pub released_count : (n : ℕ) (outcomes : List Outcome) → length (released_by n outcomes) ≡ successor_count outcomes
released_count n [] = refl
released_count n (o ∷ outcomes) =
    length-append (released_at n o) (released_by (n + length (entry_of o)) outcomes)
    ∙ ap₂ ◌+◌ (released_here n o) (released_count (n + length (entry_of o)) outcomes)
