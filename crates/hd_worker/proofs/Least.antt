-- The least total of open nodes, from the best one.
use Rattle.std.proofs.Common.{◌≡◌, inl, inr, ℕ, suc, Option, Some, None, List, [], ◌∷◌, slice_get, refl, sym, ap, ◌∙◌, subst}
use Rattle.std.specs.List.{AllByRecursion}
use Rattle.std.proofs.lemmas.Option.{same_Some}
use Rattle.hd_base.proofs.Lists.{AllByRecursion-slice_get}
use Rattle.hd_task.specs.declared.state.State.{State}
use Rattle.hd_task.specs.declared.task.Task.{Task}
use Rattle.hd_entries.specs.Holding.{Released}
use Rattle.hd_open.specs.Totals.{IsNotAfter, IsBest}
use Rattle.hd_turns.specs.Totals.{total_at}
use Rattle.hd_worker.specs.declared.node.WaitingNode.{WaitingNode}
use Rattle.hd_worker.specs.Least.{IsLeastTotal}
use Rattle.hd_worker.specs.Nodes.{released_of, waiting_by, IsNodeOf}
use Rattle.hd_worker.proofs.Settled.{best_there, pick_there}

all_from : {A : Type 0} (P : A → Type 0) (xs : List A) → ((k : ℕ) (x : A) → slice_get xs k ≡ Some x → P x) → AllByRecursion P xs
all_from P [] f = tt
all_from P (x ∷ xs) f = (f 0 x refl, all_from P xs (λ k y at. f (suc k) y at))

-- what comes no earlier than a node without a total has none
none_behind : (place other_place : ℕ) (other : Option ℕ) → IsNotAfter None place other other_place → other ≡ None
none_behind place other_place other (inl less) = absurd (cc)
none_behind place other_place other (inr same) = sym same.0

pub least_at :
    {A : Type 0} (total : A → Option ℕ) (nodes : List A) (place : ℕ) (n : A) (o : Option ℕ) → IsBest total nodes place → slice_get nodes place ≡ Some n → total n ≡ o
    → IsLeastTotal total nodes o
least_at total nodes place n (Some least) best at is = (place, best, ap total (same_Some best.node n (sym best.there ∙ at)) ∙ is)
least_at total nodes place n None best at is =
    all_from (λ x. total x ≡ None) nodes
    (λ k x there.
    none_behind place k (total x)
    (subst (λ (o : Option ℕ). IsNotAfter o place (total x) k) (ap total (same_Some best.node n (sym best.there ∙ at)) ∙ is) (best.least k x there)))

pub least_of_none : {A : Type 0} (total : A → Option ℕ) (nodes : List A) → nodes ≡ [] → IsLeastTotal total nodes None
least_of_none total nodes none = subst (λ xs. IsLeastTotal total xs None) (sym none) tt

-- where all parcels are open nodes
pub least_there :
    (t : Task) (states : List State) (nodes nodes' : List WaitingNode) (waiting : List Released) (place : ℕ) (n : WaitingNode) → waiting_by states nodes [] ≡ waiting
    → AllByRecursion (IsNodeOf t states) nodes → IsBest (λ x. x.total) nodes place → nodes' ≡ nodes → slice_get nodes' place ≡ Some n → IsLeastTotal (total_at t) waiting n.total
least_there t states nodes nodes' waiting place n are all best same at =
    let there = ap (λ (ns : List WaitingNode). slice_get ns place) (sym same) ∙ at in
    least_at (total_at t) waiting place (released_of states n) n.total (best_there states nodes waiting are t place all best) (pick_there states nodes waiting are place n there)
    (sym (AllByRecursion-slice_get (IsNodeOf t states) nodes place n all there).total_is)
