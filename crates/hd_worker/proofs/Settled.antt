-- How a node that is taken out is settled, from the parts.
use Rattle.std.proofs.Common.{◌≡◌, ℕ, zero, suc, ◌+◌, ◌-◌, ◌^◌, ◌<◌, ◌≤◌, nat_le, min, Bool, true, false, cond, not, Option, Some, None, Result, Ok, Err, OnOk, OnErr, IfSome, List, [], ◌∷◌, ◌++◌, map, filter, length, drop, get_or, slice_get, refl, sym, ap, ap₂, ◌∙◌, subst, arith, append_assoc, append-nil}
use Rattle.std.specs.List.{AllByRecursion, insert, remove}
use Rattle.std.proofs.lemmas.Bool.{le-leb, leb-true}
use Rattle.std.proofs.lemmas.List.{length-append, map-append}
use Rattle.std.proofs.lemmas.List.Elements.{filter-append}
use Rattle.std.specs.Prelude.{option_map}
use Rattle.std.proofs.lemmas.Option.{none-some, same_Some, slice_get-map, slice_get-get_or, get_or_from_slice_get}
use Rattle.hd_base.proofs.Truth.{each_way}
use Rattle.hd_base.proofs.Lists.{AllByRecursion-slice_get}
use Rattle.hd_task.specs.declared.state.State.{State}
use Rattle.hd_task.specs.declared.task.Task.{Task}
use Rattle.hd_task.specs.Plans.{node}
use Rattle.hd_task.specs.Covers.{Estimate}
use Rattle.hd_hmax.specs.Estimate.{EstimateView}
use Rattle.hd_hmax.specs.Rounds.{hmax}
use Rattle.hd_node.specs.declared.batch.By.{By}
use Rattle.hd_node.specs.declared.batch.By.TheVariants.{Here}
use Rattle.hd_node.specs.declared.batch.Outcome.{Outcome}
use Rattle.hd_node.specs.declared.batch.Outcome.TheVariants.{Expanded, Duplicate, Bounded}
use Rattle.hd_node.specs.Expansion.{ExpansionView}
use Rattle.hd_node.specs.Parcel.{ParcelView}
use Rattle.hd_entries.specs.Settling.{reaches}
use Rattle.hd_entries.specs.Holding.{Released, parcel_of, IsParcelOf}
use Rattle.hd_closed.specs.Closed.{Closed, closed_at, state_at, nothing, IsNamedBy, IsDearer}
use Rattle.hd_base.specs.Lists.{BeginsWith}
use Rattle.hd_closed.proofs.Chains.{get_front}
use Rattle.hd_open.specs.Totals.{IsNotAfter, IsBest}
use Rattle.hd_worker.specs.declared.node.WaitingNode.{WaitingNode}
use Rattle.hd_worker.specs.Nodes.{kid_of, released_of, waiting_by, IsNodeOf}
use Rattle.hd_turns.specs.Worker.{is_own, is_foreign}
use Rattle.hd_worker.specs.Frontier.{FrontierView, with_room, received, opens}
use Rattle.hd_turns.specs.Settling.{IsOutcomeOf, Again, Beyond, Anew, is_beyond, closed_by}
use Rattle.hd_turns.specs.Totals.{total_of, total_at, reaches_bound}

-- a bound of 64 bits is reached by a total as by the cost and the estimate
pub reached_same :
    (bound : Option ℕ) (s : State) (cost : ℕ) (v : Option ℕ) → IfSome (total_of cost v) (λ _. IfSome bound (λ limit. limit < 2 ^ 64))
    → reaches_bound bound (total_of cost v) ≡ reaches bound (Some (node s cost)) v
reached_same bound s cost None small = refl
reached_same None s cost (Some v) small = refl
reached_same (Some limit) s cost (Some v) small =
    let few : limit < 2 ^ 64 = small in
    let most : ℕ = min (v + cost) (2 ^ 128 - 1) in
    each_way (nat_le limit most) (nat_le limit (cost + v))
    (λ e. let le : limit ≤ most = leb-true limit most e in le-leb limit (cost + v) (omega arith))
    (λ e. let le : limit ≤ cost + v = leb-true limit (cost + v) e in le-leb limit most (omega arith))

-- the best of nodes is the best of what they release
pub best_released :
    (t : Task) (states : List State) (nodes : List WaitingNode) (k : ℕ) → AllByRecursion (IsNodeOf t states) nodes → IsBest (λ n. n.total) nodes k
    → IsBest (total_at t) (map (released_of states) nodes) k
best_released t states nodes k all best = record {
  node = released_of states best.node;
  there = slice_get-map (released_of states) nodes k ∙ ap (λ (o : Option WaitingNode). option_map (released_of states) o) best.there;
  least = λ j other at.
      let from = node_of j other at in
      let mine = (AllByRecursion-slice_get (IsNodeOf t states) nodes k best.node all best.there).total_is in
      let its = (AllByRecursion-slice_get (IsNodeOf t states) nodes j from.0 all from.1).total_is in
      subst (λ (o : Option ℕ). IsNotAfter o k (total_at t other) j) mine
      (subst (λ (o : Option ℕ). IsNotAfter best.node.total k o j) (its ∙ ap (total_at t) from.2) (best.least j from.0 from.1));
}
  where
    node_of : (j : ℕ) (r : Released) → slice_get (map (released_of states) nodes) j ≡ Some r → (n : WaitingNode) × (slice_get nodes j ≡ Some n) × (released_of states n ≡ r)
    node_of j r at = by (slice_get nodes j) refl (sym (slice_get-map (released_of states) nodes j) ∙ at)
      where
        by : (o : Option WaitingNode) → slice_get nodes j ≡ o → option_map (released_of states) o ≡ Some r → (n : WaitingNode) × (slice_get nodes j ≡ Some n) × (released_of states n ≡ r)
        by None is e = absurd (none-some r e)
        by (Some n) is e = (n, is, same_Some (released_of states n) r e)

-- ---- outcomes

-- what an expansion is, where it is an outcome
expanded_parts : (e e' : ExpansionView) → Expanded e ≡ Expanded e' → e ≡ e'
expanded_parts e e' same = ap expansion_in same
  where
    expansion_in : Outcome → ExpansionView
    expansion_in (Expanded x) = x
    expansion_in (Duplicate k by) = e
    expansion_in (Bounded k h) = e

pub closed_of_expanded :
    (t : Task) (h : Estimate) (closed : List Closed) (seen : Option ℕ) (r : Released) (e : ExpansionView) → IsOutcomeOf t h closed seen r (Expanded e)
    → (e.state ≡ r.state) × (e.cost ≡ r.cost)
closed_of_expanded t h closed seen r e (Again c for is) = absurd (cc)
closed_of_expanded t h closed seen r e (Beyond e' apart beyond is own state value) = absurd (cc)
closed_of_expanded t h closed seen r e (Anew e' apart beyond is own kid state cost) =
    let same = expanded_parts e e' is in (ap (λ (x : ExpansionView). x.state) same ∙ state, ap (λ (x : ExpansionView). x.cost) same ∙ cost)

-- no other outcome closes anything
pub closes_nothing : (place : ℕ) (o : Outcome) → ((e : ExpansionView) → o ≡ Expanded e → ⊥) → closed_by place o ≡ []
closes_nothing place (Expanded e) none = absurd (none e refl)
closes_nothing place (Duplicate k by) none = refl
closes_nothing place (Bounded k h) none = refl

module _ (t : Task) (closed : List Closed) (seen : Option ℕ) (r : Released) (states : List State) (place : ℕ) (there : slice_get states place ≡ Some r.state) where
  pub again :
      (o : Outcome) (by : By) → IfSome (slice_get states place) (λ s. IsNamedBy closed s r.cost by) → o ≡ Duplicate r.kid by → IsOutcomeOf t (hmax t) closed seen r o
  again o by named is =
      let n : IsNamedBy closed r.state r.cost by = subst (λ (u : Option State). IfSome u (λ s. IsNamedBy closed s r.cost by)) there named in
      Again n.0 n.1 (is ∙ ap (Duplicate r.kid) (sym n.2))

  pub apart : IfSome (slice_get states place) (λ s. IsDearer closed s r.cost) → IsDearer closed r.state r.cost
  apart dearer = subst (λ (u : Option State). IfSome u (λ s. IsDearer closed s r.cost)) there dearer

  tested : (total : Option ℕ) (b : Bool) → total ≡ total_of r.cost (hmax t r.state) → IfSome total (λ _. IfSome seen (λ limit. limit < 2 ^ 64)) → reaches_bound seen total ≡ b → is_beyond (hmax t) seen r ≡ b
  tested total b is small test =
      sym (reached_same seen r.state r.cost (hmax t r.state) (subst (λ (o : Option ℕ). IfSome o (λ _. IfSome seen (λ limit. limit < 2 ^ 64))) is small)) ∙ (ap (reaches_bound seen) (sym is) ∙ test)

  pub beyond :
      (o : Outcome) (e : EstimateView) (total : Option ℕ) → IfSome (slice_get states place) (λ s. IsDearer closed s r.cost) → total ≡ total_of r.cost (hmax t r.state)
      → IfSome total (λ _. IfSome seen (λ limit. limit < 2 ^ 64)) → reaches_bound seen total ≡ true → o ≡ Bounded r.kid e → e.task ≡ t → e.state ≡ r.state → IsOutcomeOf t (hmax t) closed seen r o
  beyond o e total dearer is small test named own state =
      Beyond e (apart dearer) (tested total true is small test) named own state (e.estimates ∙ ap₂ hmax own state)

  pub anew :
      (o : Outcome) (e : ExpansionView) (total : Option ℕ) → IfSome (slice_get states place) (λ s. IsDearer closed s r.cost) → total ≡ total_of r.cost (hmax t r.state)
      → IfSome total (λ _. IfSome seen (λ limit. limit < 2 ^ 64)) → reaches_bound seen total ≡ false → o ≡ Expanded e → e.task ≡ t → e.kid ≡ r.kid → e.state ≡ r.state → e.cost ≡ r.cost
      → IsOutcomeOf t (hmax t) closed seen r o
  anew o e total dearer is small test named own kid state cost = Anew e (apart dearer) (tested total false is small test) named own kid state cost

  -- what is closed with an outcome
  pub closes :
      (e : ExpansionView) (at : ℕ) (cost : ℕ) → IsOutcomeOf t (hmax t) closed seen r (Expanded e) → cost ≡ r.cost
      → closed_at states place (Here at) cost ∷ [] ≡ closed_by at (Expanded e)
  closes e at cost is same =
      let parts = closed_of_expanded t (hmax t) closed seen r e is in
      ap₂ (λ (u : State) (c : ℕ). let x : Closed = record { by = Here at; state = u; cost = c } in x ∷ [])
      (get_or_from_slice_get states place r.state nothing there ∙ sym parts.0) (same ∙ sym parts.1)

-- ---- parcels become nodes

-- a state stays at its place where more come
pub state_stays : (states states' : List State) (k : ℕ) (s : State) → BeginsWith states' states → slice_get states k ≡ Some s → slice_get states' k ≡ Some s
state_stays states states' k s begins at = ap (λ (xs : List State). slice_get xs k) begins.1 ∙ get_front states begins.0 k s at

-- the state at a place is the one that stands there
pub state_found : (states : List State) (place place' : ℕ) (s : State) → slice_get states place ≡ Some s → place' ≡ place → state_at states place' ≡ s
state_found states place place' s at same = ap (state_at states) same ∙ get_or_from_slice_get states place s nothing at

-- a node of the state at a place, with this estimate
pub node_made :
    (t : Task) (states : List State) (n : WaitingNode) (place : ℕ) (s : State) (h : Option ℕ) → slice_get states place ≡ Some s → n.state ≡ place → IfSome (slice_get states place) (λ u. h ≡ hmax t u)
    → n.total ≡ total_of n.cost h → IsNodeOf t states n
node_made t states n place s h at same estimated is =
    let found = state_found states place n.state s at same in
    let its : h ≡ hmax t s = subst (λ (o : Option State). IfSome o (λ u. h ≡ hmax t u)) at estimated in
    record {
      there = ap (slice_get states) same ∙ (at ∙ ap (λ (u : State). Some u) (sym found));
      total_is = is ∙ (ap (total_of n.cost) its ∙ ap (λ (u : State). total_of n.cost (hmax t u)) (sym found));
    }

-- the first of parcels
pub first_there : {X : Type 0} (xs : List X) (x : X) → x ≡ get_or xs 0 x → 0 < length xs → slice_get xs 0 ≡ Some x
first_there {X} xs x is some = slice_get-get_or xs 0 x some ∙ ap (λ (y : X). Some y) (sym is)

-- what a node has of more states is what it has of the first
state_same : (t : Task) (states states' : List State) (n : WaitingNode) → BeginsWith states' states → IsNodeOf t states n → state_at states' n.state ≡ state_at states n.state
state_same t states states' n begins is =
    get_or_from_slice_get states' n.state (state_at states n.state) nothing (state_stays states states' n.state (state_at states n.state) begins is.there)

node_stays : (t : Task) (states states' : List State) (n : WaitingNode) → BeginsWith states' states → IsNodeOf t states n → IsNodeOf t states' n
node_stays t states states' n begins is =
    let same = state_same t states states' n begins is in
    record {
      there = state_stays states states' n.state (state_at states n.state) begins is.there ∙ ap (λ (s : State). Some s) (sym same);
      total_is = is.total_is ∙ ap (λ (s : State). total_of n.cost (hmax t s)) (sym same);
    }

-- nodes are nodes of more states too
pub nodes_stay : (t : Task) (states states' : List State) (nodes : List WaitingNode) → BeginsWith states' states → AllByRecursion (IsNodeOf t states) nodes → AllByRecursion (IsNodeOf t states') nodes
nodes_stay t states states' [] begins all = tt
nodes_stay t states states' (n ∷ nodes) begins all = (node_stays t states states' n begins all.0, nodes_stay t states states' nodes begins all.1)

-- and release the same
released_stay :
    (t : Task) (states states' : List State) (nodes : List WaitingNode) → BeginsWith states' states → AllByRecursion (IsNodeOf t states) nodes
    → map (released_of states') nodes ≡ map (released_of states) nodes
released_stay t states states' [] begins all = refl
released_stay t states states' (n ∷ nodes) begins all =
    ap₂ (λ (s : State) (rs : List Released). let r : Released = record { kid = kid_of n; state = s; cost = n.cost } in r ∷ rs) (state_same t states states' n begins all.0)
    (released_stay t states states' nodes begins all.1)

pub waiting_stays :
    (t : Task) (states states' : List State) (nodes : List WaitingNode) (fresh : List ParcelView) → BeginsWith states' states → AllByRecursion (IsNodeOf t states) nodes
    → waiting_by states' nodes fresh ≡ waiting_by states nodes fresh
waiting_stays t states states' nodes fresh begins all = ap (λ (rs : List Released). rs ++ map parcel_of fresh) (released_stay t states states' nodes begins all)

-- the first parcel that came is the last open node
pub waiting_moved :
    (t : Task) (states states' : List State) (nodes nodes' : List WaitingNode) (fresh fresh' : List ParcelView) (n : WaitingNode) (p : ParcelView) → BeginsWith states' states → AllByRecursion (IsNodeOf t states) nodes
    → nodes' ≡ nodes ++ n ∷ [] → fresh' ≡ drop 1 fresh → slice_get fresh 0 ≡ Some p → released_of states' n ≡ parcel_of p → waiting_by states' nodes' fresh' ≡ waiting_by states nodes fresh
waiting_moved t states states' nodes nodes' [] fresh' n p begins all more rest first is = absurd (none-some p first)
waiting_moved t states states' nodes nodes' (q ∷ fresh) fresh' n p begins all more rest first is =
    ap₂ (waiting_by states') more rest
    ∙ (ap (λ (rs : List Released). rs ++ map parcel_of fresh) (map-append (released_of states') nodes (n ∷ []))
    ∙ (append_assoc (map (released_of states') nodes) (released_of states' n ∷ []) (map parcel_of fresh)
    ∙ ap₂ (λ (rs : List Released) (r : Released). rs ++ r ∷ map parcel_of fresh) (released_stay t states states' nodes begins all) (is ∙ ap parcel_of (sym (same_Some q p first)))))

pub parcels_moved : (t : Task) (fresh fresh' : List ParcelView) → fresh' ≡ drop 1 fresh → AllByRecursion (IsParcelOf t) fresh → AllByRecursion (IsParcelOf t) fresh'
parcels_moved t [] fresh' rest all = subst (AllByRecursion (IsParcelOf t)) (sym rest) all
parcels_moved t (p ∷ fresh) fresh' rest all = subst (AllByRecursion (IsParcelOf t)) (sym rest) all.1

pub begins_twice : (a b c : List State) → BeginsWith b a → BeginsWith c b → BeginsWith c a
begins_twice a b c first second =
    (first.0 ++ second.0, second.1 ∙ (ap (λ (xs : List State). xs ++ second.0) first.1 ∙ append_assoc a first.0 second.0))

-- ---- parcels that are released

pub filter_more : (p : Released → Bool) (r : Released) (rs : List Released) → filter p (r ∷ []) ++ filter p rs ≡ filter p (r ∷ rs)
filter_more p r rs =
    elim (p r) as (λ b. cond b (r ∷ []) [] ++ filter p rs ≡ cond b (r ∷ filter p rs) (filter p rs)) [
      | true ↦ refl
      | false ↦ refl
    ]

pub opens_more : (own : Released → Bool) (r : Released) (rs : List Released) (f : FrontierView) → opens own rs (opens own (r ∷ []) f) ≡ opens own (r ∷ rs) f
opens_more own r rs f =
    ap₂ (λ (w : List Released) (n : ℕ). let x : FrontierView = record { task = f.task; waiting = w; closed = f.closed; room = n } in x)
    (append_assoc f.waiting (filter own (r ∷ [])) (filter own rs) ∙ ap (λ (xs : List Released). f.waiting ++ xs) (filter_more own r rs))
    (let one : length (r ∷ []) ≡ 1 = refl in let more : length (r ∷ rs) ≡ length rs + 1 = omega arith in omega arith)

-- the same of more of them
pub filter_after : (p : Released → Bool) (xs ys : List Released) → filter p xs ++ filter p ys ≡ filter p (xs ++ ys)
filter_after p xs ys = sym (filter-append p xs ys)

pub opens_after : (own : Released → Bool) (xs ys : List Released) (f : FrontierView) → opens own ys (opens own xs f) ≡ opens own (xs ++ ys) f
opens_after own xs ys f =
    ap₂ (λ (w : List Released) (n : ℕ). let x : FrontierView = record { task = f.task; waiting = w; closed = f.closed; room = n } in x)
    (append_assoc f.waiting (filter own xs) (filter own ys) ∙ ap (λ (zs : List Released). f.waiting ++ zs) (filter_after own xs ys))
    (omega (arith, length-append xs ys))

-- ---- results

pub on_ok : {T E : Type 0} (r : Result T E) (P Q : Type 0) → (P → Q) → OnOk r P → OnOk r Q
on_ok (Ok x) P Q f p = f p
on_ok (Err e) P Q f p = tt

pub on_err : {T E : Type 0} (r : Result T E) (P Q : Type 0) → (P → Q) → OnErr r P → OnErr r Q
on_err (Ok x) P Q f p = tt
on_err (Err e) P Q f p = f p

-- ---- a parcel comes

pub waiting_push : (states : List State) (nodes : List WaitingNode) (fresh fresh' : List ParcelView) (p : ParcelView) → fresh' ≡ fresh ++ p ∷ [] → waiting_by states nodes fresh' ≡ waiting_by states nodes fresh ++ parcel_of p ∷ []
waiting_push states nodes fresh fresh' p e =
    ap (waiting_by states nodes) e
    ∙ (ap (λ (rs : List Released). map (released_of states) nodes ++ rs) (map-append parcel_of fresh (p ∷ [])) ∙ sym (append_assoc (map (released_of states) nodes) (map parcel_of fresh) (parcel_of p ∷ [])))

-- a node goes, where all parcels are open nodes
pub waiting_remove : (states : List State) (nodes : List WaitingNode) (k : ℕ) → waiting_by states (remove nodes k) [] ≡ remove (waiting_by states nodes []) k
waiting_remove states nodes k =
    append-nil (map (released_of states) (remove nodes k)) ∙ (map-remove nodes k ∙ ap (λ (rs : List Released). remove rs k) (sym (append-nil (map (released_of states) nodes))))
  where
    map-remove : (ns : List WaitingNode) (k : ℕ) → map (released_of states) (remove ns k) ≡ remove (map (released_of states) ns) k
    map-remove [] zero = refl
    map-remove [] (suc k) = refl
    map-remove (n ∷ ns) zero = refl
    map-remove (n ∷ ns) (suc k) = ap (λ (rs : List Released). released_of states n ∷ rs) (map-remove ns k)

pub nodes_remove : (t : Task) (states : List State) (nodes : List WaitingNode) (k : ℕ) → AllByRecursion (IsNodeOf t states) nodes → AllByRecursion (IsNodeOf t states) (remove nodes k)
nodes_remove t states [] zero all = tt
nodes_remove t states [] (suc k) all = tt
nodes_remove t states (n ∷ nodes) zero all = all.1
nodes_remove t states (n ∷ nodes) (suc k) all = (all.0, nodes_remove t states nodes k all.1)

-- a node is put back where it was taken out
pub insert-remove : {X : Type 0} (xs : List X) (k : ℕ) (x : X) → slice_get xs k ≡ Some x → insert (remove xs k) k x ≡ xs
insert-remove [] k x e = absurd (none-some x e)
insert-remove {X} (y ∷ xs) zero x e = ap (λ (z : X). z ∷ xs) (sym (same_Some y x e))
insert-remove {X} (y ∷ xs) (suc k) x e = ap (λ (zs : List X). y ∷ zs) (insert-remove xs k x e)

-- ---- where one parcel goes

pub own_opens : (own : Released → Bool) (r : Released) (f : FrontierView) → own r ≡ true → received r f ≡ opens own (r ∷ []) f
own_opens own r f e =
    ap (λ (b : Bool). let x : FrontierView = record { task = f.task; waiting = f.waiting ++ cond b (r ∷ []) []; closed = f.closed; room = f.room - 1 } in x) (sym e)

pub foreign_opens : (own : Released → Bool) (r : Released) (f : FrontierView) → own r ≡ false → with_room (f.room - 1) f ≡ opens own (r ∷ []) f
foreign_opens own r f e =
    ap (λ (w : List Released). let x : FrontierView = record { task = f.task; waiting = w; closed = f.closed; room = f.room - 1 } in x) (sym (append-nil f.waiting))
    ∙ ap (λ (b : Bool). let x : FrontierView = record { task = f.task; waiting = f.waiting ++ cond b (r ∷ []) []; closed = f.closed; room = f.room - 1 } in x) (sym e)

pub own_stays : (id workers : ℕ) (r : Released) (rs : List Released) → is_own id workers r ≡ true → rs ≡ rs ++ filter (is_foreign id workers) (r ∷ [])
own_stays id workers r rs e = sym (ap (λ (b : Bool). rs ++ cond (not b) (r ∷ []) []) e ∙ append-nil rs)

pub foreign_goes : (id workers : ℕ) (r : Released) (rs : List Released) → is_own id workers r ≡ false → rs ++ r ∷ [] ≡ rs ++ filter (is_foreign id workers) (r ∷ [])
foreign_goes id workers r rs e = ap (λ (b : Bool). rs ++ cond (not b) (r ∷ []) []) (sym e)

pub opens_none : (own : Released → Bool) (f : FrontierView) → opens own [] f ≡ f
opens_none own f =
    ap₂ (λ (w : List Released) (n : ℕ). let x : FrontierView = record { task = f.task; waiting = w; closed = f.closed; room = n } in x) (append-nil f.waiting)
    (let none : f.room - 0 ≡ f.room = omega arith in none)

-- ---- where all parcels are open nodes, and their places

module _ (states : List State) (nodes : List WaitingNode) (waiting : List Released) (are : waiting_by states nodes [] ≡ waiting) where
  plain : map (released_of states) nodes ≡ waiting
  plain = sym (append-nil (map (released_of states) nodes)) ∙ are

  pub pick_there : (k : ℕ) (n : WaitingNode) → slice_get nodes k ≡ Some n → slice_get waiting k ≡ Some (released_of states n)
  pick_there k n at = ap (λ (rs : List Released). slice_get rs k) (sym plain) ∙ (slice_get-map (released_of states) nodes k ∙ ap (option_map (released_of states)) at)

  pub none_there : (k : ℕ) → slice_get nodes k ≡ None → slice_get waiting k ≡ None
  none_there k at = ap (λ (rs : List Released). slice_get rs k) (sym plain) ∙ (slice_get-map (released_of states) nodes k ∙ ap (option_map (released_of states)) at)

  pub nothing_there : nodes ≡ [] → waiting ≡ []
  nothing_there none = sym plain ∙ ap (map (released_of states)) none

  pub pick_gone : (nodes' : List WaitingNode) (fresh : List ParcelView) (k : ℕ) → nodes' ≡ remove nodes k → fresh ≡ [] → waiting_by states nodes' fresh ≡ remove waiting k
  pick_gone nodes' fresh k gone none = ap₂ (waiting_by states) gone none ∙ (waiting_remove states nodes k ∙ ap (λ (rs : List Released). remove rs k) are)

  pub pick_back : (nodes' nodes'' : List WaitingNode) (fresh : List ParcelView) (k : ℕ) (n : WaitingNode) → slice_get nodes k ≡ Some n → nodes' ≡ remove nodes k → nodes'' ≡ insert nodes' k n → fresh ≡ [] → waiting_by states nodes'' fresh ≡ waiting
  pick_back nodes' nodes'' fresh k n at gone back none =
      ap₂ (waiting_by states) (back ∙ (ap (λ (ns : List WaitingNode). insert ns k n) gone ∙ insert-remove nodes k n at)) none ∙ are

  pub best_there : (t : Task) (k : ℕ) → AllByRecursion (IsNodeOf t states) nodes → IsBest (λ n. n.total) nodes k → IsBest (total_at t) waiting k
  best_there t k all best = subst (λ (rs : List Released). IsBest (total_at t) rs k) plain (best_released t states nodes k all best)
