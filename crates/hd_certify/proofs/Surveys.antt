-- What is counted of entries.
use Rattle.std.proofs.Common.{◌≡◌, inl, inr, ℕ, zero, suc, ◌+◌, ◌<◌, ◌≤◌, ◌==◌, ◌↔◌, Bool, true, false, true≢false, cond, Option, Some, None, List, [], ◌∷◌, ◌++◌, map, take, length, get_or, slice_get, option_and_then, refl, sym, ap, ◌∙◌, subst, arith, append-nil}
use Rattle.std.specs.Prelude.{option_map, flat_map}
use Rattle.std.proofs.lemmas.Grind.{flat_map-append}
use Rattle.std.proofs.lemmas.Bool.{eqb-true, eqb-false}
use Rattle.std.proofs.lemmas.Option.{none-some, same_Some, slice_get-map, slice_get-get_or, slice_get_past, slice_get_within, get_or_from_slice_get}
use Rattle.std.proofs.lemmas.List.{take_more, take_all, map-append, length-append, length-map, length-take, get_or-take}
use Rattle.hd_task.specs.declared.task.Task.{Task}
use Rattle.hd_task.specs.declared.plan.Kid.{Kid}
use Rattle.hd_task.specs.declared.plan.TheConstants.{ROOT_PARENT, ROOT_ACTION}
use Rattle.hd_task.specs.declared.state.State.{State}
use Rattle.hd_task.specs.Entries.{plan_from, plan_of}
use Rattle.hd_task.specs.Plans.{Node, node, exec}
use Rattle.hd_tables.specs.Kids.{root}
use Rattle.hd_entries.specs.Settling.{BookState, IsBookKept, expansions, entry_node, node_of}
use Rattle.hd_entries.proofs.Naming.{length-plans_of}
use Rattle.hd_entries.proofs.Walking.{named_at, parent_names}
use Rattle.hd_task.specs.Expansions.{generated, bound_of, departures_of}
use Rattle.hd_image.specs.declared.entry.Entry.{Entry}
use Rattle.hd_journal.specs.Journal.{kid_of as entry_kid}
use Rattle.hd_entries.specs.Answers.{IsBoundPlanOf}
use Rattle.hd_entries.specs.Resuming.{first_fault, open_before, open_kids, resumed_state}
use Rattle.hd_entries.proofs.Again.{nothing_kept}
use Rattle.hd_entries.proofs.Faultless.{kept_from}
use Rattle.hd_certify.specs.declared.surveyed.Survey.{Survey}
use Rattle.hd_certify.specs.Covering.{IsSpared}
use Rattle.hd_certify.specs.Survey.{Tallies, Lessens, lesser, total_at, listed, node_total, short_total, totals_of, node_cost, costs_of, IsSettledBy, IsTableOf, IsSurveyOf}

-- ---- counting on

pub tally_push : {X : Type 0} (P : X → Type 0) (xs : List X) (x : X) (from to : ℕ) (is_so : Bool) → Tallies P xs from to → (is_so ≡ true) ↔ P x
    → Tallies P (xs ++ x ∷ []) from (cond is_so (to + 1) to)
tally_push P [] x from to true t is = inl (is.0 refl, ap (λ (n : ℕ). n + 1) t)
tally_push P [] x from to false t is = inr ((λ p. true≢false (sym (is.1 p))), t)
tally_push P (y ∷ xs) x from to is_so t is =
    elim t [
      | inl k ↦ inl (k.0, tally_push P xs x (from + 1) to is_so k.1 is)
      | inr k ↦ inr (k.0, tally_push P xs x from to is_so k.1 is)
    ]

pub counted_few : (is_so : Bool) (n m r : ℕ) → n ≤ m → r ≡ cond is_so (n + 1) n → r ≤ m + 1
counted_few true n m r le is = omega (arith, le, is)
counted_few false n m r le is = omega (arith, le, is)

-- ---- what is least

-- one node more, which is not so
pub lessens_push : (t : Task) (P : Node → Type 0) (ps : List Node) (p : Node) (from to next : Option ℕ) → Lessens t P ps from to → (P p → ⊥)
    → next ≡ lesser to (total_at t p) → Lessens t P (ps ++ p ∷ []) from next
lessens_push t P [] p from to next l differs is = inr (differs, is ∙ ap (λ (m : Option ℕ). lesser m (total_at t p)) l)
lessens_push t P (q ∷ ps) p from to next l differs is =
    elim l [
      | inl k ↦ inl (k.0, lessens_push t P ps p from to next k.1 differs is)
      | inr k ↦ inr (k.0, lessens_push t P ps p (lesser from (total_at t q)) to next k.1 differs is)
    ]

-- one node more, which is so
pub lessens_past : (t : Task) (P : Node → Type 0) (ps : List Node) (p : Node) (from to : Option ℕ) → Lessens t P ps from to → P p
    → Lessens t P (ps ++ p ∷ []) from to
lessens_past t P [] p from to l is = inl (is, l)
lessens_past t P (q ∷ ps) p from to l is =
    elim l [
      | inl k ↦ inl (k.0, lessens_past t P ps p from to k.1 is)
      | inr k ↦ inr (k.0, lessens_past t P ps p (lesser from (total_at t q)) to k.1 is)
    ]

-- ---- nodes after others

tally_on : {X : Type 0} (P : X → Type 0) (xs : List X) (a k c : ℕ) → Tallies P xs k c → Tallies P xs (a + k) (a + c)
tally_on P [] a k c t = ap (λ (n : ℕ). a + n) t
tally_on P (x ∷ xs) a k c t =
    elim t [
      | inl h ↦ inl (h.0, subst (λ (n : ℕ). Tallies P xs n (a + c)) (omega arith) (tally_on P xs a (k + 1) c h.1))
      | inr h ↦ inr (h.0, tally_on P xs a k c h.1)
    ]

tally_append : {X : Type 0} (P : X → Type 0) (xs ys : List X) (a m c : ℕ) → Tallies P xs a m → Tallies P ys 0 c → Tallies P (xs ++ ys) a (m + c)
tally_append P [] ys a m c t u =
    subst (λ (n : ℕ). Tallies P ys n (m + c)) t (subst (λ (n : ℕ). Tallies P ys n (m + c)) (omega arith) (tally_on P ys m 0 c u))
tally_append P (x ∷ xs) ys a m c t u =
    elim t [
      | inl h ↦ inl (h.0, tally_append P xs ys (a + 1) m c h.1 u)
      | inr h ↦ inr (h.0, tally_append P xs ys a m c h.1 u)
    ]

lesser_of_three : (f g h : Option ℕ) → lesser (lesser f g) h ≡ lesser f (lesser g h)
lesser_of_three None g h = refl
lesser_of_three (Some a) None h = refl
lesser_of_three (Some a) (Some b) None = refl
lesser_of_three (Some a) (Some b) (Some c) = ap Some (omega arith)

lesser_alone : (f : Option ℕ) → lesser f None ≡ f
lesser_alone None = refl
lesser_alone (Some a) = refl

lessens_on : (t : Task) (P : Node → Type 0) (ps : List Node) (f h g : Option ℕ) → Lessens t P ps h g → Lessens t P ps (lesser f h) (lesser f g)
lessens_on t P [] f h g l = ap (lesser f) l
lessens_on t P (p ∷ ps) f h g l =
    elim l [
      | inl k ↦ inl (k.0, lessens_on t P ps f h g k.1)
      | inr k ↦ inr (k.0, subst (λ (x : Option ℕ). Lessens t P ps x (lesser f g)) (sym (lesser_of_three f h (total_at t p))) (lessens_on t P ps f (lesser h (total_at t p)) g k.1))
    ]

lessens_append : (t : Task) (P : Node → Type 0) (ps qs : List Node) (f m g : Option ℕ) → Lessens t P ps f m → Lessens t P qs None g → Lessens t P (ps ++ qs) f (lesser m g)
lessens_append t P [] qs f m g l u =
    subst (λ (x : Option ℕ). Lessens t P qs x (lesser m g)) (lesser_alone m ∙ l) (lessens_on t P qs m None g u)
lessens_append t P (p ∷ ps) qs f m g l u =
    elim l [
      | inl k ↦ inl (k.0, lessens_append t P ps qs f m g k.1 u)
      | inr k ↦ inr (k.0, lessens_append t P ps qs (lesser f (total_at t p)) m g k.1 u)
    ]

-- the same of the successors at the first places, so many of them
pub record IsSettledBefore (b : BookState) (places n : ℕ) (least : Option ℕ) : Type 0 where
  pub nodes : List Node
  pub are : map Some nodes ≡ map (node_of b) (open_before b places)
  pub tally : Tallies (IsSpared b) nodes (length b.entries) n
  pub lessens : Lessens b.task (IsSpared b) nodes None least

pub settled_first : (b : BookState) (n : ℕ) → n ≡ length b.entries → IsSettledBefore b 0 n None
settled_first b n is = record { nodes = []; are = refl; tally = is; lessens = refl }

pub settled_more :
    (b : BookState) (from end n c : ℕ) (least here : Option ℕ) (rs : List Node) → IsSettledBefore b from n least
    → map (node_of b) (open_before b from) ++ map Some rs ≡ map (node_of b) (open_before b end) → Tallies (IsSpared b) rs 0 c → Lessens b.task (IsSpared b) rs None here
    → IsSettledBefore b end (n + c) (lesser least here)
settled_more b from end n c least here rs s are tally lessens = record {
  nodes = s.nodes ++ rs;
  are = map-append Some s.nodes rs ∙ (ap (λ (os : List (Option Node)). os ++ map Some rs) s.are ∙ are);
  tally = tally_append (IsSpared b) s.nodes rs (length b.entries) n c s.tally tally;
  lessens = lessens_append b.task (IsSpared b) s.nodes rs None least here s.lessens lessens;
}

pub settled_all : (b : BookState) (places n : ℕ) (least : Option ℕ) → open_before b places ≡ open_kids b.task b.entries → IsSettledBefore b places n least → IsSettledBy b n least
settled_all b places n least all s = record { nodes = s.nodes; are = s.are ∙ ap (map (node_of b)) all; tally = s.tally; lessens = s.lessens }

-- ---- the lengths of plans

-- the plan of an entry: none, or that of an earlier one and an action
data IsPlan (before : List (List ℕ)) (k : Kid) (p : List ℕ) : Type 0 where
  Begins : k.parent ≡ ROOT_PARENT → p ≡ [] → IsPlan before k p
  GoesOn : k.parent < length before → p ≡ get_or before k.parent [] ++ k.action ∷ [] → IsPlan before k p

root_names : (before : List (List ℕ)) (k : Kid) (p : List ℕ) (is_root : Bool) → (k.parent == ROOT_PARENT) ≡ is_root → is_root ≡ true
    → plan_of before k ≡ Some p → p ≡ []
root_names before k p is_root e is_so is =
    let by_action : cond (k.action == ROOT_ACTION) (Some []) None ≡ Some p =
    sym (ap (λ (b : Bool). cond b (cond (k.action == ROOT_ACTION) (Some []) None) (plan_from (slice_get before k.parent) k.action)) (e ∙ is_so)) ∙ is in
    elim (k.action == ROOT_ACTION) as (λ b. cond b (Some []) None ≡ Some p → p ≡ []) [
      | true ↦ λ e. sym (same_Some [] p e)
      | false ↦ λ e. absurd (none-some p e)
    ] by_action

named_plan : (before : List (List ℕ)) (k : Kid) (p : List ℕ) (is_root : Bool) → (k.parent == ROOT_PARENT) ≡ is_root → plan_of before k ≡ Some p
    → IsPlan before k p
named_plan before k p true e is = Begins (eqb-true k.parent ROOT_PARENT e) (root_names before k p true e refl is)
named_plan before k p false e is =
    let h = parent_names before k p (eqb-false k.parent ROOT_PARENT e) is in
    GoesOn h.within h.is

-- the depth that an entry has by that of its parent
abbrev pub next_depth : Option ℕ → ℕ
next_depth None = 0
next_depth (Some depth) = depth + 1

module _ (b : BookState) (kept : IsBookKept b) where
  abbrev E : List (List ℕ)
  E = expansions b

  plan_here : (n : ℕ) (k : Kid) → slice_get b.entries n ≡ Some k → IsPlan (take n E) k (get_or E n [])
  plan_here n k at =
      let within : n < length b.entries = slice_get_within b.entries n k at in
      let here : 0 + n ≡ n = omega arith in
      let named = named_at b.entries [] E n kept.named within in
      let kid : get_or b.entries n root ≡ k = get_or_from_slice_get b.entries n k root at in
      named_plan (take n E) k (get_or E n []) (k.parent == ROOT_PARENT) refl
      (ap (plan_of (take n E)) (sym kid)
      ∙ subst (λ (m : ℕ). plan_of (take m E) (get_or b.entries n root) ≡ Some (get_or E m [])) here named)

  -- no plan is longer than there are entries before it
  small_by : (n : ℕ) (k : Kid) → IsPlan (take n E) k (get_or E n []) → ((j : ℕ) → j < n → length (get_or E j []) ≤ j)
      → length (get_or E n []) ≤ n
  small_by n k (Begins is empty) less = let none = ap length empty in omega (arith, none)
  small_by n k (GoesOn before is) less =
      let parent : k.parent < n = omega (arith, before, length-take n E) in
      let q = get_or (take n E) k.parent [] in
      let same : length q ≡ length (get_or E k.parent []) = ap length (get_or-take n E k.parent [] parent) in
      let whole = ap length is in
      let both = length-append q (k.action ∷ []) in
      let up = less k.parent parent in
      omega (arith, whole, both, same, up, parent)

  pub depth_small : (m n : ℕ) → n < m → n < length b.entries → length (get_or E n []) ≤ n
  depth_small zero n lt among = absurd (omega (arith, lt))
  depth_small (suc m) n lt among =
      small_by n (get_or b.entries n root) (plan_here n (get_or b.entries n root) (slice_get-get_or b.entries n root among))
      (λ j before. depth_small m j (omega (arith, lt, before)) (omega (arith, before, among)))

  depth_by : (n : ℕ) (k : Kid) → n < ROOT_PARENT → IsPlan (take n E) k (get_or E n [])
      → length (get_or E n []) ≡ next_depth (slice_get (map length (take n E)) k.parent)
  depth_by n k few (Begins is empty) =
      let past : length (map length (take n E)) ≤ k.parent =
      omega (arith, few, is, length-map (take n E) length, length-take n E) in
      ap length empty ∙ sym (ap next_depth (slice_get_past (map length (take n E)) k.parent past))
  depth_by n k few (GoesOn before is) =
      let q = get_or (take n E) k.parent [] in
      let at : slice_get (map length (take n E)) k.parent ≡ Some (length q) =
      slice_get-map length (take n E) k.parent ∙ ap (option_map length) (slice_get-get_or (take n E) k.parent [] before) in
      ap length is ∙ (length-append q (k.action ∷ []) ∙ sym (ap next_depth at))

  pub depth_is : (n : ℕ) (k : Kid) (before : List ℕ) → slice_get b.entries n ≡ Some k → before ≡ map length (take n E)
      → length (get_or E n []) ≡ next_depth (slice_get before k.parent)
  depth_is n k before at is =
      let within : n < length b.entries = slice_get_within b.entries n k at in
      depth_by n k (omega (arith, within, kept.short)) (plan_here n k at)
      ∙ ap (λ (xs : List ℕ). next_depth (slice_get xs k.parent)) (sym is)

  pub depths_more : (n depth : ℕ) (depths : List ℕ) → n < length b.entries → depths ≡ map length (take n E) → depth ≡ length (get_or E n [])
      → depths ++ depth ∷ [] ≡ map length (take (n + 1) E)
  depths_more n depth depths lt is at =
      let within : n < length E = omega (arith, lt, length-plans_of b.entries E kept.named) in
      ap (λ (xs : List ℕ). xs ++ depth ∷ []) is
      ∙ (ap (λ (d : ℕ). map length (take n E) ++ d ∷ []) at
      ∙ sym (ap (map length) (take_more E n [] within) ∙ map-append length (take n E) (get_or E n [] ∷ [])))

  pub all_depths : (n : ℕ) (depths : List ℕ) → length b.entries ≤ n → depths ≡ map length (take n E) → depths ≡ map length E
  all_depths n depths past is =
      is ∙ ap (map length) (take_all n E (omega (arith, past, length-plans_of b.entries E kept.named)))

  -- ---- what plans cost

  abbrev cost_of_plan : List ℕ → ℕ
  cost_of_plan p = node_cost (exec b.task p)

  pub costs_more : (n cost : ℕ) (s : State) (costs : List ℕ) → n < length b.entries → costs ≡ costs_of b.task (take n E)
      → entry_node b n ≡ Some (node s cost) → costs ++ cost ∷ [] ≡ costs_of b.task (take (n + 1) E)
  costs_more n cost s costs lt is at =
      let within : n < length E = omega (arith, lt, length-plans_of b.entries E kept.named) in
      let there : slice_get E n ≡ Some (get_or E n []) = slice_get-get_or E n [] within in
      let leads : exec b.task (get_or E n []) ≡ Some (node s cost) =
      sym (ap (option_and_then (exec b.task)) there) ∙ at in
      ap (λ (xs : List ℕ). xs ++ cost ∷ []) is
      ∙ (ap (λ (c : ℕ). costs_of b.task (take n E) ++ c ∷ []) (sym (ap node_cost leads))
      ∙ sym (ap (map cost_of_plan) (take_more E n [] within) ∙ map-append cost_of_plan (take n E) (get_or E n [] ∷ [])))

  pub all_costs : (n : ℕ) (costs : List ℕ) → length b.entries ≤ n → costs ≡ costs_of b.task (take n E) → costs ≡ costs_of b.task E
  all_costs n costs past is =
      is ∙ ap (costs_of b.task) (take_all n E (omega (arith, past, length-plans_of b.entries E kept.named)))

  -- ---- the totals of plans

  abbrev total_of_plan : List ℕ → List ℕ
  total_of_plan p = short_total (node_total b.task (exec b.task p))

  pub totals_more : (n : ℕ) (total : Option ℕ) (totals : List ℕ) → n < length b.entries → totals ≡ totals_of b.task (take n E)
      → listed total ≡ short_total (node_total b.task (entry_node b n)) → totals ++ listed total ≡ totals_of b.task (take (n + 1) E)
  totals_more n total totals lt is at =
      let within : n < length E = omega (arith, lt, length-plans_of b.entries E kept.named) in
      let there : slice_get E n ≡ Some (get_or E n []) = slice_get-get_or E n [] within in
      let own : listed total ≡ total_of_plan (get_or E n []) =
      at ∙ ap (λ (o : Option (List ℕ)). short_total (node_total b.task (option_and_then (exec b.task) o))) there in
      ap (λ (xs : List ℕ). xs ++ listed total) is
      ∙ (ap (λ (xs : List ℕ). totals_of b.task (take n E) ++ xs) (own ∙ sym (append-nil (total_of_plan (get_or E n []))))
      ∙ sym (ap (flat_map total_of_plan) (take_more E n [] within) ∙ flat_map-append total_of_plan (take n E) (get_or E n [] ∷ [])))

  pub all_totals : (n : ℕ) (totals : List ℕ) → length b.entries ≤ n → totals ≡ totals_of b.task (take n E) → totals ≡ totals_of b.task E
  all_totals n totals past is =
      is ∙ ap (totals_of b.task) (take_all n E (omega (arith, past, length-plans_of b.entries E kept.named)))

-- ---- all of it

pub survey_is : (t : Task) (most : ℕ) → most < ROOT_PARENT → (entries : List Entry) → length entries ≤ most
    → first_fault t [] (map entry_kid entries) ≡ None → (b : BookState) → b ≡ resumed_state t (map entry_kid entries)
    → (s : Survey) → s.bound ≡ bound_of b.task (expansions b)
    → IsBoundPlanOf b.task (expansions b) s.plan → s.posted ≡ length (generated b.task (expansions b))
    → IsSettledBy b s.settled s.least → s.departure ≡ slice_get (departures_of b.task (expansions b)) 0
    → IsTableOf (map length (expansions b)) s.depths → IsTableOf (costs_of b.task (expansions b)) s.costs → IsTableOf (totals_of b.task (expansions b)) s.totals
    → IsSurveyOf t entries s
survey_is t most few entries le free b e s bound plan posted settled departure depths costs totals =
    let ks = map entry_kid entries in
    let kept = kept_from t ks [] (nothing_kept t) (omega (arith, few, le, length-map entries entry_kid)) free in
    record {
      expanded = expansions (resumed_state t ks);
      named = kept.named;
      legal = kept.marked.legal;
      bound = subst (λ (x : BookState). s.bound ≡ bound_of x.task (expansions x)) e bound;
      plan = subst (λ (x : BookState). IsBoundPlanOf x.task (expansions x) s.plan) e plan;
      posted = subst (λ (x : BookState). s.posted ≡ length (generated x.task (expansions x))) e posted;
      settled = subst (λ (x : BookState). IsSettledBy x s.settled s.least) e settled;
      departure = subst (λ (x : BookState). s.departure ≡ slice_get (departures_of x.task (expansions x)) 0) e departure;
      depths = subst (λ (x : BookState). IsTableOf (map length (expansions x)) s.depths) e depths;
      costs = subst (λ (x : BookState). IsTableOf (costs_of x.task (expansions x)) s.costs) e costs;
      totals = subst (λ (x : BookState). IsTableOf (totals_of x.task (expansions x)) s.totals) e totals;
    }
