-- Entries cover what they generate exactly where no successor that is no entry need be expanded.
use Rattle.std.proofs.Common.{◌≡◌, ℕ, ◌+◌, ◌<◌, ◌≤◌, Bool, true, false, not, ◌⊎◌, inl, inr, ⊎_elim, List, [], ◌∷◌, ◌++◌, map, take, length, get_or, slice_get, Contains, Option, Some, None, IfSome, IfNone, refl, sym, ap, ap₂, ◌∙◌, subst, arith, true≢false, is_some, ◌↔◌}
use Rattle.std.specs.Prelude.{option_and_then, flat_map}
use Rattle.std.specs.List.{AllByRecursion}
use Rattle.std.proofs.lemmas.Bool.{leb-true, le-leb, not-true, and_parts}
use Rattle.std.proofs.lemmas.List.{get_or-map, map-append, get_or_default}
use Rattle.std.proofs.lemmas.List.Elements.{Contains-get_or, Contains-append_right}
use Rattle.std.proofs.lemmas.Option.{none-some, same_Some, slice_get-get_or}
use Rattle.hd_base.proofs.Lists.{AllByRecursion-append}
use Rattle.hd_base.proofs.Members.{Contains-map, IsFrom-from_map, Contains-filter, Contains-from_filter, Contains-from_flat_map, passes-from_filter, Contains-nil, Contains-cons_cases}
use Rattle.hd_task.specs.declared.state.State.{State}
use Rattle.hd_task.specs.declared.task.Task.{Task}
use Rattle.hd_task.specs.declared.plan.Kid.{Kid}
use Rattle.hd_task.specs.declared.plan.TheConstants.{ROOT_PARENT}
use Rattle.hd_task.specs.Effects.{numbers_below}
use Rattle.hd_task.specs.Plans.{Node, node, exec, start, step_by, IsStateOf}
use Rattle.hd_task.specs.Departures.{action_departs}
use Rattle.hd_task.specs.Expansions.{is_applicable, applicable_at, followed_by, children, generated, bound_of}
use Rattle.hd_task.specs.Entries.{plan_of}
use Rattle.hd_task.specs.Covers.{IsDominated, IsBounded, Dead, Reaches, IsCovered}
use Rattle.hd_task.proofs.Runs.{exec-push, exec-state}
use Rattle.hd_hmax.specs.Rounds.{hmax}
use Rattle.hd_tables.specs.Kids.{root}
use Rattle.hd_node.specs.declared.batch.By.{By}
use Rattle.hd_closed.specs.Closed.{Closed, IsNamedBy, IsDearer, nothing, state_at}
use Rattle.hd_entries.specs.Kids.{posted_by}
use Rattle.hd_entries.specs.Marks.{IsPlanSettled}
use Rattle.hd_entries.specs.Settling.{BookState, expansions, IsBookKept, entry_node, node_of, reaches}
use Rattle.hd_entries.specs.Resuming.{has, open_before, open_kids, resumed_state}
use Rattle.hd_entries.specs.Holding.{posted_count}
use Rattle.hd_entries.proofs.Naming as naming
use Rattle.hd_entries.proofs.OpenPlaces as opening
use Rattle.hd_certify.specs.Covering.{IsSpared, AreAllSpared, AreOpen, AreSpared, IsNeeded, node_in, AreAllClosed}

-- ---- lists

pub contains_all : {X : Type 0} (P : X → Type 0) (xs : List X) (x : X) → AllByRecursion P xs → Contains xs x → P x
contains_all P [] x all k = absurd (Contains-nil x k)
contains_all P (y ∷ xs) x all k =
    ⊎_elim (λ same. subst P same all.0) (λ later. contains_all P xs x all.1 later) (Contains-cons_cases y xs x k)

-- ---- a test of the bound

pub reaches_bounded : (bound : Option ℕ) (s : State) (cost : ℕ) (v : Option ℕ) → reaches bound (Some (node s cost)) v ≡ true → IsBounded bound cost v
reaches_bounded bound s cost None e = Dead refl
reaches_bounded None s cost (Some v) e = absurd (true≢false (sym e))
reaches_bounded (Some limit) s cost (Some v) e = Reaches limit v refl refl (leb-true limit (cost + v) e)

pub bounded_reaches : (bound : Option ℕ) (s : State) (cost : ℕ) (v : Option ℕ) → IsBounded bound cost v → reaches bound (Some (node s cost)) v ≡ true
bounded_reaches bound s cost None why = refl
bounded_reaches bound s cost (Some v) (Dead dead) = absurd (none-some v (sym dead))
bounded_reaches None s cost (Some v) (Reaches b w is estimated reached) = absurd (none-some b is)
bounded_reaches (Some limit) s cost (Some v) (Reaches b w is estimated reached) =
    let same = same_Some limit b is in
    let value = same_Some v w estimated in
    le-leb limit (cost + v) (omega (arith, same, value, reached))

-- ---- a closed list that has the expansions of all entries

module _ (b : BookState) (closed : List Closed) (have : AreAllClosed b closed) where
  abbrev E : List (List ℕ)
  E = expansions b

  pub named_dominates : (s : State) (cost : ℕ) (by : By) → IsNamedBy closed s cost by → IsDominated b.task E (node s cost)
  named_dominates s cost by named =
      let c = named.0 in
      let at = named.1 in
      let from = IsFrom-from_map (exec b.task) E (node_in c) (subst (λ (ns : List (Option Node)). Contains ns (node_in c)) have (Contains-map node_in closed c at.among)) in
      record {
        plan = from.source;
        end = node c.state c.cost;
        among = from.among;
        executes = from.is;
        same_state = at.same_state;
        no_dearer = at.no_dearer;
      }

  pub dearer_spares_not : (s : State) (cost : ℕ) → IsDearer closed s cost → IsDominated b.task E (node s cost) → ⊥
  dearer_spares_not s cost dearer d =
      let there : Contains (map (exec b.task) E) (Some d.end) = subst (Contains (map (exec b.task) E)) d.executes (Contains-map (exec b.task) E d.plan d.among) in
      let from = IsFrom-from_map node_in closed (Some d.end) (subst (λ (ns : List (Option Node)). Contains ns (Some d.end)) (sym have) there) in
      let c = from.source in
      let same : node c.state c.cost ≡ d.end = same_Some (node c.state c.cost) d.end from.is in
      let costs : c.cost ≡ d.end.cost = ap (λ (r : Node). r.cost) same in
      let le = d.no_dearer in
      dearer c (record { among = from.among; same_state = ap (λ (r : Node). r.state) same ∙ d.same_state; no_dearer = omega (arith, costs, le) })

  -- an expansion that is found
  pub found_spares :
      (states : List State) (place cost : ℕ) (o : Option By) → is_some o ≡ true → IfSome o (λ by. IfSome (slice_get states place) (λ s. IsNamedBy closed s cost by))
      → place < length states → IsSpared b (node (state_at states place) cost)
  found_spares states place cost None some named lt = absurd (true≢false (sym some))
  found_spares states place cost (Some by) some named lt =
      inl (named_dominates (state_at states place) cost by (subst (λ (o : Option State). IfSome o (λ s. IsNamedBy closed s cost by)) (slice_get-get_or states place nothing lt) named))

  -- if none is found, the bound and the estimate tell
  pub estimate_spares :
      (states : List State) (place cost : ℕ) (o : Option By) (bound v : Option ℕ) (answer : Bool) → is_some o ≡ false
      → IfNone o (IfSome (slice_get states place) (λ s. IsDearer closed s cost)) → place < length states → bound ≡ bound_of b.task E → v ≡ hmax b.task (state_at states place)
      → answer ≡ reaches bound (Some (node (state_at states place) cost)) v → (answer ≡ true) ↔ IsSpared b (node (state_at states place) cost)
  estimate_spares states place cost (Some by) bound v answer none dearer lt bound_is v_is test = absurd (true≢false none)
  estimate_spares states place cost None bound v answer none dearer lt bound_is v_is test =
      let s = state_at states place in
      let all_dearer : IsDearer closed s cost = subst (λ (o : Option State). IfSome o (λ s. IsDearer closed s cost)) (slice_get-get_or states place nothing lt) dearer in
      let now : answer ≡ reaches (bound_of b.task E) (Some (node s cost)) (hmax b.task s) = test ∙ ap₂ (λ (x w : Option ℕ). reaches x (Some (node s cost)) w) bound_is v_is in (
        λ e. inr (reaches_bounded (bound_of b.task E) s cost (hmax b.task s) (sym now ∙ e)),
        λ spared.
            elim spared [
              | inl d ↦ absurd (dearer_spares_not s cost all_dearer d)
              | inr why ↦ now ∙ bounded_reaches (bound_of b.task E) s cost (hmax b.task s) why
            ],
      )

-- ---- the expansions of entries

-- a generated plan leads somewhere
generated_leads : (t : Task) (expanded : List (List ℕ)) (p : List ℕ) → Contains (generated t expanded) p → exec t p ≡ None → ⊥
unfolding applicable_at
generated_leads t expanded p c none =
    elim (Contains-cons_cases [] (flat_map (children t) expanded) p c) [
      | inl e ↦ none-some (start t) (sym (ap (exec t) e ∙ none))
      | inr c ↦
          let from = Contains-from_flat_map (children t) expanded p c in
          let q = from.0 in
          let its = IsFrom-from_map (followed_by q) (applicable_at t (exec t q)) p from.2 in
          let a = its.source in
          let applies = passes-from_filter (is_applicable t (exec t q)) (numbers_below (length t.actions)) a its.among in
          elim (exec t q) as (λ o. exec t q ≡ o → is_applicable t o a ≡ true → ⊥) [
            | None ↦ λ _ e. true≢false (sym e)
            | Some r ↦ λ is e.
                let there = (and_parts (is_some (step_by t r a)) (not (action_departs t r a)) e).0 in
                let nowhere : step_by t r a ≡ None = sym (exec-push t q r a is) ∙ (ap (exec t) its.is ∙ none) in
                true≢false (sym there ∙ ap is_some nowhere)
          ] refl applies
    ]

-- an entry leads somewhere
pub entry_leads : (b : BookState) → IsBookKept b → (n : ℕ) → n < length b.entries → entry_node b n ≡ None → ⊥
entry_leads b kept n lt none =
    let E = expansions b in
    let within : n < length E = omega (arith, lt, naming.length-plans_of b.entries E kept.named) in
    let at : slice_get E n ≡ Some (get_or E n []) = slice_get-get_or E n [] within in
    generated_leads b.task (take n E) (get_or E n []) (kept.marked.legal n [] within).generated_before (sym (ap (option_and_then (exec b.task)) at) ∙ none)

-- its state is one of the task
pub node_state : (b : BookState) (n : ℕ) (r : Node) → entry_node b n ≡ Some r → IsStateOf b.task r.state
node_state b n r e =
    elim (slice_get (expansions b) n) as (λ o. option_and_then (exec b.task) o ≡ Some r → IsStateOf b.task r.state) [
      | None ↦ λ e. absurd (none-some r e)
      | Some p ↦ λ e. exec-state b.task p r e
    ] e

-- ---- successors that are no entries

module _ (t : Task) (entries : List Kid) (kept : IsBookKept (resumed_state t entries)) where
  abbrev b : BookState
  b = resumed_state t entries

  abbrev E' : List (List ℕ)
  E' = expansions b

  abbrev G : List (List ℕ)
  G = generated t E'

  abbrev P : List Kid
  P = posted_by t E'

  short : length E' < ROOT_PARENT
  short = omega (arith, naming.length-plans_of entries E' kept.named, kept.short)

  count : length P ≡ length G
  count = naming.posted_count t E' short

  -- the successor at a place names the plan that is generated there
  names : (j : ℕ) → j < length G → plan_of E' (get_or P j root) ≡ Some (get_or G j [])
  names j lt =
      sym (get_or-map (plan_of E') P j root None (omega (arith, count, lt)))
      ∙ (ap (λ (xs : List (Option (List ℕ))). get_or xs j None) (naming.posted_named t E' short) ∙ get_or-map Some G j [] None lt)

  -- its mark says whether it is an entry
  mark : (j : ℕ) → j < length G → get_or b.marks j true ≡ has entries (get_or P j root)
  mark j lt = get_or-map (has entries) P j root true (omega (arith, count, lt))

  -- where the successor at a place leads
  leads_at : (j : ℕ) → j < length G → (k : Kid) (r : Node) → node_of b k ≡ Some r → k ≡ get_or P j root → exec t (get_or G j []) ≡ Some r
  leads_at j lt k r lead is = sym (ap (option_and_then (exec t)) (ap (plan_of E') is ∙ names j lt)) ∙ lead

  module _ (nodes : List Node) (are : AreOpen b nodes) where
    settled_at : AllByRecursion (IsSpared b) nodes → (j : ℕ) → j < length G → IsPlanSettled t (hmax t) E' (get_or G j [])
    settled_at spared j lt =
        let k = get_or P j root in
        elim (has entries k) as (λ h. has entries k ≡ h → IsPlanSettled t (hmax t) E' (get_or G j [])) [
          | true ↦ λ e. kept.marked.settled j (omega (arith, kept.marked.one_each, lt)) (mark j lt ∙ e)
          | false ↦ λ e.
              let open_ : Contains (open_kids t entries) k = Contains-filter (λ q. not (has entries q)) P k (Contains-get_or P j root (omega (arith, count, lt))) (ap not e) in
              let from = IsFrom-from_map Some nodes (node_of b k) (subst (λ (os : List (Option Node)). Contains os (node_of b k)) (sym are) (Contains-map (node_of b) (open_kids t entries) k open_)) in
              inr (record {
                end = from.source;
                executes = leads_at j lt k from.source (sym from.is) refl;
                why = contains_all (IsSpared b) nodes from.source spared from.among;
              })
        ] refl

    -- where none of them need be expanded, the entries cover what they generate
    pub all_covered : AllByRecursion (IsSpared b) nodes → IsCovered t (hmax t) E'
    all_covered spared p among =
        let is : get_or G among.0 [] ≡ p = get_or_default G among.0 [] p among.1 ∙ among.2 in
        subst (IsPlanSettled t (hmax t) E') is (settled_at spared among.0 among.1)

  -- where they cover it, no successor that is no entry need be expanded
  pub spared_of : IsCovered t (hmax t) E' → (k : Kid) (r : Node) → Contains (open_kids t entries) k → node_of b k ≡ Some r → IsSpared b r
  spared_of covers k r open_ leads =
      let posted : Contains P k = Contains-from_filter (λ q. not (has entries q)) P k open_ in
      let unlisted : has entries k ≡ false = not-true (has entries k) (passes-from_filter (λ q. not (has entries q)) P k open_) in
      let j = posted.0 in
      let lt : j < length G = omega (arith, count, posted.1) in
      let at : get_or P j root ≡ k = get_or_default P j root k posted.1 ∙ posted.2 in
      elim (covers (get_or G j []) (Contains-get_or G j [] lt)) [
        | inl among ↦ absurd (kept.marked.unsettled j (omega (arith, kept.marked.one_each, lt)) (mark j lt ∙ (ap (has entries) at ∙ unlisted)) among)
        | inr just ↦
            let same : just.end ≡ r = same_Some just.end r (sym just.executes ∙ leads_at j lt k r leads (sym at)) in
            subst (λ (r : Node). IsDominated t E' r ⊎ IsBounded (bound_of t E') r.cost (hmax t r.state)) same just.why
      ]

-- ---- successors that are looked at some at a time

-- the successors at the first places, so many of them, that are no entries are spared
pub record IsSparedBefore (b : BookState) (places : ℕ) : Type 0 where
  pub nodes : List Node
  pub are : map Some nodes ≡ map (node_of b) (open_before b places)
  pub spared : AllByRecursion (IsSpared b) nodes

pub spared_first : (b : BookState) → IsSparedBefore b 0
spared_first b = record { nodes = []; are = refl; spared = tt }

pub spared_more :
    (b : BookState) (from end : ℕ) (rs : List Node) → IsSparedBefore b from → map (node_of b) (open_before b from) ++ map Some rs ≡ map (node_of b) (open_before b end)
    → AllByRecursion (IsSpared b) rs → IsSparedBefore b end
spared_more b from end rs s are spared = record {
  nodes = s.nodes ++ rs;
  are = map-append Some s.nodes rs ∙ (ap (λ (os : List (Option Node)). os ++ map Some rs) s.are ∙ are);
  spared = AllByRecursion-append (IsSpared b) s.nodes rs s.spared spared;
}

pub spared_all : (b : BookState) → IsBookKept b → (places : ℕ) → posted_count b ≤ places → IsSparedBefore b places → AreSpared b
spared_all b kept places le s = record { nodes = s.nodes; are = s.are ∙ ap (map (node_of b)) (opening.all_open b kept places le); spared = s.spared }

-- one of those that were looked at last need be expanded
pub one_needed :
    (b : BookState) (from end : ℕ) (rs : List Node) → map (node_of b) (open_before b from) ++ map Some rs ≡ map (node_of b) (open_before b end)
    → AreAllSpared b rs false → IsNeeded b
one_needed b from end rs are needed =
    let r = needed.0 in
    let here : Contains (map Some rs) (Some r) = Contains-map Some rs r needed.1 in
    let there : Contains (map (node_of b) (open_before b end)) (Some r) = subst (λ (os : List (Option Node)). Contains os (Some r)) are (Contains-append_right (map (node_of b) (open_before b from)) (map Some rs) (Some r) here) in
    let its = IsFrom-from_map (node_of b) (open_before b end) (Some r) there in
    record {
      kid = its.source;
      among = opening.before_among b end its.source its.among;
      end = r;
      leads = its.is;
      needed = needed.2;
    }
