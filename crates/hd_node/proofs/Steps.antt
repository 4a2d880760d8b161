-- The children of a node are its steps.
use Rattle.std.proofs.Common.{◌≡◌, ℕ, ◌^◌, ◌≤◌, nat_le, Bool, true, false, cond, not, ◌&&◌, ◌||◌, List, [], ◌∷◌, map, filter, length, Option, Some, None, is_some, Contains, ◌⊎◌, inl, inr, refl, sym, ap, ◌∙◌, subst, slice_get}
use Rattle.std.specs.List.{filter_map, cons_option, range_with_len, AllByRecursion}
use Rattle.std.proofs.lemmas.Bool.{true≢false, and_parts, leb-true}
use Rattle.std.proofs.lemmas.Option.{none-some, same_Some}
use Rattle.hd_base.proofs.Members.{Contains-cons_cases, Contains-nil, AllByRecursion-from_contains}
use Rattle.hd_base.specs.declared.range.TheConstants.{RANGE_END}
use Rattle.hd_base.proofs.Truth.{not-not}
use Rattle.hd_base.proofs.Options.{cond_then_some}
use Rattle.hd_task.specs.declared.action.Action.{Action}
use Rattle.hd_task.specs.declared.task.Task.{Task}
use Rattle.hd_task.specs.Conditions.{holds, condition_departs}
use Rattle.hd_task.specs.Effects.{effects_stay, step_cost}
use Rattle.hd_task.specs.Plans.{IsStateOf, Node, node, after_step, step, step_of, step_by}
use Rattle.hd_task.proofs.Runs.{exec_from-state}
use Rattle.hd_task.specs.Departures.{cost_stays, departs_by, action_departs}
use Rattle.hd_task.specs.Expansions.{is_applicable, applicable_at}
use Rattle.hd_node.specs.Children.{ChildView, child_to, child_at, children_at}
use Rattle.hd_node.specs.Expansion.{ExpansionView}

abbrev pub action_of : ChildView → ℕ
action_of c = c.action

actions_agree : (t : Task) (r : Node) (ns : List ℕ) → map action_of (filter_map (child_at t r) ns) ≡ filter (is_applicable t (Some r)) ns
actions_agree t r [] = refl
actions_agree t r (n ∷ ns) =
    elim (is_applicable t (Some r) n) as (λ b. is_applicable t (Some r) n ≡ b → map action_of (cons_option (cond b (child_to n (step_by t r n)) None) (filter_map (child_at t r) ns)) ≡ cond b (n ∷ filter (is_applicable t (Some r)) ns) (filter (is_applicable t (Some r)) ns)) [
      | true ↦ λ e.
          let defined = (and_parts (is_some (step_by t r n)) (not (action_departs t r n)) e).0 in
          elim (step_by t r n) as (λ o. is_some o ≡ true → map action_of (cons_option (child_to n o) (filter_map (child_at t r) ns)) ≡ n ∷ filter (is_applicable t (Some r)) ns) [
            | None ↦ λ d. absurd (true≢false (sym d))
            | Some to ↦ λ d. ap (λ (ms : List ℕ). n ∷ ms) (actions_agree t r ns)
          ] defined
      | false ↦ λ e. actions_agree t r ns
    ] refl

pub children-actions : (t : Task) (r : Node) → map action_of (children_at t r) ≡ applicable_at t (Some r)
unfolding children_at applicable_at
children-actions t r = actions_agree t r (range_with_len 0 (length t.actions))

-- what holds of a child
pub record IsStep (t : Task) (r : Node) (c : ChildView) : Type 0 where
  pub leads : step_by t r c.action ≡ Some (node c.state c.cost)
  pub applies : is_applicable t (Some r) c.action ≡ true

child_step : (t : Task) (r : Node) (n : ℕ) (o : Option Node) (c : ChildView) → is_applicable t (Some r) n ≡ true → step_by t r n ≡ o → child_to n o ≡ Some c → IsStep t r c
child_step t r n None c b is e = absurd (none-some c e)
child_step t r n (Some to) c b is e =
    let same : record { action = n; state = to.state; cost = to.cost } ≡ c = same_Some _ c e in
    subst (IsStep t r) same (record { leads = is; applies = b })

child_is : (t : Task) (r : Node) (n : ℕ) (b : Bool) (c : ChildView) → is_applicable t (Some r) n ≡ b → cond b (child_to n (step_by t r n)) None ≡ Some c → IsStep t r c
child_is t r n true c eb e = child_step t r n (step_by t r n) c eb refl e
child_is t r n false c eb e = absurd (none-some c e)

among_option : (o : Option ChildView) (xs : List ChildView) (c : ChildView) → Contains (cons_option o xs) c → (o ≡ Some c) ⊎ Contains xs c
among_option None xs c k = inr k
among_option (Some x) xs c k = elim (Contains-cons_cases x xs c k) [ inl e ↦ inl (ap Some e) | inr k ↦ inr k ]

steps_among : (t : Task) (r : Node) (ns : List ℕ) (c : ChildView) → Contains (filter_map (child_at t r) ns) c → IsStep t r c
steps_among t r [] c k = absurd (Contains-nil c k)
steps_among t r (n ∷ ns) c k =
    elim (among_option (child_at t r n) (filter_map (child_at t r) ns) c k) [
      | inl e ↦ child_is t r n (is_applicable t (Some r) n) c refl e
      | inr k ↦ steps_among t r ns c k
    ]

pub children_step : (t : Task) (r : Node) (c : ChildView) → Contains (children_at t r) c → IsStep t r c
unfolding children_at
children_step t r c k = steps_among t r (range_with_len 0 (length t.actions)) c k

-- the children of an expansion have states of the task
pub children_states : (e : ExpansionView) → AllByRecursion (λ (c : ChildView). IsStateOf e.task c.state) e.children
children_states e =
    let t = e.task in
    let r = node e.state e.cost in
    subst (λ cs. AllByRecursion (λ (c : ChildView). IsStateOf t c.state) cs) (sym e.all_children)
    (AllByRecursion-from_contains (λ (c : ChildView). IsStateOf t c.state) (children_at t r)
    (λ c k. exec_from-state t (c.action ∷ []) r (node c.state c.cost) e.of_task (children_step t r c k).leads))

-- ---- a step that does not depart costs no more than the range

within : (d h es : Bool) (o : Option Node) (to : Node) → h ≡ true → o ≡ Some to → not (d || (h && not (es && cost_stays o))) ≡ true → nat_le to.cost RANGE_END ≡ true
within true h es o to eh e s = absurd (true≢false (sym s))
within false false es o to eh e s = absurd (true≢false (sym eh))
within false true false o to eh e s = absurd (true≢false (sym s))
within false true true None to eh e s = absurd (none-some to e)
within false true true (Some x) to eh e s =
    ap (λ (y : Node). nat_le y.cost RANGE_END) (sym (same_Some x to e)) ∙ (sym (not-not (nat_le x.cost RANGE_END)) ∙ s)

holds_at : (t : Task) (r : Node) (a : Action) (to : Node) → step t r a ≡ Some to → holds r.state a.condition ≡ true
unfolding step
holds_at t r a to e = (cond_then_some (holds r.state a.condition) (after_step t r a (step_cost t r.state a)) to e).0

in_range_of : (t : Task) (r : Node) (o : Option Action) (to : Node) → step_of t r o ≡ Some to → not (departs_by t r o) ≡ true → nat_le to.cost RANGE_END ≡ true
in_range_of t r None to e stays = absurd (none-some to e)
in_range_of t r (Some a) to e stays =
    within (condition_departs r.state a.condition) (holds r.state a.condition) (effects_stay r.state a) (step t r a) to (holds_at t r a to e) e stays

pub step_in_range : (t : Task) (r : Node) (n : ℕ) (to : Node) → step_by t r n ≡ Some to → is_applicable t (Some r) n ≡ true → to.cost ≤ RANGE_END
unfolding step_by action_departs
step_in_range t r n to e applies =
    leb-true to.cost RANGE_END
    (in_range_of t r (slice_get t.actions n) to e (and_parts (is_some (step_by t r n)) (not (action_departs t r n)) applies).1)

-- ---- how many actions there are

pub few_actions : (t : Task) → length t.actions ≤ 2 ^ 20
few_actions t =
    let parts = and_parts (nat_le (length t.atoms) (2 ^ 20) && nat_le (length t.fluents) (2 ^ 16)) (nat_le (length t.actions) (2 ^ 20)) t.limits in
    leb-true (length t.actions) (2 ^ 20) parts.1
