-- What an answer of `step` says of an expansion's children and departures.
use Rattle.std.proofs.Common.{◌≡◌, ℕ, ◌+◌, Bool, true, false, cond, List, [], ◌∷◌, ◌++◌, map, filter, Option, Some, None, refl, sym, ap, ◌∙◌, subst, arith, append_assoc}
use Rattle.std.proofs.lemmas.List.{map-append}
use Rattle.std.specs.Option.{option_to_list}
use Rattle.std.specs.List.{range_with_len, filter_map, cons_option}
use Rattle.std.proofs.lemmas.List.Elements.{filter_map-append, filter-append}
use Rattle.std.proofs.lemmas.Bool.{cond-true, cond-false}
use Rattle.hd_base.proofs.Lists.{range_with_len_more}
use Rattle.hd_task.specs.declared.task.Task.{Task}
use Rattle.hd_task.specs.declared.departure.DepartsBy.{DepartsBy}
use Rattle.hd_task.specs.declared.departure.DepartsBy.TheVariants.{Action}
use Rattle.hd_task.specs.declared.stepping.Reached.{Reached}
use Rattle.hd_task.specs.declared.stepping.Reached.TheVariants.{No, Next, Departs}
use Rattle.hd_task.specs.Plans.{Node, step_by}
use Rattle.hd_task.specs.Departures.{action_departs}
use Rattle.hd_task.specs.Stepping.{IsStepAnswer}
use Rattle.hd_task.specs.Expansions.{is_applicable}
use Rattle.hd_node.specs.Children.{ChildView, child_to, child_at, departing_by, departing_by_goal}

-- ---- one action

-- what an action finds at a node: a child or none, and what departs by it
record Finds (t : Task) (r : Node) (n : ℕ) (child : Option ChildView) (departs : List DepartsBy) : Type 0 where
  pub child_is : child_at t r n ≡ child
  pub departs_is : departing_by t r n ≡ departs

pub stops : (t : Task) (r : Node) (n : ℕ) → is_applicable t (Some r) n ≡ false → child_at t r n ≡ None
stops t r n e = cond-false (is_applicable t (Some r) n) (child_to n (step_by t r n)) None e

pub stays : (t : Task) (r : Node) (n : ℕ) → action_departs t r n ≡ false → departing_by t r n ≡ []
stays t r n e = cond-false (action_departs t r n) (Action n ∷ []) [] e

leaves : (t : Task) (r : Node) (n : ℕ) → action_departs t r n ≡ true → departing_by t r n ≡ Action n ∷ []
leaves t r n e = cond-true (action_departs t r n) (Action n ∷ []) [] e

-- the child and the departures that an answer of `step` reports
abbrev pub child_of : ℕ → Reached → Option ChildView
child_of n No = None
child_of n (Next s cost) = Some (record { action = n; state = s; cost = cost })
child_of n Departs = None

abbrev pub departing_of : ℕ → Reached → List DepartsBy
departing_of n No = []
departing_of n (Next s cost) = []
departing_of n Departs = Action n ∷ []

finds : (t : Task) (r : Node) (n : ℕ) (x : Reached) → IsStepAnswer t r n x → Finds t r n (child_of n x) (departing_of n x)
finds t r n No a = record { child_is = stops t r n (sym a.applicable); departs_is = stays t r n (sym a.departs) }
finds t r n (Next s cost) a = record {
  child_is =
      cond-true (is_applicable t (Some r) n) (child_to n (step_by t r n)) None (sym a.applicable)
      ∙ ap (child_to n) (a.leads s cost refl);
  departs_is = stays t r n (sym a.departs);
}
finds t r n Departs a = record { child_is = stops t r n (sym a.applicable); departs_is = leaves t r n (sym a.departs) }

-- ---- the actions up to a number

one_child : (o : Option ChildView) (f : ℕ → Option ChildView) (n : ℕ) → f n ≡ o → filter_map f (n ∷ []) ≡ option_to_list o
one_child None f n e = ap (λ o. cons_option o []) e
one_child (Some c) f n e = ap (λ o. cons_option o []) e

pub children_more : (t : Task) (r : Node) (n : ℕ) → filter_map (child_at t r) (range_with_len 0 (n + 1)) ≡ filter_map (child_at t r) (range_with_len 0 n) ++ option_to_list (child_at t r n)
children_more t r n =
    ap (filter_map (child_at t r)) (range_with_len_more 0 n n (omega arith))
    ∙ (filter_map-append (child_at t r) (range_with_len 0 n) (n ∷ [])
    ∙ ap (λ xs. filter_map (child_at t r) (range_with_len 0 n) ++ xs) (one_child (child_at t r n) (child_at t r) n refl))

-- what departs by the actions below a number
abbrev departing_below : Task → Node → ℕ → List DepartsBy
departing_below t r n = map Action (filter (action_departs t r) (range_with_len 0 n))

one_departs : (b : Bool) (n : ℕ) → map Action (cond b (n ∷ []) []) ≡ cond b (Action n ∷ []) []
one_departs true n = refl
one_departs false n = refl

departing_more : (t : Task) (r : Node) (n : ℕ) → departing_below t r (n + 1) ≡ departing_below t r n ++ departing_by t r n
departing_more t r n =
    ap (λ xs. map Action (filter (action_departs t r) xs)) (range_with_len_more 0 n n (omega arith))
    ∙ (ap (map Action) (filter-append (action_departs t r) (range_with_len 0 n) (n ∷ []))
    ∙ (map-append Action (filter (action_departs t r) (range_with_len 0 n)) (filter (action_departs t r) (n ∷ []))
    ∙ ap (λ xs. departing_below t r n ++ xs) (one_departs (action_departs t r n) n)))

-- ---- lists that grow by what an action finds

-- the children by the actions below a number
abbrev pub children_below : Task → Node → ℕ → List ChildView
children_below t r n = filter_map (child_at t r) (range_with_len 0 n)

-- what departs by the goal and by the actions below a number
abbrev pub found_below : Task → Node → ℕ → List DepartsBy
found_below t r n = departing_by_goal t r.state ++ departing_below t r n

pub found_more : (t : Task) (r : Node) (n : ℕ) → found_below t r (n + 1) ≡ found_below t r n ++ departing_by t r n
found_more t r n =
    ap (λ xs. departing_by_goal t r.state ++ xs) (departing_more t r n)
    ∙ sym (append_assoc (departing_by_goal t r.state) (departing_below t r n) (departing_by t r n))

children_next :
    (t : Task) (r : Node) (n : ℕ) (child : Option ChildView) (departs : List DepartsBy) (old new : List ChildView)
    → Finds t r n child departs → old ≡ children_below t r n → new ≡ old ++ option_to_list child → new ≡ children_below t r (n + 1)
children_next t r n child departs old new f eo en =
    en
    ∙ (ap (λ o. old ++ option_to_list o) (sym f.child_is)
    ∙ (ap (λ xs. xs ++ option_to_list (child_at t r n)) eo ∙ sym (children_more t r n)))

found_next :
    (t : Task) (r : Node) (n : ℕ) (child : Option ChildView) (departs old new : List DepartsBy)
    → Finds t r n child departs → old ≡ found_below t r n → new ≡ old ++ departs → new ≡ found_below t r (n + 1)
found_next t r n child departs old new f eo en =
    en
    ∙ (ap (λ ds. old ++ ds) (sym f.departs_is)
    ∙ (ap (λ xs. xs ++ departing_by t r n) eo ∙ sym (found_more t r n)))

-- both lists after one action more, by the answer of `step`
pub found_by_step :
    (t : Task) (r : Node) (n : ℕ) (answer x : Reached) (cs cs' : List ChildView) (ds ds' : List DepartsBy)
    → IsStepAnswer t r n answer → answer ≡ x → cs ≡ children_below t r n → ds ≡ found_below t r n
    → cs' ≡ cs ++ option_to_list (child_of n x) → ds' ≡ ds ++ departing_of n x
    → (cs' ≡ children_below t r (n + 1)) × (ds' ≡ found_below t r (n + 1))
found_by_step t r n answer x cs cs' ds ds' says is ec ed ec' ed' =
    let f = finds t r n x (subst (IsStepAnswer t r n) is says) in
    (children_next t r n (child_of n x) (departing_of n x) cs cs' f ec ec', found_next t r n (child_of n x) (departing_of n x) ds ds' f ed ed')

-- the child of an action, by the answer of `step`
pub child_at-is : (t : Task) (r : Node) (n : ℕ) (answer x : Reached) → IsStepAnswer t r n answer → answer ≡ x → child_at t r n ≡ child_of n x
child_at-is t r n answer x says is = (finds t r n x (subst (IsStepAnswer t r n) is says)).child_is
