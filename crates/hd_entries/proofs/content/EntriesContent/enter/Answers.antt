use Rattle.std.proofs.Common.{◌≡◌, ◌∙◌, ℕ, ◌+◌, ◌<◌, ◌++◌, [], ◌∷◌, List, Some, length, sym, ap, ap₂, subst, arith}
use Rattle.std.specs.List.{AllByRecursion}
use Rattle.std.proofs.lemmas.List.{length-map}
use Rattle.hd_task.specs.declared.state.State.{State}
use Rattle.hd_task.specs.declared.task.Task.{Task}
use Rattle.hd_task.specs.declared.plan.Kid.{Kid}
use Rattle.hd_task.specs.declared.plan.TheConstants.{ROOT_PARENT}
use Rattle.hd_task.specs.Plans.{IsStateOf, node}
use Rattle.hd_node.specs.Children.{ChildView, children_at}
use Rattle.hd_entries.specs.declared.content.EntriesContent.{EntriesContent}
use Rattle.hd_entries.specs.Settling.{BookState, IsBookKept, node_of}
use Rattle.hd_entries.specs.Holding.{successor_at_entry, state_of, IsHeld}
use Rattle.hd_entries.specs.Resuming.{IsEntered, resumed_state}
use Rattle.hd_entries.specs.Waiting.{IsAgain, IsExpansionTo}
use Rattle.hd_entries.proofs.Entered.{entered_is}
use Rattle.hd_entries.proofs.Entering.{again_from, goes_on}
use Rattle.hd_entries.proofs.content.EntriesContent.enter.Goals as goal

-- what is needed to go on by a successor that is posted
record IsReady (s : EntriesContent) (k : Kid) (next : BookState) : Type 0 where
  kept : IsBookKept (resumed_state s.expanded.task.now (state_of s).entries)
  few : length (state_of s).entries + 1 < ROOT_PARENT
  expanded : IsExpansionTo (resumed_state s.expanded.task.now (state_of s).entries) k next

ready : (s d : EntriesContent) (k q : Kid) → IsHeld s → IsAgain (state_of s) → length s.expanded.entries.items < s.most → q ≡ k → IsExpansionTo (state_of s) q (state_of d) → IsReady s k (state_of d)
ready s d k q held again room kid expanded = record {
  kept = subst IsBookKept again held.kept;
  few = omega (arith, room, held.within, held.numbered, length-map s.expanded.entries.items successor_at_entry);
  expanded = subst (λ (b : BookState). IsExpansionTo b k (state_of d)) again (subst (λ (x : Kid). IsExpansionTo (state_of s) x (state_of d)) kid expanded);
}

pub returns-in-Ok-clause-again : goal.returns-in-Ok-clause-again
returns-in-Ok-clause-again c =
    let s = c.args.self.now in
    let t = s.expanded.task.now in
    let before = (state_of s).entries in
    let k = c.args.kid in
    let kid = c.in_ok-outline-in-Ok.ensures.kid ∙ (c.in-Ok.ensures.kid ∙ c.in_ok-parcel.ensures.kid) in
    let x = ready s c.record.new.self k c.in_ok-outline-in-Ok.outline.kid c.requires.held c.requires.again c.requires.room kid c.in_ok-record-in-Ok.ensures.expanded in
    again_from t (before ++ k ∷ []) (state_of c.record.new.self) (goes_on t before x.kept k x.few (state_of c.record.new.self) x.expanded)

pub returns-in-Ok-clause-leads : goal.returns-in-Ok-clause-leads
returns-in-Ok-clause-leads c =
    let s = c.args.self.now in
    let t = s.expanded.task.now in
    let before = (state_of s).entries in
    let k = c.args.kid in
    let p = c.in_ok-parcel.parcel in
    let e = c.in-Ok.expansion in
    let o = c.in_ok-outline-in-Ok.outline in
    let made = c.in-Ok.ensures in
    let told = c.in_ok-outline-in-Ok.ensures in
    let r = node o.state o.cost in
    let next = state_of c.record.new.self in
    let kid = told.kid ∙ (made.kid ∙ c.in_ok-parcel.ensures.kid) in
    let x = ready s c.record.new.self k o.kid c.requires.held c.requires.again c.requires.room kid c.in_ok-record-in-Ok.ensures.expanded in
    let leads : node_of (state_of s) k ≡ Some r =
    ap (node_of (state_of s)) (sym c.in_ok-parcel.ensures.kid)
    ∙ (c.in_ok-parcel.ensures.leads.leads ∙ ap₂ (λ (u : State) (n : ℕ). Some (node u n)) (sym (told.state ∙ made.state)) (sym (told.cost ∙ made.cost)))
    in
    let children : c.in_ok-outline-in-Ok.children ≡ children_at t r =
    told.children
    ∙ (e.all_children
    ∙ (ap (λ (u : Task). children_at u (node e.state e.cost)) made.task ∙ ap₂ (λ (u : State) (n : ℕ). children_at t (node u n)) (sym told.state) (sym told.cost)))
    in
    let is : IsEntered (resumed_state t before) r (children_at t r) next = entered_is t before x.kept k x.few next x.expanded r leads in
    subst (λ (cs : List ChildView). IsEntered (state_of s) r cs next) (sym children) (record { leads = is.leads; posts = is.posts })

pub returns-in-Ok-clause-of_task : goal.returns-in-Ok-clause-of_task
returns-in-Ok-clause-of_task c =
    subst (λ (u : Task). AllByRecursion (λ (x : ChildView). IsStateOf u x.state) c.in_ok-outline-in-Ok.children) c.in-Ok.ensures.task c.in_ok-outline-in-Ok.ensures.of_task
