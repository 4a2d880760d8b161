use Rattle.std.proofs.Common.{◌∙◌, ℕ, Some, sym, ap, ap₂, subst}
use Rattle.std.specs.Result.{OnOk}
use Rattle.hd_task.specs.declared.state.State.{State}
use Rattle.hd_task.specs.declared.plan.Kid.{Kid}
use Rattle.hd_task.specs.Plans.{node}
use Rattle.hd_entries.specs.Settling.{knows_parent, is_posted, is_marked, node_of, place_of}
use Rattle.hd_entries.specs.Holding.{state_of}
use Rattle.hd_entries.specs.Waiting.{IsExpansionTo}
use Rattle.hd_entries.proofs.content.EntriesContent.expand_again.Goals as goal

pub record-requires-clause-known : goal.record-requires-clause-known
record-requires-clause-known c = ap (knows_parent (state_of c.args.self.now)) c.in_ok-outline.ensures.kid ∙ c.requires.known

pub record-requires-clause-posted : goal.record-requires-clause-posted
record-requires-clause-posted c = ap (is_posted (state_of c.args.self.now)) c.in_ok-outline.ensures.kid ∙ c.requires.posted

pub record-requires-clause-place : goal.record-requires-clause-place
record-requires-clause-place c = c.requires.place ∙ ap (place_of (state_of c.args.self.now)) (sym c.in_ok-outline.ensures.kid)

pub record-requires-clause-unsettled : goal.record-requires-clause-unsettled
record-requires-clause-unsettled c = ap (is_marked (state_of c.args.self.now)) c.in_ok-outline.ensures.kid ∙ c.requires.unsettled

pub record-requires-clause-leads : goal.record-requires-clause-leads
record-requires-clause-leads c =
    let is = c.in_ok-outline.ensures in
    ap (node_of (state_of c.args.self.now)) is.kid ∙ (c.requires.leads ∙ ap₂ (λ (x : State) (n : ℕ). Some (node x n)) (sym is.state) (sym is.cost))

pub returns-clause-expanded : goal.returns-clause-expanded
returns-clause-expanded c =
    subst (λ (k : Kid). OnOk c.record.result (IsExpansionTo (state_of c.args.self.now) k (state_of c.record.new.self))) c.in_ok-outline.ensures.kid c.record.ensures.expanded
