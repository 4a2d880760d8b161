use Rattle.std.proofs.Common.{◌∙◌, sym, ap, subst, Some}
use Rattle.hd_task.specs.declared.state.State.{State}
use Rattle.hd_task.specs.Plans.{IsStateOf, node}
use Rattle.hd_task.specs.Expansions.{is_applicable}
use Rattle.hd_task.specs.Stepping.{step_at}
use Rattle.hd_pack.specs.Leading.{led_of}
use Rattle.hd_tables.specs.Drafts.{IsLedTo}
use Rattle.hd_entries.specs.Holding.{node_at}
use Rattle.hd_entries.proofs.Held.{root_kid, entry_kid, root_leads, entry_state, entry_posted, entry_leads, applicable_within}
use Rattle.hd_entries.proofs.Reaching.{led_there}
use Rattle.hd_entries.proofs.expanded.ExpandedPlans.reach.Goals as goal

pub returns-then-kid-eq-ROOT_PARENT : goal.returns-then-kid-eq-ROOT_PARENT
returns-then-kid-eq-ROOT_PARENT c =
    root_leads c.args.self.now c.requires.held c.args.kid (root_kid c.args.self.now c.requires.held c.args.kid c.requires.known c.if-kid-eq-ROOT_PARENT.true)
    ∙ ap (λ s. Some (node s 0)) (sym (c.in_ok-set.ensures.ok ∙ c.of_packed-state.ensures ∙ c.in_ok-initial.ensures))

pub at-parent-requires : goal.at-parent-requires
at-parent-requires c = entry_kid c.args.self.now c.requires.held c.args.kid c.requires.known c.if-kid-eq-ROOT_PARENT.false

pub follow-requires-clause-known : goal.follow-requires-clause-known
follow-requires-clause-known c =
    let x = c.args.self.now in
    let e = c.at-parent.result in
    let lt = entry_kid x c.requires.held c.args.kid c.requires.known c.if-kid-eq-ROOT_PARENT.false in
    applicable_within x.task.now (node_at e) c.args.kid.action (entry_posted x c.requires.held c.args.kid e e lt c.at-parent.ensures ∙ c.requires.posted)

pub follow-requires-clause-of_task : goal.follow-requires-clause-of_task
follow-requires-clause-of_task c =
    let x = c.args.self.now in
    let e = c.at-parent.result in
    let lt = entry_kid x c.requires.held c.args.kid c.requires.known c.if-kid-eq-ROOT_PARENT.false in
    subst (IsStateOf x.task.now) (sym c.row.ensures) (entry_state x c.requires.held c.args.kid.parent e e lt c.at-parent.ensures)

pub follow-requires-clause-applicable : goal.follow-requires-clause-applicable
follow-requires-clause-applicable c =
    let x = c.args.self.now in
    let e = c.at-parent.result in
    let lt = entry_kid x c.requires.held c.args.kid c.requires.known c.if-kid-eq-ROOT_PARENT.false in
    ap (λ (s : State). is_applicable x.task.now (Some (node s e.cost)) c.args.kid.action) c.row.ensures
    ∙ (entry_posted x c.requires.held c.args.kid e e lt c.at-parent.ensures ∙ c.requires.posted)

pub returns : goal.returns
returns c =
    let x = c.args.self.now in
    let e = c.at-parent.result in
    let a = c.args.kid.action in
    let s = c.follow.new.self in
    let cost = c.in_ok-reached.field-0 in
    let lt = entry_kid x c.requires.held c.args.kid c.requires.known c.if-kid-eq-ROOT_PARENT.false in
    let of_task = entry_state x c.requires.held c.args.kid.parent e e lt c.at-parent.ensures in
    let to = subst (λ (u : State). IsLedTo (led_of (step_at x.task.now (node u e.cost) a)) (Some cost) s) c.row.ensures c.in_ok-reached.ensures in
    entry_leads x c.requires.held c.args.kid e e (node s cost) lt c.at-parent.ensures (led_there x.task.now (node_at e) a s cost of_task to)
