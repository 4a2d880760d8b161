use Rattle.std.proofs.Common.{◌++◌, List, [], ◌∷◌, refl, sym, ap, ◌∙◌, subst, append-nil}
use Rattle.hd_hmax.specs.Rounds.{hmax}
use Rattle.hd_node.specs.declared.batch.By.TheVariants.{Here}
use Rattle.hd_node.specs.declared.batch.Outcome.{Outcome}
use Rattle.hd_closed.specs.Closed.{Closed, ClosedView, closed_at}
use Rattle.hd_turns.specs.Settling.{IsOutcomeOf, closed_by}
use Rattle.hd_worker.specs.Nodes.{released_of}
use Rattle.hd_worker.proofs.Settled.{closes, closes_nothing}
use Rattle.hd_worker.proofs.judging.settle.Goals.{in-Expanded, in_default}
use Rattle.hd_worker.proofs.judging.settle.Goals as goal

pub returns-clause-outcome : goal.returns-clause-outcome
returns-clause-outcome c = c.in_ok-outcome.ensures.outcome

pub returns-clause-closed : goal.returns-clause-closed
returns-clause-closed c =
    let t = c.args.task.now in
    let v = c.args.known.now in
    let n = c.args.node.now in
    let r = released_of v.states n in
    let place = c.args.place in
    elim c.match-outcome.branch [
      | in-Expanded w ↦
          ap (λ (x : ClosedView). x.closed) w.known-is
          ∙ (w.close.ensures.closed
          ∙ (ap (λ (x : ClosedView). x.closed ++ closed_at x.states n.state (Here place) n.cost ∷ []) c.outcome_of.ensures.known
          ∙ ap (λ (xs : List Closed). v.closed ++ xs)
          (closes t v.closed c.args.seen r v.states n.state c.requires.is_node.there w.in-Expanded.field-0 place n.cost
          (subst (λ (o : Outcome). IsOutcomeOf t (hmax t) v.closed c.args.seen r o) w.in-Expanded.is c.in_ok-outcome.ensures.outcome) refl
          ∙ ap (λ (o : Outcome). closed_by place o) (sym w.in-Expanded.is))))
      | in_default w ↦
          ap (λ (x : ClosedView). x.closed) w.known-is
          ∙ (ap (λ (x : ClosedView). x.closed) c.outcome_of.ensures.known
          ∙ (sym (append-nil v.closed) ∙ ap (λ (xs : List Closed). v.closed ++ xs) (sym (closes_nothing place c.in_ok-outcome.outcome w.in_default.not-Expanded))))
    ]
