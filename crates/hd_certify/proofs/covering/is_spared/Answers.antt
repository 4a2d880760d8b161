use Rattle.std.proofs.Common.{◌≡◌, refl, sym, ap, subst, ◌∙◌}
use Rattle.std.specs.Prelude.{IfSome}
use Rattle.std.proofs.lemmas.Option.{slice_get-get_or}
use Rattle.hd_task.specs.declared.state.State.{State}
use Rattle.hd_hmax.specs.Rounds.{hmax}
use Rattle.hd_hmax.specs.Value.{estimated}
use Rattle.hd_closed.specs.Closed.{nothing, state_at}
use Rattle.hd_certify.proofs.Justified.{found_spares, estimate_spares}
use Rattle.hd_certify.proofs.covering.is_spared.Goals as goal

pub returns-then-is_some-clause-spared : goal.returns-then-is_some-clause-spared
returns-then-is_some-clause-spared c =
    let x = c.args.closed.now in
    let m = c.args.met in (
      λ _. found_spares c.args.entries.now.state x.closed c.requires.closed x.states m.state m.cost c.dominating.result (sym c.is_some.ensures ∙ c.if-is_some.true) c.dominating.ensures.named c.requires.met,
      λ _. refl,
    )

pub returns-clause-spared : goal.returns-clause-spared
returns-clause-spared c =
    let x = c.args.closed.now in
    let m = c.args.met in
    let value = subst (λ o. IfSome o (λ (s : State). estimated c.estimate-value.result ≡ hmax x.task s)) (slice_get-get_or x.states m.state nothing c.requires.met) c.estimate-value.ensures.value in
    estimate_spares c.args.entries.now.state x.closed c.requires.closed x.states m.state m.cost c.dominating.result c.bound.result (estimated c.estimate-value.result) c.is_bounded.result
    (sym c.is_some.ensures ∙ c.if-is_some.false) c.dominating.ensures.none c.requires.met c.bound.ensures
    (value ∙ ap (λ t. hmax t (state_at x.states m.state)) c.requires.closed_task)
    (c.is_bounded.ensures (state_at x.states m.state))
