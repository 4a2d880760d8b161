use Rattle.std.proofs.Common.{ℕ, ap, ◌∙◌, arith}
use Rattle.hd_recovery.specs.Recovered.{nodes_before, team}
use Rattle.hd_recovery.proofs.handing.open_between.Goals as goal

pub open_one-requires-clause-team : goal.open_one-requires-clause-team
open_one-requires-clause-team g c = (c.requires.team.0, c.loop-place.invariant.team c.requires.team.0 c.requires.team.1)

pub loop-place-preserved : goal.loop-place-preserved
loop-place-preserved g c = record { team = λ closed is. c.in_ok-open_one.ensures closed (c.loop-place.invariant.team closed is) }

pub returns : goal.returns
returns g c = λ closed is.
    let b = c.args.book.now.state in
    c.loop-place.invariant.team closed is
    ∙ ap (λ (n : ℕ). team b.task c.args.count closed (nodes_before b n)) (omega (arith, c.loop-place-test.false, c.loop-place.auto.place-end, c.requires.order))
