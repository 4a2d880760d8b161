use Rattle.std.proofs.Common.{◌∙◌, ◌+◌, ◌*◌, ◌^◌, arith}
use Rattle.hd_base.specs.declared.range.TheConstants.{RANGE_END}
use Rattle.hd_lifted.specs.States.{ground_form_of}
use Rattle.hd_judge.specs.Tables.{reached_in}
use Rattle.hd_judge.proofs.Changing.{near_all_wider}
use Rattle.hd_judge.proofs.Effecting.{one_there, scaled_alone, changes_more, stay_more, departing_at}
use Rattle.hd_judge.proofs.effect.changes_of.Goals as goal

pub amount_of-requires : goal.amount_of-requires
amount_of-requires c = record {
  there = one_there (reached_in c.args.place.now).state.values c.args.objects.now c.args.effects.now c.loop-effect.effect-index c.effect-item.result (omega arith) c.effect-item.is c.requires.there;
}

pub add_effect-requires-clause-there : goal.add_effect-requires-clause-there
add_effect-requires-clause-there c =
    one_there (reached_in c.args.place.now).state.values c.args.objects.now c.args.effects.now c.loop-effect.effect-index c.effect-item.result (omega arith) c.effect-item.is c.requires.there

pub add_effect-requires-clause-alone : goal.add_effect-requires-clause-alone
add_effect-requires-clause-alone c = λ scale.
    let e = c.effect-item.result in
    c.loop-effect.invariant.changes.values (ground_form_of c.args.objects.now e.fluent)
    ∙ scaled_alone (reached_in c.args.place.now).state.values c.args.objects.now c.args.effects.now c.loop-effect.effect-index e (omega arith) c.effect-item.is c.requires.compatible scale

pub returns-in-Err : goal.returns-in-Err
returns-in-Err c =
    let e = c.effect-item.result in
    let judged = rw c.in-Err.is at c.in_ok-amount.ensures.amount in (
      e,
      departing_at (reached_in c.args.place.now).state.values c.args.objects.now c.args.effects.now c.loop-effect.effect-index e (omega arith) c.effect-item.is
          c.loop-effect.invariant.stay judged.0,
      judged.1,
    )

pub loop-effect-preserved : goal.loop-effect-preserved
loop-effect-preserved c =
    let v = (reached_in c.args.place.now).state.values in
    let objects = c.args.objects.now in
    let es = c.args.effects.now in
    let k = c.loop-effect.effect-index in
    let e = c.effect-item.result in
    let judged = rw c.in-Ok.is at c.in_ok-amount.ensures.amount in
    let so_far = c.loop-effect.invariant in
    let distance = 2 ^ 114 + RANGE_END * k in
    record {
      stay = stay_more v objects es k e (omega arith) c.effect-item.is so_far.stay judged.0;
      changes = changes_more v objects es k e c.loop-effect.changes c.add_effect.new.changes (omega arith) c.effect-item.is c.requires.there so_far.changes
          c.in_ok-add_effect.ensures.values c.in_ok-add_effect.ensures.cost;
      near = near_all_wider (distance + RANGE_END) (2 ^ 114 + RANGE_END * (k + 1)) c.add_effect.new.changes (omega arith)
          (c.in_ok-add_effect.ensures.near distance (omega arith) so_far.near);
    }
