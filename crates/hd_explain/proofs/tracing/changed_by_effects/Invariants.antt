use Rattle.std.proofs.Common.{◌≡◌, [], take}
use Rattle.std.specs.List.{fold}
use Rattle.hd_judge.specs.Tables.{reached_in}
use Rattle.hd_explain.specs.Traces.{with_changed}
use Rattle.hd_explain.proofs.tracing.changed_by_effects.Given as goal

abbrev pub invariant-loop-effect : goal.invariant-loop-effect
invariant-loop-effect l = l.readings.items ≡ fold (with_changed (reached_in l.place).state.values l.objects) [] (take l.effect-index l.effects)
