use Rattle.std.proofs.Common.{◌++◌, ◌∷◌, [], List, map, ap, ap₂, sym, ◌∙◌, arith}
use Rattle.std.specs.List.{range_with_len}
use Rattle.std.proofs.lemmas.List.FromFn.{map-range_with_len_more}
use Rattle.hd_turns.specs.Worker.{WorkerView}
use Rattle.hd_recovery.specs.Recovered.{with_own}
use Rattle.hd_recovery.proofs.handing.idle_workers.Goals as goal

pub loop-id-preserved : goal.loop-id-preserved
loop-id-preserved c = record {
  workers =
      c.in_ok-push.ensures.items
      ∙ (ap₂ (λ (ws : List WorkerView) (w : WorkerView). ws ++ w ∷ []) c.loop-id.invariant.workers c.new.ensures
      ∙ sym (map-range_with_len_more (with_own c.args.task.now c.args.count [] []) 0 c.loop-id.id c.loop-id.id (omega arith)));
}

pub returns : goal.returns
returns c =
    c.loop-id.invariant.workers
    ∙ ap (λ n. map (with_own c.args.task.now c.args.count [] []) (range_with_len 0 n)) (omega (arith, c.loop-id-test.false, c.loop-id.auto.id-end))
