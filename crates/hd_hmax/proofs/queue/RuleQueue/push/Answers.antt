use Rattle.std.proofs.Common.{sym, subst, arith}
use Rattle.std.specs.BinaryHeap.{heap_items}
use Rattle.hd_hmax.specs.Queue.{ready, WaitsIn, IsPushed}
use Rattle.hd_hmax.proofs.Running.{pushed_late, pushed_to_run}
use Rattle.hd_hmax.proofs.queue.RuleQueue.push.Goals as goal

pub returns-then-cost-self-clause-pushed : goal.returns-then-cost-self-clause-pushed
returns-then-cost-self-clause-pushed c =
    let q = c.args.self.now in
    pushed_late q.run.items q.taken (heap_items q.heap) (heap_items c.push_late.new.heap) (ready c.args.cost c.args.rule) c.push_late.ensures.items

pub returns-else-cost-self-clause-pushed : goal.returns-else-cost-self-clause-pushed
returns-else-cost-self-clause-pushed c =
    let q = c.args.self.now in
    let x = ready c.args.cost c.args.rule in
    subst (λ run. IsPushed (WaitsIn q.run.items q.taken (heap_items q.heap)) x (WaitsIn run q.taken (heap_items q.heap))) (sym c.push_reserved.ensures.items)
    (pushed_to_run q.run.items q.last x q.rises (omega arith) q.taken (heap_items q.heap) q.within)
