use Rattle.std.proofs.Common.{◌≡◌}
use Rattle.crossbeam_queue.specs.Passes.{view}
use Rattle.hd_desk.specs.Passes.{IsOutside}
use Rattle.hd_desk.proofs.lock.Lock.enter.Given as goal

-- a failed attempt changes nothing of the pass
abbrev pub invariant-loop : goal.invariant-loop
invariant-loop g l = record { outside : IsOutside l.self.place l.pass; same : view l.pass ≡ view l.initial.pass }
