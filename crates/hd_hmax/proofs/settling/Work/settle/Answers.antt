use Rattle.std.proofs.Common.{◌≡◌, ◌+◌, ◌<◌, false, true, ℕ, length, get_or, slice_get, set, drop, refl, sym, ap, ◌∙◌, subst, arith}
use Rattle.std.proofs.lemmas.List.{get_or_read}
use Rattle.hd_hmax.specs.Working.{Waits, is_open, load, price_by, IsLeftCounted, IsAtLevel, AreReady}
use Rattle.hd_hmax.proofs.Places.{price_there}
use Rattle.hd_hmax.proofs.Telling.{drop_next, told_known, told_within, needs_still, counted_next, fair_next, ready_next, counted_begin, fair_begin, ready_begin}
use Rattle.hd_hmax.proofs.settling.Work.settle.Goals as goal

pub loop-rule-init : goal.loop-rule-init
unfolding load
loop-rule-init c =
    let w = c.args.self.now in
    let r = c.args.rules.now in
    let t = r.task.now in
    let p = c.args.place in
    let width = c.requires.counted.width in
    let own = c.requires.own in
    let within : p < length w.pending.items = omega (arith, width, own) in
    let was : is_open w.pending.items p ≡ true = sym (get_or_read w.pending.items _ _ within c.index-is_open.ensures false) ∙ c.if-is_open.true in
    record {
      pending = refl;
      counted = subst (λ xs. IsLeftCounted t (set w.pending.items p false) w.left.items xs) (sym c.row-askers.ensures)
          (counted_begin t r.askers r.counts.items r.of_task.transposed w.pending.items w.left.items p c.requires.counted own was);
      fair = λ s is g.
          subst (λ xs. IsAtLevel t s (set w.pending.items p false) (Waits w.queue) c.args.level xs) (sym c.row-askers.ensures)
          (fair_begin t r.askers r.counts.items r.of_task.transposed w.pending.items w.left.items p c.requires.counted own was s (Waits w.queue) c.args.level is g);
      ready = λ busy g. ready_begin t r.askers r.counts.items r.of_task.transposed w.pending.items w.left.items p c.requires.counted own was r.brings (Waits w.queue) busy g;
      room = let room = c.requires.room in record { run = room.run; heap = room.heap; run_room = room.run_room; heap_room = room.heap_room };
      load = omega arith;
    }

pub tell-requires-clause-known : goal.tell-requires-clause-known
tell-requires-clause-known c =
    let t = c.args.rules.now.task.now in
    let l = c.loop-rule.self in
    let ps = c.row-askers.result.now in
    let i = c.loop-rule.rule-index in
    let next = subst (λ xs. IsLeftCounted t l.pending.items l.left.items xs) (drop_next ps i (omega arith)) c.loop-rule.invariant.counted in
    told_known t l.pending.items l.left.items (get_or ps i 0) (drop (i + 1) ps) next

pub tell-requires-clause-within : goal.tell-requires-clause-within
tell-requires-clause-within c =
    let t = c.args.rules.now.task.now in
    let l = c.loop-rule.self in
    let ps = c.row-askers.result.now in
    let i = c.loop-rule.rule-index in
    let next = subst (λ xs. IsLeftCounted t l.pending.items l.left.items xs) (drop_next ps i (omega arith)) c.loop-rule.invariant.counted in
    told_within t l.pending.items l.left.items (get_or ps i 0) (drop (i + 1) ps) next

pub tell-requires-clause-needs : goal.tell-requires-clause-needs
tell-requires-clause-needs c =
    let t = c.args.rules.now.task.now in
    let l = c.loop-rule.self in
    let ps = c.row-askers.result.now in
    let i = c.loop-rule.rule-index in
    let next = subst (λ xs. IsLeftCounted t l.pending.items l.left.items xs) (drop_next ps i (omega arith)) c.loop-rule.invariant.counted in
    needs_still t l.pending.items l.left.items (get_or ps i 0) (drop (i + 1) ps) next

pub loop-rule-preserved : goal.loop-rule-preserved
loop-rule-preserved c =
    let r = c.args.rules.now in
    let t = r.task.now in
    let l = c.loop-rule.self in
    let n = c.tell.new.self in
    let f = c.loop-rule.invariant in
    let told = c.tell.ensures.told in
    let ps = c.row-askers.result.now in
    let i = c.loop-rule.rule-index in
    let q = get_or ps i 0 in
    let rest = drop (i + 1) ps in
    let cost = get_or r.prices.items q 0 + c.args.level in
    let paid : cost ≡ price_by t (slice_get t.actions q) + c.args.level =
    ap (λ (k : ℕ). k + c.args.level) (ap (λ xs. get_or xs q 0) r.of_task.each_price ∙ price_there t t.actions q)
    in
    let behind = drop_next ps i (omega arith) in
    let next = subst (λ xs. IsLeftCounted t l.pending.items l.left.items xs) behind f.counted in
    let same = sym c.tell.ensures.pending in
    record {
      pending = c.tell.ensures.pending ∙ f.pending;
      counted = subst (λ xs. IsLeftCounted t xs n.left.items rest) same (counted_next t l.pending.items l.left.items q rest next (Waits l.queue) cost n.left.items (Waits n.queue) told);
      fair = λ s is g.
          subst (λ xs. IsAtLevel t s xs (Waits n.queue) c.args.level rest) same
          (fair_next t l.pending.items l.left.items q rest next (Waits l.queue) cost n.left.items (Waits n.queue) told s c.args.level paid
          (subst (λ xs. IsAtLevel t s l.pending.items (Waits l.queue) c.args.level xs) behind (f.fair s is g)));
      ready = λ busy g.
          subst (λ xs. AreReady t r.brings xs n.left.items (Waits n.queue) busy) same
          (ready_next t l.pending.items l.left.items q rest next (Waits l.queue) cost n.left.items (Waits n.queue) told r.brings busy (f.ready busy g));
      room = c.tell.ensures.room;
      load = let a = c.tell.ensures.load in let b = f.load in omega (arith, a, b);
    }
