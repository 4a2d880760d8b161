use Rattle.std.proofs.Common.{◌≡◌, ◌<◌, ◌≤◌, true, Some, sym, subst, ◌∙◌, arith}
use Rattle.hd_book.specs.Queue.{Queued, QueueView, entries_in_all, fitting, group_next, with_group, is_due, IsQueue}
use Rattle.hd_book.proofs.Taking.{with_group_busy, group_next_busy, is_due_busy, with_group_none, group_next_none, is_due_none, with_group_next, group_next_some, is_due_some, is_group, is_queue_taken}
use Rattle.hd_book.proofs.queue.BatchQueue.take.Goals as goal

pub returns-then-out-gt0-clause-group : goal.returns-then-out-gt0-clause-group
returns-then-out-gt0-clause-group c =
    let busy : 0 < c.args.self.now.batches.out = subst (λ (v : Queued). 0 < v.batches.out) c.self.view_is (omega arith) in
    sym (group_next_busy c.args.self.now.batches busy)

pub returns-then-out-gt0-clause-taken : goal.returns-then-out-gt0-clause-taken
returns-then-out-gt0-clause-taken c =
    let busy : 0 < c.args.self.now.batches.out = subst (λ (v : Queued). 0 < v.batches.out) c.self.view_is (omega arith) in
    sym (with_group_busy c.args.self.now.batches busy)

pub returns-then-out-gt0-clause-due : goal.returns-then-out-gt0-clause-due
returns-then-out-gt0-clause-due c =
    let busy : 0 < c.args.self.now.batches.out = subst (λ (v : Queued). 0 < v.batches.out) c.self.view_is (omega arith) in
    sym (is_due_busy c.args.self.now.batches busy)

pub returns-then-count-eq0-clause-group : goal.returns-then-count-eq0-clause-group
returns-then-count-eq0-clause-group c =
    let free : c.args.self.now.batches.out ≡ 0 = subst (λ (v : Queued). v.batches.out ≡ 0) c.self.view_is (omega arith) in
    let none : fitting c.args.self.now.batches ≡ 0 = subst (λ (v : Queued). fitting v.batches ≡ 0) c.self.view_is (sym c.fitting_among-count.ensures ∙ c.if-count-eq0.true) in
    sym (group_next_none c.args.self.now.batches free none)

pub returns-then-count-eq0-clause-taken : goal.returns-then-count-eq0-clause-taken
returns-then-count-eq0-clause-taken c =
    let free : c.args.self.now.batches.out ≡ 0 = subst (λ (v : Queued). v.batches.out ≡ 0) c.self.view_is (omega arith) in
    let none : fitting c.args.self.now.batches ≡ 0 = subst (λ (v : Queued). fitting v.batches ≡ 0) c.self.view_is (sym c.fitting_among-count.ensures ∙ c.if-count-eq0.true) in
    sym (with_group_none c.args.self.now.batches free none)

pub returns-then-count-eq0-clause-due : goal.returns-then-count-eq0-clause-due
returns-then-count-eq0-clause-due c =
    let free : c.args.self.now.batches.out ≡ 0 = subst (λ (v : Queued). v.batches.out ≡ 0) c.self.view_is (omega arith) in
    let none : fitting c.args.self.now.batches ≡ 0 = subst (λ (v : Queued). fitting v.batches ≡ 0) c.self.view_is (sym c.fitting_among-count.ensures ∙ c.if-count-eq0.true) in
    let is : IsQueue c.args.self.now.batches = subst (λ (v : Queued). IsQueue v.batches) c.self.view_is c.self.invariant in
    sym (is_due_none c.args.self.now.batches is none)

pub invariant_of-self : goal.invariant_of-self
invariant_of-self c =
    let q : QueueView = record { acknowledged = c.self.inside.acknowledged; ends = c.self.inside.ends.items; out = c.self.inside.out } in
    let group = is_group q c.fitting_among-count.result c.self.invariant (omega arith) c.fitting_among-count.ensures in
    is_queue_taken q c.fitting_among-count.result c.self.invariant group.among

pub returns-clause-group : goal.returns-clause-group
returns-clause-group c =
    let q : QueueView = record { acknowledged = c.self.inside.acknowledged; ends = c.self.inside.ends.items; out = c.self.inside.out } in
    subst (λ (v : Queued). Some (record { start = q.acknowledged; end = c.end_among-end.result }) ≡ group_next v.batches) c.self.view_is (sym (group_next_some q c.fitting_among-count.result c.end_among-end.result (omega arith) c.fitting_among-count.ensures (omega arith) c.end_among-end.ensures))

pub returns-clause-some : goal.returns-clause-some
returns-clause-some c =
    let q : QueueView = record { acknowledged = c.self.inside.acknowledged; ends = c.self.inside.ends.items; out = c.self.inside.out } in
    let group = is_group q c.fitting_among-count.result c.self.invariant (omega arith) c.fitting_among-count.ensures in
    omega (arith, group.above, c.end_among-end.ensures)

pub returns-clause-few : goal.returns-clause-few
returns-clause-few c =
    let q : QueueView = record { acknowledged = c.self.inside.acknowledged; ends = c.self.inside.ends.items; out = c.self.inside.out } in
    let group = is_group q c.fitting_among-count.result c.self.invariant (omega arith) c.fitting_among-count.ensures in
    omega (arith, group.near, c.end_among-end.ensures)

pub returns-clause-within : goal.returns-clause-within
returns-clause-within c =
    let q : QueueView = record { acknowledged = c.self.inside.acknowledged; ends = c.self.inside.ends.items; out = c.self.inside.out } in
    let group = is_group q c.fitting_among-count.result c.self.invariant (omega arith) c.fitting_among-count.ensures in
    subst (λ (v : Queued). c.end_among-end.result ≤ entries_in_all v.batches) c.self.view_is (omega (arith, group.within, c.end_among-end.ensures))

pub returns-clause-taken : goal.returns-clause-taken
returns-clause-taken c =
    let q : QueueView = record { acknowledged = c.self.inside.acknowledged; ends = c.self.inside.ends.items; out = c.self.inside.out } in
    subst (λ (v : Queued). record q { out = c.fitting_among-count.result } ≡ with_group v.batches) c.self.view_is (sym (with_group_next q c.fitting_among-count.result (omega arith) c.fitting_among-count.ensures))

pub returns-clause-due : goal.returns-clause-due
returns-clause-due c =
    let q : QueueView = record { acknowledged = c.self.inside.acknowledged; ends = c.self.inside.ends.items; out = c.self.inside.out } in
    let group = is_group q c.fitting_among-count.result c.self.invariant (omega arith) c.fitting_among-count.ensures in
    subst (λ (v : Queued). true ≡ is_due v.batches) c.self.view_is (sym (is_due_some q (omega arith) (omega (arith, group.among))))
