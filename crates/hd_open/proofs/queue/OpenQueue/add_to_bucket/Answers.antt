use Rattle.std.proofs.Common.{[], ◌∷◌, ◌++◌, refl, ap, ◌∙◌, arith}
use Rattle.std.specs.Vec.{with_item}
use Rattle.std.specs.List.{slice_set}
use Rattle.std.proofs.lemmas.List.{get_or_default}
use Rattle.hd_open.proofs.Queueing.{added_small}
use Rattle.hd_open.proofs.queue.OpenQueue.add_to_bucket.Goals as goal

pub returns-else-total-self-clause-orderly : goal.returns-else-total-self-clause-orderly
returns-else-total-self-clause-orderly c =
    let q = c.args.self.now in
    let small = c.cover.new.small.items in
    let read = c.index_mut.ensures.value ∙ get_or_default small c.args.total c.index_mut.result.now [] c.in_ok-cover.ensures.room in
    (added_small q
    (record { alloc = q.alloc; small = with_item c.cover.new.small c.args.total c.push.new.self; least = q.least; large = q.large; dead = q.dead })
    small c.args.total c.args.arrival c.requires.orderly c.requires.latest c.in_ok-cover.ensures.same c.in_ok-cover.ensures.few c.in_ok-cover.ensures.room
    (ap (slice_set small c.args.total) (c.in_ok-push.ensures.ok ∙ ap (λ xs. xs ++ c.args.arrival ∷ []) read)) (omega arith) c.if-total-self.false refl refl).orderly

pub returns-else-total-self-clause-added : goal.returns-else-total-self-clause-added
returns-else-total-self-clause-added c =
    let q = c.args.self.now in
    let small = c.cover.new.small.items in
    let read = c.index_mut.ensures.value ∙ get_or_default small c.args.total c.index_mut.result.now [] c.in_ok-cover.ensures.room in
    (added_small q
    (record { alloc = q.alloc; small = with_item c.cover.new.small c.args.total c.push.new.self; least = q.least; large = q.large; dead = q.dead })
    small c.args.total c.args.arrival c.requires.orderly c.requires.latest c.in_ok-cover.ensures.same c.in_ok-cover.ensures.few c.in_ok-cover.ensures.room
    (ap (slice_set small c.args.total) (c.in_ok-push.ensures.ok ∙ ap (λ xs. xs ++ c.args.arrival ∷ []) read)) (omega arith) c.if-total-self.false refl refl).added

pub returns-else-total-self-clause-stays : goal.returns-else-total-self-clause-stays
returns-else-total-self-clause-stays c =
    let q = c.args.self.now in
    let small = c.cover.new.small.items in
    let read = c.index_mut.ensures.value ∙ get_or_default small c.args.total c.index_mut.result.now [] c.in_ok-cover.ensures.room in
    (added_small q
    (record { alloc = q.alloc; small = with_item c.cover.new.small c.args.total c.push.new.self; least = q.least; large = q.large; dead = q.dead })
    small c.args.total c.args.arrival c.requires.orderly c.requires.latest c.in_ok-cover.ensures.same c.in_ok-cover.ensures.few c.in_ok-cover.ensures.room
    (ap (slice_set small c.args.total) (c.in_ok-push.ensures.ok ∙ ap (λ xs. xs ++ c.args.arrival ∷ []) read)) (omega arith) c.if-total-self.false refl refl).stays

pub returns-else-total-self-clause-only : goal.returns-else-total-self-clause-only
returns-else-total-self-clause-only c =
    let q = c.args.self.now in
    let small = c.cover.new.small.items in
    let read = c.index_mut.ensures.value ∙ get_or_default small c.args.total c.index_mut.result.now [] c.in_ok-cover.ensures.room in
    (added_small q
    (record { alloc = q.alloc; small = with_item c.cover.new.small c.args.total c.push.new.self; least = q.least; large = q.large; dead = q.dead })
    small c.args.total c.args.arrival c.requires.orderly c.requires.latest c.in_ok-cover.ensures.same c.in_ok-cover.ensures.few c.in_ok-cover.ensures.room
    (ap (slice_set small c.args.total) (c.in_ok-push.ensures.ok ∙ ap (λ xs. xs ++ c.args.arrival ∷ []) read)) (omega arith) c.if-total-self.false refl refl).only
