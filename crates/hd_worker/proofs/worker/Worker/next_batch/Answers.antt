use Rattle.std.proofs.Common.{◌≡◌, ℕ, ◌+◌, ◌<◌, ◌≤◌, min, List, take, drop, length, refl, sym, ap, ◌∙◌, subst, arith}
use Rattle.std.proofs.lemmas.List.{length-take}
use Rattle.std.specs.List.{AllByRecursion}
use Rattle.hd_task.specs.declared.task.Task.{Task}
use Rattle.hd_node.specs.declared.batch.Outcome.{Outcome}
use Rattle.hd_node.specs.declared.batch.TheConstants.{MAX_OUTCOMES}
use Rattle.hd_entries.specs.Settling.{IsOutcomeOfTask}
use Rattle.hd_entries.specs.Growing.{successor_count}
use Rattle.hd_entries.proofs.Children.{few_kids, released_count}
use Rattle.hd_turns.specs.Calls.{ranks, batch_of}
use Rattle.hd_turns.specs.Worker.{WorkerView}
use Rattle.hd_worker.proofs.Batches.{ranks_below, ranks_many, ranks-some, take_min, drop_min, all_take, all_drop}
use Rattle.hd_worker.proofs.Turned.{batch_given}
use Rattle.hd_worker.proofs.worker.Worker.next_batch.Goals as goal

-- the first outcomes are few
few_first : (n : ℕ) (outcomes : List Outcome) (len : ℕ) → n ≡ min len MAX_OUTCOMES → length (take n outcomes) ≤ MAX_OUTCOMES
few_first n outcomes len is = omega (arith, length-take n outcomes)

-- the batch, its numbers and the rest are those of the first outcomes
module _ (w : WorkerView) (outcomes : List Outcome) (n len : ℕ) (are : outcomes ≡ w.outcomes) (long : len ≡ length outcomes) (is : n ≡ min len MAX_OUTCOMES) where
  count : n ≡ min (length w.outcomes) MAX_OUTCOMES
  count = let same = ap (λ (os : List Outcome). length os) are in omega arith

  first_is : take n outcomes ≡ batch_of w
  first_is = ap (take n) are ∙ take_min MAX_OUTCOMES w.outcomes n count

  rest_is : drop n outcomes ≡ drop MAX_OUTCOMES w.outcomes
  rest_is = ap (drop n) are ∙ drop_min MAX_OUTCOMES w.outcomes n count

pub kids_of-kids-requires : goal.kids_of-kids-requires
kids_of-kids-requires c =
    let first = take c.min-count.result c.as_slice.result.now in
    record { fits = few_kids first first refl (few_first c.min-count.result c.as_slice.result.now c.len.result c.min-count.ensures) }

pub invariant_of-self : goal.invariant_of-self
invariant_of-self c =
    let j = c.self-2.inside in
    let inv = c.self-2.invariant in
    let n = c.min-count.result in
    let first = take n c.as_slice.result.now in
    let few = few_first n c.as_slice.result.now c.len.result c.min-count.ensures in
    record {
      of_task = inv.of_task;
      within = inv.within;
      few = inv.few;
      ranks_few = subst (AllByRecursion (λ (rank : ℕ). rank < MAX_OUTCOMES)) (sym c.in_ok-given.ensures) (ranks_below 0 first MAX_OUTCOMES (omega (arith, few)));
      given_few = omega (arith, few, ranks_many 0 first, ap (λ (xs : List ℕ). length xs) c.in_ok-given.ensures);
      outcomes_of = subst (AllByRecursion (IsOutcomeOfTask j.task.now)) (sym c.in-Ok.ensures.rest) (all_drop (IsOutcomeOfTask j.task.now) n j.outcomes.items inv.outcomes_of);
      parcels_of = inv.parcels_of;
      room_for = inv.room_for;
    }

pub returns-in-Ok-clause-batch : goal.returns-in-Ok-clause-batch
returns-in-Ok-clause-batch c =
    let w = c.args.self.now in
    let n = c.min-count.result in
    let roomy = c.self-2.view_is ∙ c.in_ok-make_room.ensures.ok in
    let here : c.as_slice.result.now ≡ w.outcomes = c.as_slice.ensures.value ∙ ap (λ (x : WorkerView). x.outcomes) c.self.view_is in
    let now : c.self-2.inside.outcomes.items ≡ w.outcomes = ap (λ (x : WorkerView). x.outcomes) roomy in
    let long : c.len.result ≡ length c.as_slice.result.now = omega (arith, c.len.ensures, c.as_slice.ensures.len, c.self.inside.outcomes.ok.0) in
    c.of.ensures ∙ (c.in-Ok.ensures.first ∙ (ap (take n) (now ∙ sym here) ∙ first_is w c.as_slice.result.now n c.len.result here long c.min-count.ensures))

pub returns-in-Ok-clause-given : goal.returns-in-Ok-clause-given
returns-in-Ok-clause-given c =
    let w = c.args.self.now in
    let j = c.self-2.inside in
    let n = c.min-count.result in
    let slice = c.as_slice.result.now in
    let roomy = c.self-2.view_is ∙ c.in_ok-make_room.ensures.ok in
    let here : slice ≡ w.outcomes = c.as_slice.ensures.value ∙ ap (λ (x : WorkerView). x.outcomes) c.self.view_is in
    let now : j.outcomes.items ≡ w.outcomes = ap (λ (x : WorkerView). x.outcomes) roomy in
    let long : c.len.result ≡ length slice = omega (arith, c.len.ensures, c.as_slice.ensures.len, c.self.inside.outcomes.ok.0) in
    let first = first_is w slice n c.len.result here long c.min-count.ensures in
    batch_given w _ c.in_ok-given.given.items c.split_first.new.outcomes.items c.kids_of-kids.result roomy (c.in_ok-given.ensures ∙ ap (ranks 0) first)
    (c.in-Ok.ensures.rest ∙ (ap (drop n) (now ∙ sym here) ∙ rest_is w slice n c.len.result here long c.min-count.ensures)) (c.kids_of-kids.ensures ∙ ap successor_count first)

pub returns-in-Ok-clause-numbers : goal.returns-in-Ok-clause-numbers
returns-in-Ok-clause-numbers c =
    let n = c.min-count.result in
    let w = c.args.self.now in
    let roomy = c.self-2.view_is ∙ c.in_ok-make_room.ensures.ok in
    let here : c.as_slice.result.now ≡ w.outcomes = c.as_slice.ensures.value ∙ ap (λ (x : WorkerView). x.outcomes) c.self.view_is in
    let now : c.self-2.inside.outcomes.items ≡ w.outcomes = ap (λ (x : WorkerView). x.outcomes) roomy in
    let same : c.of.result.outcomes ≡ take n c.as_slice.result.now = c.of.ensures ∙ (c.in-Ok.ensures.first ∙ ap (take n) (now ∙ sym here)) in
    λ e. ranks-some 0 c.of.result.outcomes c.of.result.some (ap (ranks 0) same ∙ (sym c.in_ok-given.ensures ∙ e))

pub returns-in-Ok-clause-room : goal.returns-in-Ok-clause-room
returns-in-Ok-clause-room c =
    let n = c.min-count.result in
    let w = c.args.self.now in
    let roomy = c.self-2.view_is ∙ c.in_ok-make_room.ensures.ok in
    let here : c.as_slice.result.now ≡ w.outcomes = c.as_slice.ensures.value ∙ ap (λ (x : WorkerView). x.outcomes) c.self.view_is in
    let now : c.self-2.inside.outcomes.items ≡ w.outcomes = ap (λ (x : WorkerView). x.outcomes) roomy in
    let same : c.of.result.outcomes ≡ take n c.as_slice.result.now = c.of.ensures ∙ (c.in-Ok.ensures.first ∙ ap (take n) (now ∙ sym here)) in
    let kids : c.kids_of-kids.result ≡ successor_count c.of.result.outcomes = c.kids_of-kids.ensures ∙ sym (ap successor_count same) in
    let room : c.self-2.inside.frontier.room ≡ w.room + c.kids_of-kids.result = ap (λ (x : WorkerView). x.room) roomy in
    λ m. omega (arith, released_count m c.of.result.outcomes, kids, room)

pub returns-in-Ok-clause-of_task : goal.returns-in-Ok-clause-of_task
returns-in-Ok-clause-of_task c =
    let j = c.self-2.inside in
    let n = c.min-count.result in
    let roomy = c.self-2.view_is ∙ c.in_ok-make_room.ensures.ok in
    subst (AllByRecursion (IsOutcomeOfTask c.args.self.now.task)) (sym (c.of.ensures ∙ c.in-Ok.ensures.first))
    (all_take (IsOutcomeOfTask c.args.self.now.task) n j.outcomes.items
    (subst (λ (t : Task). AllByRecursion (IsOutcomeOfTask t) j.outcomes.items) (ap (λ (x : WorkerView). x.task) roomy) c.self-2.invariant.outcomes_of))
