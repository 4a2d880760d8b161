use Rattle.std.proofs.Common.{◌≡◌, ℕ, ◌<◌, [], Vec, Global, length, drop, sym, ap, ◌∙◌, subst, arith}
use Rattle.std.specs.List.{AllByRecursion}
use Rattle.hd_base.proofs.Lists.{AllByRecursion-append}
use Rattle.hd_node.specs.declared.batch.TheConstants.{MAX_OUTCOMES}
use Rattle.hd_entries.specs.Settling.{IsOutcomeOfTask}
use Rattle.hd_worker.specs.Frontier.{FrontierView}
use Rattle.hd_worker.proofs.Batches.{all_take, all_drop, all_renamed}
use Rattle.hd_worker.proofs.worker.Worker.committed.Goals as goal

pub invariant_of-self : goal.invariant_of-self
invariant_of-self c =
    let i = c.self.inside in
    let inv = c.self.invariant in
    let t = i.task.now in
    let named = c.number_all.new.outcomes in
    let none : c.replace-given.new.dest.items ≡ [] = ap (λ (v : Vec ℕ Global). v.items) c.replace-given.ensures.after ∙ c.new.ensures.items in
    let own : AllByRecursion (IsOutcomeOfTask t) c.as_mut_slice.result.now = subst (AllByRecursion (IsOutcomeOfTask t)) (sym c.as_mut_slice.ensures.value) inv.outcomes_of in
    let all : AllByRecursion (IsOutcomeOfTask t) named =
    subst (AllByRecursion (IsOutcomeOfTask t)) (sym c.number_all.ensures) (all_renamed t c.args.first c.as_slice-2.result.now c.as_mut_slice.result.now own)
    in
    let same = ap (λ (f : FrontierView). f.room) c.number.ensures in
    record {
      of_task = ap (λ (f : FrontierView). f.task) c.number.ensures ∙ inv.of_task;
      within = inv.within;
      few = inv.few;
      ranks_few = subst (AllByRecursion (λ (rank : ℕ). rank < MAX_OUTCOMES)) (sym none) tt;
      given_few = omega (arith, ap length none);
      outcomes_of =
          all_take (IsOutcomeOfTask t) i.outcomes.len _
          (AllByRecursion-append (IsOutcomeOfTask t) named (drop (length named) i.outcomes.items) all (all_drop (IsOutcomeOfTask t) (length named) i.outcomes.items inv.outcomes_of));
      parcels_of = inv.parcels_of;
      room_for = omega (arith, same, inv.room_for);
    }
