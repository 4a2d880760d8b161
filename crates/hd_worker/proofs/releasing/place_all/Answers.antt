use Rattle.std.proofs.Common.{◌≡◌, ◌++◌, ◌∙◌, List, filter, length, map, refl, sym, ap, subst, arith}
use Rattle.std.specs.List.{AllByRecursion}
use Rattle.std.specs.Vec.Iter.{into_iter_items}
use Rattle.hd_task.specs.declared.task.Task.{Task}
use Rattle.hd_node.specs.declared.batch.Outcome.{Outcome}
use Rattle.hd_entries.specs.Settling.{IsOutcomeOfTask}
use Rattle.hd_entries.specs.Holding.{Released, parcel_of, released_by}
use Rattle.hd_entries.proofs.Children.{released_count}
use Rattle.hd_turns.specs.Worker.{is_own, is_foreign}
use Rattle.hd_worker.specs.Frontier.{opens}
use Rattle.hd_worker.proofs.releasing.place_all.Goals as goal

pub loop-outcome-init : goal.loop-outcome-init
loop-outcome-init c =
    let who = c.args.who in
    let first = c.into_outcomes-first.result.0 in
    let items = into_iter_items c.into_iter-outcome-iterator.result in
    let given = c.into_outcomes-first.ensures in
    let same : items ≡ c.into_outcomes-first.result.1.items = c.into_iter-outcome-iterator.ensures.into_iter_gives.0 in
    let kids : released_by first items ≡ c.args.parcels.kids = ap (released_by first) same ∙ given.kids in
    record {
      frontier = ap (λ (rs : List Released). opens (is_own who.id who.workers) rs c.args.frontier.now) kids;
      outbox = ap (λ (rs : List Released). map parcel_of c.args.outbox.now.items ++ filter (is_foreign who.id who.workers) rs) kids;
      same_task = refl;
      of_task = subst (λ (os : List Outcome). AllByRecursion (IsOutcomeOfTask c.args.frontier.now.task) os) (sym same)
          (subst (λ (t : Task). AllByRecursion (IsOutcomeOfTask t) c.into_outcomes-first.result.1.items) c.requires.of_task given.of_task);
      numbered = omega (arith, ap (λ (os : List Outcome). length os) same, given.numbered);
      room = omega (arith, released_count first items, ap (λ (rs : List Released). length rs) kids, c.requires.room);
      outbox_room = omega arith;
      parcels = c.requires.parcels;
      capacity = refl;
    }
