use Rattle.std.proofs.Common.{[], ◌∷◌, ◌++◌, ◌∙◌, List, refl, sym, ap, arith}
use Rattle.std.proofs.lemmas.List.{append_assoc}
use Rattle.hd_task.specs.declared.plan.Kid.{Kid}
use Rattle.hd_book.specs.Groups.{entries_between}
use Rattle.hd_book.proofs.Between.{between_more}
use Rattle.hd_book.proofs.content.push_entries.Goals as goal

pub loop-number-preserved : goal.loop-number-preserved
loop-number-preserved c =
    let l = c.loop-number in
    let es = c.args.entries.now.state.entries in
    let k = c.in-Some.kid in
    let room = l.invariant.room in
    let len = c.push_reserved.ensures.len in
    let capacity = c.push_reserved.ensures.capacity in
    let more = c.loop-number-test.true in
    let from = l.auto.number in
    record {
      kids = c.push_reserved.ensures.items
          ∙ (ap (λ (ks : List Kid). ks ++ k ∷ []) l.invariant.kids
          ∙ (append_assoc c.args.kids.now.items (entries_between es c.args.first l.number) (k ∷ [])
          ∙ sym (ap (λ (ks : List Kid). c.args.kids.now.items ++ ks) (between_more es c.args.first l.number _ k (omega (arith, from)) refl (sym c.in-Some.ensures)))));
      room = omega (arith, room, len, capacity, more);
    }
