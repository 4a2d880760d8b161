use Rattle.std.proofs.Common.{◌≡◌, ◌+◌, ◌++◌, length}
use Rattle.std.specs.List.{AllByRecursion}
use Rattle.std.specs.Vec.Iter.{into_iter_items, into_iter_len}
use Rattle.crossbeam_queue.specs.Passes.{view}
use Rattle.hd_desk.specs.declared.rule.TheConstants.{ALL_PARTS}
use Rattle.hd_desk.specs.Passes.{IsOutside, parts_in, seen_in}
use Rattle.hd_desk.proofs.lock.Lock.gather.Given as goal

-- the pass has the parts of those taken in so far, and was told what they had seen
abbrev pub invariant-loop-other : goal.invariant-loop-other
invariant-loop-other g l = record {
  whole : l.yielded ++ into_iter_items l.other-iterator ≡ l.fn.passes.items;
  left : into_iter_len l.other-iterator ≡ length (into_iter_items l.other-iterator);
  outside : AllByRecursion (IsOutside l.self.place) (into_iter_items l.other-iterator);
  all_outside : IsOutside l.self.place l.all;
  parts : (view l.all).parts + parts_in (into_iter_items l.other-iterator) ≡ ALL_PARTS;
  seen : (view l.all).seen ≡ (view l.fn.pass).seen;
  told : (view l.all).told ≡ (view l.fn.pass).told ++ seen_in l.yielded;
}
