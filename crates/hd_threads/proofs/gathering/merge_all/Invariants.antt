use Rattle.std.proofs.Common.{◌≡◌, ◌+◌, length}
use Rattle.std.specs.List.{sum_by}
use Rattle.std.specs.Vec.Iter.{into_iter_items, into_iter_len}
use Rattle.hd_threads.proofs.gathering.merge_all.Given as goal

-- what was merged and what is left have the parts and the amounts of all
abbrev pub invariant-loop-other : goal.invariant-loop-other
invariant-loop-other g l = record {
  left : into_iter_len l.other-iterator ≡ length (into_iter_items l.other-iterator);
  parts : l.all.parts + sum_by (λ s. s.parts) (into_iter_items l.other-iterator) ≡ l.fn.share.parts + sum_by (λ s. s.parts) l.fn.shares.items;
  amount : l.all.amount + sum_by (λ s. s.amount) (into_iter_items l.other-iterator) ≡ l.fn.share.amount + sum_by (λ s. s.amount) l.fn.shares.items;
}
