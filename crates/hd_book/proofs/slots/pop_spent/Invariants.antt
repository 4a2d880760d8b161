use Rattle.std.proofs.Common.{◌≡◌, ◌+◌, None, ◌++◌, replicate}
use Rattle.std.specs.VecDeque.{deque_len}
use Rattle.hd_book.proofs.slots.pop_spent.Given as goal

abbrev pub invariant-spent : goal.invariant-spent
invariant-spent g l = record {
  front : l.initial.slots.items ≡ replicate l.count None ++ l.slots.items;
  counted : l.count + deque_len l.slots ≡ deque_len l.initial.slots;
}

abbrev pub decreases-spent : goal.decreases-spent
decreases-spent g l = deque_len l.slots
