use Rattle.std.proofs.Common.{◌≡◌, ◌+◌, ◌≤◌, ◌++◌, map, length, vec_len, vec_capacity}
use Rattle.std.specs.Vec.Iter.{into_iter_items, into_iter_len}
use Rattle.hd_replay.specs.Seats.{seat_with}
use Rattle.hd_replay.proofs.starting.seats_of.Given as goal

-- the places so far and those of the workers that are left, and room for these
abbrev pub invariant-loop-worker : goal.invariant-loop-worker
invariant-loop-worker l = record {
  left : into_iter_len l.worker-iterator ≡ length (into_iter_items l.worker-iterator);
  room : vec_len l.seats + length (into_iter_items l.worker-iterator) ≤ vec_capacity l.seats;
  seats : l.seats.items ++ map seat_with (into_iter_items l.worker-iterator) ≡ map seat_with l.fn.workers.items;
}
