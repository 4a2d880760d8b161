use Rattle.std.proofs.Common.{◌≡◌, ◌≤◌, map, length, take, vec_capacity}
use Rattle.std.specs.List.{AllByRecursion}
use Rattle.hd_desk.specs.Hands.{less_part, one_part, post_of, IsHand}
use Rattle.hd_desk.proofs.Handing.{changed_below}
use Rattle.hd_desk.proofs.mail.split_passes.Given as goal

abbrev pub invariant-loop-number : goal.invariant-loop-number
invariant-loop-number g l = record {
  left : map post_of l.passes.items ≡ changed_below l.number less_part (map post_of l.initial.passes.items);
  new : map post_of l.new.items ≡ map one_part (take l.number (map post_of l.initial.passes.items));
  hands : (of : g.row.K.Denot) → AllByRecursion (IsHand of) l.initial.passes.items → AllByRecursion (IsHand of) l.passes.items × AllByRecursion (IsHand of) l.new.items;
  count : length l.new.items ≡ l.number;
  room : length l.boxes.items ≤ vec_capacity l.new;
}
