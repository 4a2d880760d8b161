use Rattle.std.proofs.Common.{◌≡◌, map, length}
use Rattle.std.specs.List.{AllByRecursion}
use Rattle.hd_desk.specs.Hands.{fresh_post, mailbox_name, post_of, IsHand}
use Rattle.hd_desk.proofs.mail.open_all.Given as goal

abbrev pub invariant-loop-number : goal.invariant-loop-number
invariant-loop-number g l = record {
  posts : map post_of l.passes.items ≡ map fresh_post (map mailbox_name l.boxes.items);
  hands : AllByRecursion (IsHand (g.T.Sent.of l.initial.seed)) l.passes.items;
  count : length l.boxes.items ≡ l._number;
  seed : g.T.Sent.of l.seed ≡ g.T.Sent.of l.initial.seed;
}
