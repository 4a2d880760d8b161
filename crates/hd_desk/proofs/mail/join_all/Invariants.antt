use Rattle.std.proofs.Common.{◌≡◌, ◌++◌, List, map, vec_len}
use Rattle.std.specs.List.{AllByRecursion}
use Rattle.atomic_table.specs.Seated.{TableId}
use Rattle.hd_desk.specs.Hands.{PostView, mailbox_name, post_of, joined, IsHand, AreLined}
use Rattle.hd_desk.proofs.mail.join_all.Given as goal

abbrev pub invariant-loop-other : goal.invariant-loop-other
invariant-loop-other g l = record {
  all : joined (map post_of l.passes.items) (map post_of l.others.items) ≡ joined (map post_of l.initial.passes.items) (map post_of l.initial.others.items);
  hands : (of : g.row.K.Denot) → AllByRecursion (IsHand of) l.initial.passes.items → AllByRecursion (IsHand of) l.passes.items;
  lined : AreLined l.boxes.items l.passes.items;
  others : (rest : List TableId) × (map (λ (p : PostView g.row.T.Denot). p.mailbox) (map post_of l.others.items) ++ rest ≡ map mailbox_name l.boxes.items);
  homes : (of : g.row.K.Denot) × AllByRecursion (IsHand of) l.others.items;
}

abbrev pub decreases-loop-other : goal.decreases-loop-other
decreases-loop-other g l = vec_len l.others
