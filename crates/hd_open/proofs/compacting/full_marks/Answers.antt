use Rattle.hd_open.proofs.Packing.{full_marked, full_unmarked}
use Rattle.hd_open.proofs.compacting.full_marks.Goals as goal

pub returns-clause-marked : goal.returns-clause-marked
returns-clause-marked c =
    λ i. full_marked c.in_ok-words.words.items c.push.new.self.items c.args.count i (c.in_ok-words.ensures.items_if_clones_equal (λ y e. e)) c.in_ok-push.ensures.items

pub returns-clause-unmarked : goal.returns-clause-unmarked
returns-clause-unmarked c =
    λ i. full_unmarked c.in_ok-words.words.items c.push.new.self.items c.args.count i (c.in_ok-words.ensures.items_if_clones_equal (λ y e. e)) c.in_ok-push.ensures.items
