use Rattle.std.proofs.Common.{◌≡◌, ◌-◌, true, sym, subst, arith}
use Rattle.hd_tables.specs.Kids.{KidsView}
use Rattle.hd_node.specs.Outcome.{kid_of}
use Rattle.hd_entries.specs.Settling.{place_of}
use Rattle.hd_entries.specs.Holding.{state_with, HasKids}
use Rattle.hd_entries.specs.Undoing.{MarksAll}
use Rattle.hd_entries.proofs.Unwinding.{marks_last, posts_before}
use Rattle.hd_entries.proofs.expanded.ExpandedPlans.settle_all.Goals as goal

pub loop-left-preserved : goal.loop-left-preserved
loop-left-preserved c =
    let x = c.args.self.now in
    let t = x.task.now in
    let entries = x.entries.items in
    let first = c.args.kids.now in
    let os = c.args.outcomes.now in
    let left = c.loop-left.left in
    let inv = c.loop-left.invariant in
    let last = marks_last x first c.loop-left.kids os left c.loop-left-test.true inv.all in
    let before = last.0 in
    let is : c.reopen_last.new.kids ≡ before = c.reopen_last.ensures before last.1 in
    record {
      posts =
          subst (λ (k : KidsView). HasKids t entries k) (sym is)
          (posts_before t entries before (place_of (state_with x before.marks) (kid_of last.1.outcome)) true c.loop-left.kids last.1.more inv.posts);
      within = omega (arith, inv.within);
      all = subst (λ (k : KidsView). MarksAll x first os (left - 1) k) (sym is) last.2;
    }
