use Rattle.std.proofs.Common.{◌≡◌, sym, ◌∙◌, subst, arith}
use Rattle.hd_lifted.specs.Jumps.{depth_in, depth_of}
use Rattle.hd_lifted.proofs.Jumps.{IsPath, without_depth, parent_falls, path_push, path_leads, path_pop, last_parent}
use Rattle.hd_lifted.proofs.shortcuts.fill_from.Goals as goal

pub loop-kind-smaller : goal.loop-kind-smaller
loop-kind-smaller c =
    parent_falls c.args.parents.now c.loop-kind.kind c.entry_of-kind.result c.requires.rooted c.loop-kind-test.true c.entry_of-kind.ensures

pub loop-kind-preserved : goal.loop-kind-preserved
loop-kind-preserved c =
    let parents = c.args.parents.now in
    let kind = c.loop-kind.kind in
    let waiting = c.loop-kind.waiting.items in
    let within = without_depth c.args.depths.now kind c.loop-kind-test.true (sym c.depth_of.ensures ∙ c.if-depth_of-eq0.true) in
    record {
      path = subst (λ xs. IsPath parents xs c.args.start) (sym c.in_ok-push.ensures.items)
          (path_push parents waiting c.args.start kind c.loop-kind.invariant.path c.loop-kind.invariant.leads
          (omega (arith, c.loop-kind-test.true)) (omega (arith, within, c.requires.before.same_depths)));
      leads = path_leads parents waiting c.push.new.self.items c.args.start kind c.entry_of-kind.result c.in_ok-push.ensures.items
          c.loop-kind.invariant.leads c.entry_of-kind.ensures;
    }

pub fill-requires-clause-parent : goal.fill-requires-clause-parent
fill-requires-clause-parent c =
    let parents = c.args.parents.now in
    let last = path_pop parents c.loop-lower.waiting.items c.pop.new.self.items c.args.start c.in-Some.lower c.in-Some.ensures.items c.loop-lower.invariant.path in
    subst (λ t. depth_of c.loop-lower.depths t ≡ depth_in parents t)
    (last_parent parents c.loop-lower.waiting.items c.pop.new.self.items c.args.start c.in-Some.lower last) c.loop-lower.invariant.filled
