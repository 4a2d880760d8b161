use Rattle.std.proofs.Common.{sym, ap, subst, arith, eq-eqb}
use Rattle.std.proofs.lemmas.Bool.{eqb-true}
use Rattle.hd_lifted.specs.Types.{IsSubtype, reflexive, transitive, listed}
use Rattle.hd_lifted.specs.Jumps.{depth_in}
use Rattle.hd_lifted.proofs.Types.{above_parent}
use Rattle.hd_lifted.proofs.Jumps.{jump_up, read_depth, read_jumps, below_object, parent_falls, jump_falls, above_deeper, same_depth}
use Rattle.hd_lifted.proofs.hierarchy.leads_to.Goals as goal

pub loop-depths-smaller-then-depth_of-wanted : goal.loop-depths-smaller-then-depth_of-wanted
loop-depths-smaller-then-depth_of-wanted c =
    let parents = c.args.parents.now in
    let s = c.args.shortcuts.now in
    let here = read_depth parents s.depths.items s.jumps.items c.as_slice-depths.result.now c.loop-depths.kind c.depth_of.result
    c.requires.shortcuts c.as_slice-depths.ensures.value c.depth_of.ensures in
    jump_falls parents c.as_slice-jumps.result.now c.loop-depths.kind c.entry_of-far.result c.requires.rooted
    (below_object parents c.loop-depths.kind c.depth_of-wanted.result (omega (arith, here, c.loop-depths-test.true)))
    (read_jumps parents s.depths.items s.jumps.items c.as_slice-jumps.result.now c.requires.shortcuts c.as_slice-jumps.ensures.value) c.entry_of-far.ensures

pub loop-depths-preserved-then-depth_of-wanted : goal.loop-depths-preserved-then-depth_of-wanted
loop-depths-preserved-then-depth_of-wanted c =
    let parents = c.args.parents.now in
    let s = c.args.shortcuts.now in
    let far = c.entry_of-far.result in
    let wanted = read_depth parents s.depths.items s.jumps.items c.as_slice-depths.result.now c.args.upper c.depth_of-wanted.result
    c.requires.shortcuts c.as_slice-depths.ensures.value c.depth_of-wanted.ensures in
    let there = read_depth parents s.depths.items s.jumps.items c.as_slice-depths.result.now far c.depth_of-in-loop-depths.result
    c.requires.shortcuts c.as_slice-depths.ensures.value c.depth_of-in-loop-depths.ensures in
    let up = jump_up parents c.as_slice-jumps.result.now c.loop-depths.kind far
    (read_jumps parents s.depths.items s.jumps.items c.as_slice-jumps.result.now c.requires.shortcuts c.as_slice-jumps.ensures.value) c.entry_of-far.ensures in
    record {
      down = λ below. c.loop-depths.invariant.down (transitive up below);
      up = λ below. above_deeper parents c.loop-depths.kind far c.args.upper c.requires.rooted up (c.loop-depths.invariant.up below)
          (omega (arith, wanted, there, c.if-depth_of-wanted.true));
    }

pub loop-depths-smaller : goal.loop-depths-smaller
loop-depths-smaller c =
    let parents = c.args.parents.now in
    let s = c.args.shortcuts.now in
    let here = read_depth parents s.depths.items s.jumps.items c.as_slice-depths.result.now c.loop-depths.kind c.depth_of.result
    c.requires.shortcuts c.as_slice-depths.ensures.value c.depth_of.ensures in
    parent_falls parents c.loop-depths.kind c.entry_of-kind.result c.requires.rooted
    (below_object parents c.loop-depths.kind c.depth_of-wanted.result (omega (arith, here, c.loop-depths-test.true))) c.entry_of-kind.ensures

pub loop-depths-preserved : goal.loop-depths-preserved
loop-depths-preserved c =
    let parents = c.args.parents.now in
    let s = c.args.shortcuts.now in
    let kind = c.loop-depths.kind in
    let wanted = read_depth parents s.depths.items s.jumps.items c.as_slice-depths.result.now c.args.upper c.depth_of-wanted.result
    c.requires.shortcuts c.as_slice-depths.ensures.value c.depth_of-wanted.ensures in
    let here = read_depth parents s.depths.items s.jumps.items c.as_slice-depths.result.now kind c.depth_of.result
    c.requires.shortcuts c.as_slice-depths.ensures.value c.depth_of.ensures in
    record {
      down = λ below. c.loop-depths.invariant.down
          (transitive (listed kind) (subst (λ k. IsSubtype parents k c.args.upper) c.entry_of-kind.ensures below));
      up = λ below. subst (λ k. IsSubtype parents k c.args.upper) (sym c.entry_of-kind.ensures)
          (above_parent parents kind c.args.upper
          (λ e. (let same = ap (λ t. depth_in parents t) e in omega (arith, wanted, here, c.loop-depths-test.true, same)))
          (c.loop-depths.invariant.up below));
    }

pub returns-clause-yes : goal.returns-clause-yes
returns-clause-yes c h =
    c.loop-depths.invariant.down (subst (IsSubtype c.args.parents.now c.loop-depths.kind) (eqb-true _ _ h) (reflexive c.loop-depths.kind))

pub returns-clause-no : goal.returns-clause-no
returns-clause-no c below =
    let parents = c.args.parents.now in
    let s = c.args.shortcuts.now in
    let kind = c.loop-depths.kind in
    let wanted = read_depth parents s.depths.items s.jumps.items c.as_slice-depths.result.now c.args.upper c.depth_of-wanted.result
    c.requires.shortcuts c.as_slice-depths.ensures.value c.depth_of-wanted.ensures in
    let here = read_depth parents s.depths.items s.jumps.items c.as_slice-depths.result.now kind c.depth_of.result
    c.requires.shortcuts c.as_slice-depths.ensures.value c.depth_of.ensures in
    eq-eqb _ _ (same_depth parents kind c.args.upper c.requires.rooted (c.loop-depths.invariant.up below)
    (omega (arith, wanted, here, c.loop-depths-test.false)))
