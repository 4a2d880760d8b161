use Rattle.std.proofs.Common.{◌+◌, subst, arith}
use Rattle.hd_lifted.specs.Types.{IsSubtype}
use Rattle.hd_lifted.proofs.Jumps.{depth-most, depth_next, fill_one}
use Rattle.hd_lifted.proofs.shortcuts.fill.Goals as goal

pub overflow_add-depths : goal.overflow_add-depths
overflow_add-depths c =
    let parents = c.args.parents.now in
    let right = depth_next parents c.args.depths.now c.args.kind c.entry_of-parent.result c.depth_of.result
    c.requires.rooted c.requires.listed.0 c.entry_of-parent.ensures c.requires.parent c.depth_of.ensures in
    let most = depth-most parents c.args.kind in
    omega (arith, right, most)

pub returns : goal.returns
returns c =
    let parents = c.args.parents.now in
    let jump = c.jump_over-jump.result in
    let right = depth_next parents c.args.depths.now c.args.kind c.entry_of-parent.result c.depth_of.result
    c.requires.rooted c.requires.listed.0 c.entry_of-parent.ensures c.requires.parent c.depth_of.ensures in
    let up = subst (λ p. IsSubtype parents p jump) c.entry_of-parent.ensures (c.jump_over-jump.ensures parents c.requires.before.jumping) in
    let one = fill_one parents c.args.depths.now c.args.jumps.now c.args.kind (c.depth_of.result + 1) jump
    c.requires.before c.requires.listed.0 c.requires.listed.1 right up in
    record { after = one.filling; filled = one.filled; kept = one.kept }
