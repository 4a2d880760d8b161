use Rattle.std.proofs.Common.{sym, subst, length}
use Rattle.std.proofs.Math.ListN.{replicate}
use Rattle.hd_lifted.specs.Jumps.{AreFilling}
use Rattle.hd_lifted.proofs.Jumps.{none_filled, first_filled}
use Rattle.hd_lifted.proofs.shortcuts.Shortcuts.new.Goals as goal

pub loop-before-init : goal.loop-before-init
loop-before-init c =
    let parents = c.args.parents.now in
    let zeros = replicate (length parents) 0 in
    record {
      filling = subst (λ xs. AreFilling parents xs c.in_ok-jumps.jumps.items) (sym (c.in_ok-depths.ensures.items_if_clones_equal (λ y e. e)))
          (subst (λ xs. AreFilling parents zeros xs) (sym (c.in_ok-jumps.ensures.items_if_clones_equal (λ y e. e))) (none_filled parents c.requires));
      filled = first_filled parents c.in_ok-depths.depths.items;
    }
