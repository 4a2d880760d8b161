use Rattle.std.proofs.Common.{◌≡◌, map, take}
use Rattle.hd_images.specs.Meeting.{with_forms, goal_atom}
use Rattle.hd_images.proofs.atoms.add_goal.Given as goal

abbrev pub invariant-loop-literal : goal.invariant-loop-literal
invariant-loop-literal l = l.forms ≡ with_forms l.fn.forms (map goal_atom (take l.literal-index l.literals))
