use Rattle.std.proofs.Common.{◌≡◌, ℕ, take}
use Rattle.std.specs.BTreeMap.{get}
use Rattle.std.specs.Ordering.{nat_cmp}
use Rattle.hd_images.specs.Gathering.{change_in}
use Rattle.hd_images.proofs.effects.changes_of.Given as goal

abbrev pub invariant-loop-effect : goal.invariant-loop-effect
invariant-loop-effect l = (n : ℕ) → get nat_cmp l.changes n ≡ change_in l.fluents l.objects (take l.effect-index l.effects) n
