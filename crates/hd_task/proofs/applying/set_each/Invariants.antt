use Rattle.std.proofs.Common.{◌≡◌, take, fold}
use Rattle.hd_task.proofs.Atoms.{put}
use Rattle.hd_task.proofs.applying.set_each.Given as goal

abbrev pub invariant-loop-place : goal.invariant-loop-place
invariant-loop-place l = l.bits.items ≡ fold (put l.value) l.initial.bits.items (take l.place-index l.places)
