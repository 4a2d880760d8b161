use Rattle.std.proofs.Common.{◌≡◌, None, take}
use Rattle.std.specs.Prelude.{find}
use Rattle.hd_lifted.specs.Questions.{is_undefined}
use Rattle.hd_images.proofs.undefined.first_undefined.Given as goal

abbrev pub invariant-loop-fluent : goal.invariant-loop-fluent
invariant-loop-fluent l = find (is_undefined l.lookups) (take l.fluent-index l.fluents) ≡ None
