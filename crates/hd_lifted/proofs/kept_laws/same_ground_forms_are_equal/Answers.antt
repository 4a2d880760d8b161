use Rattle.std.proofs.Common.{◌≡◌, true, subst}
use Rattle.hd_lifted.specs.States.{same}
use Rattle.hd_lifted.proofs.Sound.{same-true, same-refl}
use Rattle.hd_lifted.proofs.kept_laws.same_ground_forms_are_equal.Goals as goal

pub returns : goal.returns
returns c g h = (same-true g h, (λ e. subst (λ h. same g h ≡ true) e (same-refl g)))
