use Rattle.hd_lifted.specs.Kept.{IsKept}
use Rattle.hd_lifted.specs.Numbering.{IsTaskAtom, IsTaskFluent, instance_key, form_key}
use Rattle.hd_lifted.proofs.Rising.{lists_are_one}
use Rattle.hd_lifted.proofs.kept_laws.numberings_are_one.Goals as goal

pub returns : goal.returns
returns c = record {
  instances = λ t. lists_are_one (IsKept t) instance_key;
  atoms = λ t. lists_are_one (IsTaskAtom t) form_key;
  fluents = λ t. lists_are_one (IsTaskFluent t) form_key;
}
