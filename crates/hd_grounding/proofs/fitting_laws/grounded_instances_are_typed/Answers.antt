use Rattle.hd_grounding.proofs.Named.{adds_ground, deletes_ground, literals_ground, met_ground}
use Rattle.hd_grounding.proofs.fitting_laws.grounded_instances_are_typed.Goals as goal

pub returns : goal.returns
returns c = record {
  adds = λ t i is a well. adds_ground t well i is a;
  deletes = λ t i is a well. deletes_ground t well i is a;
  literals = λ t i is l well. literals_ground t well i is l;
  fluents = λ t i is g well. met_ground t well i is g;
}
