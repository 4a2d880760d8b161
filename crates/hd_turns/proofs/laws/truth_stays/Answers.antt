use Rattle.hd_turns.proofs.Growing.{worker_stays, true_stays, seen_stays}
use Rattle.hd_turns.proofs.laws.truth_stays.Goals as goal

pub returns : goal.returns
returns c = record {
  worker = λ b b' w g x. worker_stays b b' g w x;
  parcel = λ b b' r g x. true_stays b b' g r x;
  bound = λ b b' seen g x. seen_stays b b' g seen x;
}
