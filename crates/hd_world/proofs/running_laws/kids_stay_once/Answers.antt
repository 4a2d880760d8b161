use Rattle.hd_world.proofs.Going.{batch_free, none_dropped, turns_stay_true, turns_stay_once}
use Rattle.hd_world.proofs.running_laws.kids_stay_once.Goals as goal

pub returns : goal.returns
returns c = record {
  batches = λ t r k s x once e. batch_free t r x once k s e;
  dropped = λ t r k s c x once e is. none_dropped t r x once k s c e is;
  turns = λ t r r' m x once moved. turns_stay_true t r x once m r' moved;
  once = λ t r r' m x once moved. turns_stay_once t r x once m r' moved;
}
