use Rattle.hd_world.proofs.Moving.{batch_admissible, turns_true}
use Rattle.hd_world.proofs.running_laws.runs_stay_true.Goals as goal

pub returns : goal.returns
returns c = record {
  batches = λ t r k s x e. batch_admissible t r x k s e;
  turns = λ t r r' m x kind moved. turns_true t r x m r' kind moved;
}
