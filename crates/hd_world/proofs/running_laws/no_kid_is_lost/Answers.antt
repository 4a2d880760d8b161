use Rattle.hd_world.proofs.Ending.{nothing_left}
use Rattle.hd_world.proofs.Losing.{turns_stay_whole}
use Rattle.hd_world.proofs.running_laws.no_kid_is_lost.Goals as goal

pub returns : goal.returns
returns c = record {
  turns = λ t f r r' m x whole moved. turns_stay_whole t f r x whole m r' moved;
  ends = λ t f r x whole idle. nothing_left r x.truth.kept whole idle;
}
