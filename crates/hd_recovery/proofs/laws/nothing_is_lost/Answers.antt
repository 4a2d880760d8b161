use Rattle.hd_recovery.proofs.Truth.{open_parts, closed_parts}
use Rattle.hd_recovery.proofs.laws.nothing_is_lost.Goals as goal

pub returns : goal.returns
returns c = record {
  «open» = λ t entries workers p some. open_parts t entries workers some p;
  closed = λ t entries workers p some. closed_parts t entries workers some p;
}
