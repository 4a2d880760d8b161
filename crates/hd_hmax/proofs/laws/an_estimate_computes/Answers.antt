use Rattle.std.proofs.Common.{refl}
use Rattle.hd_hmax.specs.Prices.{price}
use Rattle.hd_hmax.specs.Rounds.{dearest, brings_about, cost_by, lowered, hmax}
use Rattle.hd_hmax.proofs.laws.an_estimate_computes.Goals as goal

pub returns-clause-two_left : goal.returns-clause-two_left
unfolding price dearest brings_about cost_by lowered hmax
returns-clause-two_left c = refl

pub returns-clause-none_left : goal.returns-clause-none_left
unfolding price dearest brings_about cost_by lowered hmax
returns-clause-none_left c = refl
