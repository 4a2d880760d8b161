use Rattle.hd_task.proofs.Growing.{justified_grows, bound_grows, departures_stay}
use Rattle.hd_task.proofs.laws.expansions_grow.Goals as goal

pub returns : goal.returns
returns c = record {
  justified = justified_grows;
  bound = λ t expanded more b e. bound_grows t expanded more b e;
  departures = departures_stay;
}
