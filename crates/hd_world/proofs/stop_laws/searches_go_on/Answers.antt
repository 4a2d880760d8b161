use Rattle.hd_world.proofs.Clauses.{first, stops}
use Rattle.hd_world.proofs.stop_laws.searches_go_on.Goals as goal

pub returns : goal.returns
returns c = record {
  first = λ t digest start earlier moves content workers stop f r len begins rests step.
      first t digest len start earlier begins moves content workers stop f r rests step;
  stops = λ t digest start earlier before between f f2 r r2 m workers stop content left len begins reaches step rests goes.
      stops t digest len start earlier begins before between f f2 r r2 m workers stop content left reaches step rests goes;
}
