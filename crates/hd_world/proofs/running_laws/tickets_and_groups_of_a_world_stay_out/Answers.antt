use Rattle.hd_world.proofs.Sounding.{turns_stay_out, turns_stay_ordered, flushed_out}
use Rattle.hd_world.proofs.Rooms.{turns_stay_roomy}
use Rattle.hd_world.proofs.running_laws.tickets_and_groups_of_a_world_stay_out.Goals as goal

pub returns : goal.returns
returns c = record {
  tickets = λ t r r' m x moved. turns_stay_out t r x m r' moved;
  rooms = λ t r r' m out x moved. turns_stay_roomy t r out x m r' moved;
  order = λ t f r r' m x moved. turns_stay_ordered t f r x m r' moved;
  flushed = λ t f r g x e. flushed_out t f r x g e;
}
