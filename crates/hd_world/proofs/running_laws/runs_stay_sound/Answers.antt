use Rattle.hd_world.proofs.Sounding.{starts_sound, turns_sound, group_ready, flush_sound}
use Rattle.hd_world.proofs.running_laws.runs_stay_sound.Goals as goal

pub returns : goal.returns
returns c = record {
  starts = λ t f workers sound faultless few. starts_sound t f workers sound faultless few;
  turns = λ t f r r' m x moved. turns_sound t f r x m r' moved;
  flush = λ t f r g x e. flush_sound t f r x g e;
  next = λ t f r g x e. (group_ready t f r x g e).next;
  whole = λ t f r g x e. (group_ready t f r x g e).of_file;
}
