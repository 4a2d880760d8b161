use Rattle.hd_world.proofs.Fillings.{steps_so, plays_so}
use Rattle.hd_world.proofs.stop_laws.named_bytes_are_among_any.Goals as goal

pub returns : goal.returns
returns c = record {
  steps = λ t digest w after m step. steps_so t digest w after m step;
  plays = λ t digest moves w after plays. plays_so t digest moves w after plays;
}
