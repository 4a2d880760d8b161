use Rattle.hd_world.specs.World.{Running}
use Rattle.hd_world.proofs.Playing.{step_sound, reached_sound}
use Rattle.hd_world.proofs.stop_laws.worlds_are_sound.Goals as goal

pub returns : goal.returns
returns c = record {
  steps = λ t digest w after m len x step. step_sound t digest len w after m x step;
  reached = λ t digest start earlier moves w len begins reaches. reached_sound t digest len start earlier begins moves w reaches;
  running = λ t digest start earlier moves f r len begins reaches. reached_sound t digest len start earlier begins moves (Running f r) reaches;
}
