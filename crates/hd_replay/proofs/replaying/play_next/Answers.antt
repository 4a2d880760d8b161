use Rattle.std.proofs.Common.{◌∷◌, sym, subst}
use Rattle.hd_world.specs.declared.moves.Move.{Move}
use Rattle.hd_world.specs.World.{Stopped}
use Rattle.hd_replay.specs.Playing.{PlaysTo}
use Rattle.hd_replay.proofs.replaying.play_next.Goals as goal

pub returns-in-Some : goal.returns-in-Some
returns-in-Some c = λ content started.
    subst (λ (m : Move). PlaysTo c.args.task.now c.args.digest.now (Stopped content) (m ∷ c.args.moves.now) c.args.moves.now c.play_from.result)
    (sym c.in-Some.ensures.some) (c.play_from.ensures content started)
