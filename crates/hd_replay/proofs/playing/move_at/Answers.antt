use Rattle.std.proofs.Common.{refl}
use Rattle.hd_replay.proofs.Plays.{read_any}
use Rattle.hd_replay.proofs.playing.move_at.Goals as goal

pub returns : goal.returns
returns c = read_any c.args.moves.now c.args.number _ _ c.requires refl
