use Rattle.hd_world.proofs.PrintedMoves.{move_read, moves_read}
use Rattle.hd_world.proofs.schedule_laws.printed_schedules_are_read_back.Goals as goal

pub returns : goal.returns
returns c = record { line = move_read; text = moves_read }
