use Rattle.hd_hmax.proofs.Giving.{Noted}
use Rattle.hd_hmax.proofs.words.note.Given as goal

-- the value is noted of the lanes so far
abbrev pub invariant-loop-lane : goal.invariant-loop-lane
invariant-loop-lane l = Noted l.fn.values l.lanes l.value l.lane l.values
