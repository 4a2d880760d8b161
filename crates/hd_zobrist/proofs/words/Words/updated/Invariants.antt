use Rattle.std.proofs.Common.{◌≡◌, take}
use Rattle.hd_zobrist.specs.Hash.{updated}
use Rattle.hd_zobrist.proofs.words.Words.updated.Given as goal

abbrev pub invariant-loop-change : goal.invariant-loop-change
invariant-loop-change l = l.hash ≡ updated l.old_hash (take l.change-index l.changes)
