use Rattle.hd_zobrist.proofs.Hashing.{updated-hash}
use Rattle.hd_zobrist.proofs.laws.updates_are_hashes.Goals as goal

pub returns : goal.returns
returns c = λ from to changes lead. updated-hash from to changes lead
