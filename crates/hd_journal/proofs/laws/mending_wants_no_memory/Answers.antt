use Rattle.hd_journal.proofs.Staying.{mending_grows_not}
use Rattle.hd_journal.proofs.laws.mending_wants_no_memory.Goals as goal

pub returns : goal.returns
returns c = λ digest old new found is ran. mending_grows_not digest old new found is ran
