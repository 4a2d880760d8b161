use Rattle.hd_journal.proofs.Standing.{stop_stands}
use Rattle.hd_journal.proofs.laws.what_a_stop_leaves_holds_groups.Goals as goal

pub returns : goal.returns
returns c = λ v digest groups next content sound group left. stop_stands v digest groups next content sound group left
