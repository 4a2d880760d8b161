use Rattle.hd_check.proofs.Apart.{distinct_names}
use Rattle.hd_check.proofs.laws.checked_names_are_distinct.Goals as goal

pub returns : goal.returns
returns c = distinct_names
