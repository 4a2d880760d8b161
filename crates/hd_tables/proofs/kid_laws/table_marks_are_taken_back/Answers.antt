use Rattle.hd_tables.proofs.Marking.{marks_back}
use Rattle.hd_tables.proofs.kid_laws.table_marks_are_taken_back.Goals as goal

pub returns : goal.returns
returns c = marks_back
