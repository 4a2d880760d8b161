use Rattle.std.proofs.Common.{rules}
use Rattle.hd_desk.proofs.Steps.{joins}
use Rattle.hd_desk.proofs.word.BoundWord.absorb.Goals as goal

pub join_seat-requires : goal.join_seat-requires
join_seat-requires c = (search rules, search rules, search rules, search rules, joins _ _ _ _ _ (search rules) (search rules))
