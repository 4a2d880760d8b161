use Rattle.std.proofs.Common.{rules}
use Rattle.hd_desk.proofs.Steps.{splits}
use Rattle.hd_desk.proofs.word.BoundWord.another.Goals as goal

pub split_seat-requires : goal.split_seat-requires
split_seat-requires c = (search rules, search rules, splits _ _ _ (search rules))
