use Rattle.hd_desk.proofs.Steps.{begins}
use Rattle.hd_desk.proofs.word.BoundWord.new.Goals as goal

pub of_words-requires : goal.of_words-requires
of_words-requires c = begins _
