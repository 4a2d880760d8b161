use Rattle.hd_texts.proofs.TextNames.{text_names}
use Rattle.hd_texts.proofs.laws.names_of_texts_are_read.Goals as goal

pub returns : goal.returns
returns c = text_names
