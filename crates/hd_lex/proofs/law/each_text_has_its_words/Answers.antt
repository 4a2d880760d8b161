use Rattle.hd_lex.proofs.Cutting.{words_of, words_unique}
use Rattle.hd_lex.proofs.law.each_text_has_its_words.Goals as goal

pub returns : goal.returns
returns c = record { words = words_of; no_others = λ at text a b. words_unique }
