use Rattle.hd_lex.proofs.Table.{word-good_or_bad, word_unique, fault_unique, word_not_bad}
use Rattle.hd_lex.proofs.law.each_word_is_good_or_bad.Goals as goal

pub returns : goal.returns
returns c = record { good_or_bad = word-good_or_bad; one_word = word_unique; one_fault = fault_unique; not_both = word_not_bad }
