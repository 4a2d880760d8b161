use Rattle.hd_lex.proofs.Telling.{text-good_or_bad, answer_unique, text_fault_unique, bad-answered, tokens-say}
use Rattle.hd_lex.proofs.law.each_text_is_good_or_bad.Goals as goal

pub returns : goal.returns
returns c = record {
  good_or_bad = text-good_or_bad;
  one_answer = answer_unique;
  one_fault = text_fault_unique;
  not_both = λ text tokens fault are is. bad-answered text tokens fault is (tokens-say are);
}
