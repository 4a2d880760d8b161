use Rattle.hd_plan.proofs.Files.{text_reads_or_bad, reads_unique, bad_unique, reads-no_bad}
use Rattle.hd_plan.proofs.law.each_text_reads_or_has_a_bad_line.Goals as goal

pub returns : goal.returns
returns c = record {
  reads_or_bad = λ text. (text_reads_or_bad text).one;
  one_answer = λ text a b. reads_unique;
  one_line = λ text a b. bad_unique;
  not_both = λ text steps n. reads-no_bad;
}
