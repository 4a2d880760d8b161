use Rattle.hd_image.proofs.Stopping.{joined, made, length-front, appended_entries}
use Rattle.hd_image.proofs.laws.what_is_written_is_an_image.Goals as goal

pub returns : goal.returns
returns c = record {
  made = λ v digest. made v digest;
  appended = λ v digest groups next. joined v digest groups next;
  last_gate = λ v digest groups len. length-front v digest groups len;
  entries = λ v digest groups next len. appended_entries v digest groups next len;
}
