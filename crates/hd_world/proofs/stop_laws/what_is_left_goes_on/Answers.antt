use Rattle.hd_world.proofs.Clauses.{opens, unrefused, recovers, resumes}
use Rattle.hd_world.proofs.stop_laws.what_is_left_goes_on.Goals as goal

pub returns : goal.returns
returns c = record {
  opens = λ t digest start earlier moves content len begins reaches. opens t digest len start earlier begins moves content reaches;
  unrefused = λ t digest start earlier moves content error len begins reaches refused.
      unrefused t digest len start earlier begins moves content reaches error refused;
  recovers = λ t digest start earlier moves content calls f len begins reaches o. recovers t digest len start earlier begins moves content reaches calls f o;
  resumes = λ t digest start earlier moves content workers len begins some most reaches.
      resumes t digest len start earlier begins moves content reaches workers some most;
}
