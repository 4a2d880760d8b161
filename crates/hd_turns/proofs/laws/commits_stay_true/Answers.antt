use Rattle.hd_turns.proofs.Turning.{committed_true, commit_releases, commit_grows}
use Rattle.hd_turns.proofs.laws.commits_stay_true.Goals as goal

pub returns : goal.returns
returns c = record {
  worker = λ b w kept x free room. committed_true b w x kept free room;
  released = λ b w kept x free room. commit_releases b w x kept free room;
  grows = λ b w kept x free room. commit_grows b w x kept free room;
}
