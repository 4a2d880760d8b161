use Rattle.hd_hmax.specs.Rounds.{hmax}
use Rattle.hd_turns.proofs.Turning.{empty_true, expands_true, expands_best_true, taken_true, roomy_true, released_true, sent_true, sends_true, returned_true, seen_true, closed_true}
use Rattle.hd_turns.proofs.laws.calls_stay_true.Goals as goal

pub returns : goal.returns
returns c = record {
  empty = empty_true;
  take = λ b w r x t. taken_true b w x r t;
  expand = λ b w w' pick x e. expands_true b (hmax b.task) pick w w' x e;
  expand_best = expands_best_true;
  room = λ b w count x. roomy_true b w x count;
  released = λ b w rs x t. released_true b w x rs t;
  sent = sent_true;
  sends = λ b w r x e. sends_true b w x r e;
  put_back = λ b w r x t. returned_true b w x r t;
  see = λ b w bound x t. seen_true b w x bound t;
  close = λ b w n s cost x t. closed_true b w x n s cost t;
}
