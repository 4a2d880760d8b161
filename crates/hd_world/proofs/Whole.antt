-- The headline, from the laws of runs and of what stops leave.
use Rattle.std.proofs.Common.{◌≡◌, ℕ, List, length}
use Rattle.hd_task.specs.declared.task.Task.{Task}
use Rattle.hd_image.specs.declared.header.TheConstants.{DIGEST_LEN}
use Rattle.hd_world.specs.declared.moves.Move.{Move}
use Rattle.hd_world.specs.Seats.{Run}
use Rattle.hd_world.specs.Stops.{File, Anything}
use Rattle.hd_world.specs.World.{Running, IsBeginning, LeadsTo}
use Rattle.hd_world.specs.Sound.{IsSound}
use Rattle.hd_world.specs.Headline.{IsHeadline, Headline}
use Rattle.hd_world.proofs.Admitting.{all_admissible}
use Rattle.hd_world.proofs.Ending.{nothing_left}
use Rattle.hd_world.proofs.Closing.{run_ends}
use Rattle.hd_world.proofs.Playing.{reached_sound}
use Rattle.hd_world.proofs.Clauses.{empty, first, stops, rebuilt, opens, unrefused, recovers, resumes}
use Rattle.hd_world.proofs.Answering.{answers_truly}
use Rattle.hd_world.proofs.Stepping.{steps_search}
use Rattle.hd_world.proofs.Tracing.{runs, whole}

module _ (t : Task) (digest : List ℕ) (len : length digest ≡ DIGEST_LEN) (start : List ℕ) (earlier : File) (begins : IsBeginning t digest start earlier) where
  sound : (moves : List Move) (f : File) (r : Run) → LeadsTo Anything t digest start moves (Running f r) → IsSound t f r
  sound moves f r reaches = reached_sound t digest len start earlier begins moves (Running f r) reaches

  is_headline : IsHeadline t digest start earlier
  is_headline = record {
    empty = empty t digest len start earlier begins;
    first = first t digest len start earlier begins;
    runs = runs t digest len start earlier begins;
    moves = λ moves f f' r r' m reaches step. steps_search t digest f f' r r' (sound moves f r reaches) m step;
    closes = λ moves f r m content reaches step. run_ends t digest f r (sound moves f r reaches) content m step;
    stops = stops t digest len start earlier begins;
    rebuilt = λ moves content workers stop f r reaches step. rebuilt t digest len start earlier begins moves content reaches workers stop f r step;
    opens = λ moves content reaches. opens t digest len start earlier begins moves content reaches;
    unrefused = λ moves content error reaches refused. unrefused t digest len start earlier begins moves content reaches error refused;
    recovers = λ moves content calls f reaches o. recovers t digest len start earlier begins moves content reaches calls f o;
    resumes = λ moves content workers some most reaches. resumes t digest len start earlier begins moves content reaches workers some most;
    admissible = λ moves f r reaches. all_admissible t f r (sound moves f r reaches);
    whole = whole t digest len start earlier begins;
    ends = λ moves f r reaches idle. nothing_left r (sound moves f r reaches).truth.kept (whole t digest len start earlier begins moves f r reaches) idle;
    answers = λ moves f r reaches. answers_truly t r (sound moves f r reaches).truth;
  }

pub headline : (t : Task) → Headline t
headline t digest start earlier len begins = is_headline t digest len start earlier begins
