-- Moves that are played one after the other.
use Rattle.std.proofs.Common.{◌≡◌, inl, inr, ℕ, zero, suc, ◌+◌, ◌≤◌, ◌<◌, Bool, true, false, Option, Some, None, List, [], ◌∷◌, length, drop, get_or, refl, sym, ap, ◌∙◌, subst, arith, add-one}
use Rattle.std.proofs.lemmas.List.{drop_all, drop-drop}
use Rattle.std.proofs.Math.Seq.{drop-cons}
use Rattle.hd_task.specs.declared.task.Task.{Task}
use Rattle.hd_store.specs.declared.store.Store.{Ghosts}
use Rattle.hd_store.specs.declared.memory.MemoryDisk.{MemoryDisk}
use Rattle.hd_store.specs.Device.{content_of}
use Rattle.hd_store.specs.MemoryDisk.{device_of, IsStarted}
use Rattle.hd_image.specs.Image.{most_of}
use Rattle.hd_zobrist.specs.declared.owners.TheConstants.{MAX_WORKERS}
use Rattle.hd_journal.specs.declared.journal.Journal.{Journal}
use Rattle.hd_journal.specs.Group.{GroupView}
use Rattle.hd_world.specs.declared.moves.Move.{Move}
use Rattle.hd_world.specs.declared.moves.Move.TheVariants as moves
use Rattle.hd_world.specs.declared.moves.StopAt.{StopAt}
use Rattle.hd_world.specs.Seats.{Run}
use Rattle.hd_world.specs.Starting.{run_after}
use Rattle.hd_world.specs.Stops.{File, journal_entries, AreGroups}
use Rattle.hd_world.specs.World.{World, Stopped as Rests, Running, MayResume, ResumesTo, IsNot, IsStopped, IsOpened, recovered, StepsTo, Plays}
use Rattle.hd_world.specs.Sound.{IsSound}
use Rattle.hd_world.specs.Filling.{Filled}
use Rattle.hd_world.proofs.Playing.{recovered_is, resumed_sound}
use Rattle.hd_replay.specs.declared.playing.Played.{Played}
use Rattle.hd_replay.specs.declared.playing.Played.TheVariants.{Stopped, Ended, Failed}
use Rattle.hd_replay.specs.declared.report.Report.{Report}
use Rattle.hd_replay.specs.Journals.{StandsAs, Runs, Goes, stop_in}
use Rattle.hd_replay.specs.Opening.{OpensBefore, IsCut, IsRunOf}
use Rattle.hd_replay.specs.Playing.{ComesTo, AtTheEnd, IsFollowed, IsReported, IsEndOf, IsEndedBy, IsStoppedAt, IsStop, PlaysTo, EndsTo, DoesNothing}
use Rattle.hd_replay.proofs.Restarts.{sound_groups}
use Rattle.hd_replay.proofs.Steps.{falls_here}

-- ---- a run, at a place of its moves

-- what the moves from a place on come to, all of them come to
pub record IsAt (t : Task) (digest : List ℕ) (w : World) (moves : List Move) (place : ℕ) (v : World) : Type 0 where
  pub goes : (u : World) → Plays Filled t digest v (drop place moves) u → Plays Filled t digest w moves u

pub at_first : (t : Task) (digest : List ℕ) (w : World) (moves : List Move) → IsAt t digest w moves 0 w
at_first t digest w moves = record { goes = λ u plays. plays }

-- one move on
pub at_next : (t : Task) (digest : List ℕ) (w : World) (moves : List Move) (place : ℕ) (v v' : World) (m : Move)
    → drop place moves ≡ m ∷ drop (place + 1) moves → IsAt t digest w moves place v → StepsTo Filled t digest v m v'
    → IsAt t digest w moves (place + 1) v'
at_next t digest w moves place v v' m is at step = record {
  goes = λ u plays. at.goes u (subst (λ (ms : List Move). Plays Filled t digest v ms u) (sym is) (v', step, plays));
}

-- a stop at a place
pub stopped_at : (t : Task) (digest : List ℕ) (w : World) (ms : List Move) (place : ℕ) (f : File) (r : Run) (at : StopAt) (disk : MemoryDisk)
    → place < length ms → drop place ms ≡ moves.Stop at ∷ drop (place + 1) ms → IsAt t digest w ms place (Running f r)
    → IsStop digest f r at disk → IsStoppedAt t digest w ms ms disk (place + 1)
stopped_at t digest w ms place f r at disk within is here (content, started, stop) =
    let next = at_next t digest w ms place (Running f r) (Rests content) (moves.Stop at) is here stop in
    record { few = omega (arith, within); content = content; started = started; goes = next.goes }

-- the end of the moves
pub ended_at : (t : Task) (digest : List ℕ) (w v : World) (moves : List Move) (place : ℕ) (disk : MemoryDisk) (report : Report)
    → drop place moves ≡ [] → IsAt t digest w moves place v → IsEndedBy t digest v [] disk report → IsEndedBy t digest w moves disk report
ended_at t digest w v moves place disk report none at e = record {
  file = e.file;
  run = e.run;
  plays = at.goes (Running e.file e.run) (subst (λ (ms : List Move). Plays Filled t digest v ms (Running e.file e.run)) (sym none) e.plays);
  end = e.end;
}

-- what is played from there is played from the first on
pub plays_from : (t : Task) (digest : List ℕ) (w v : World) (all moves : List Move) (played : Played)
    → ((u : World) → Plays Filled t digest v moves u → Plays Filled t digest w all u)
    → PlaysTo t digest v moves moves played → PlaysTo t digest w all moves played
plays_from t digest w v all moves (Stopped disk count) on p = record {
  few = p.few;
  content = p.content;
  started = p.started;
  goes = λ u plays. on u (p.goes u plays);
}
plays_from t digest w v all moves (Ended disk report) on p = record {
  file = p.file;
  run = p.run;
  plays = on (Running p.file p.run) p.plays;
  end = p.end;
}
plays_from t digest w v all moves (Failed fault) on p = tt

-- ---- a run's beginning

pub run_begins : {S : Type 0} {G : Ghosts S} (t : Task) (digest : List ℕ) (f : File) (journal : Journal S G) (workers : ℕ) (r : Run)
    → StandsAs digest f journal → IsRunOf t f workers r → Runs t digest f journal r
run_begins t digest f journal workers r s begun = record {
  sound = subst (IsSound t f) (sym begun.is) (resumed_sound t f workers (sound_groups digest f journal s) begun.recovered);
  stands = s;
}

pub world_begins : (t : Task) (digest : List ℕ) (f : File) (workers : ℕ) (r : Run) → IsRunOf t f workers r
    → recovered t digest workers f ≡ Running f r
world_begins t digest f workers r begun = recovered_is t digest workers f begun.recovered ∙ ap (Running f) (sym begun.is)

-- ---- a resumption

pub resumes_on : {S : Type 0} {G : Ghosts S} (t : Task) (digest content : List ℕ) (workers : ℕ) (stop : Option StopAt) (journal : Journal S G)
    (o : OpensBefore digest content stop journal) → MayResume workers stop
    → StepsTo Filled t digest (Rests content) (moves.Resume workers stop) (recovered t digest workers o.file)
resumes_on t digest content workers stop journal o may = IsOpened o.calls o.file may o.opens o.behind refl

pub resumes_not : (t : Task) (digest content : List ℕ) (workers : ℕ) (stop : Option StopAt) (disk : MemoryDisk) → MayResume workers stop
    → (c : IsCut digest content stop disk) → StepsTo Filled t digest (Rests content) (moves.Resume workers stop) (Rests c.left)
resumes_not t digest content workers stop disk may c = IsStopped c.calls c.file c.at c.left may c.opens c.is c.within c.leaves refl

-- a resumption that a stop cut short
pub cut_plays : (t : Task) (digest content : List ℕ) (workers : ℕ) (stop : Option StopAt) (ms : List Move) (disk : MemoryDisk) → MayResume workers stop
    → IsCut digest content stop disk → IsStoppedAt t digest (Rests content) (moves.Resume workers stop ∷ ms) ms disk 0
cut_plays t digest content workers stop ms disk may c = record {
  few = omega arith;
  content = c.left;
  started = c.started;
  goes = λ u plays. (Rests c.left, resumes_not t digest content workers stop disk may c, plays);
}

-- one that went through
pub resumed_plays : {S : Type 0} {G : Ghosts S} (t : Task) (digest content : List ℕ) (workers : ℕ) (stop : Option StopAt) (ms : List Move) (journal : Journal S G)
    (o : OpensBefore digest content stop journal) (played : Played) → MayResume workers stop
    → PlaysTo t digest (recovered t digest workers o.file) ms ms played
    → PlaysTo t digest (Rests content) (moves.Resume workers stop ∷ ms) ms played
resumed_plays t digest content workers stop ms journal o played may p =
    plays_from t digest (Rests content) (recovered t digest workers o.file) (moves.Resume workers stop ∷ ms) ms played
    (λ u plays. (recovered t digest workers o.file, resumes_on t digest content workers stop journal o may, plays)) p

-- ---- a place in a list of moves

pub none_there : (ms : List Move) (place : ℕ) → length ms ≤ place → drop place ms ≡ []
none_there ms place past = drop_all place ms past

-- ---- while nothing runs

-- a place while nothing runs, on a disk that was started again
pub record IsRestingAt (t : Task) (digest first : List ℕ) (ms : List Move) (place : ℕ) (disk : MemoryDisk) : Type 0 where
  pub content : List ℕ
  pub started : IsStarted disk content
  pub at : IsAt t digest (Rests first) ms place (Rests content)

-- after moves that a stop ends, or after one that does nothing
pub rests_next : (t : Task) (digest first : List ℕ) (ms rest : List Move) (place count : ℕ) (m : Move) (disk left : MemoryDisk)
    → (x : IsRestingAt t digest first ms place disk) → drop place ms ≡ m ∷ drop (place + 1) ms → rest ≡ drop (place + 1) ms
    → IsStoppedAt t digest (Rests x.content) (m ∷ rest) rest left count → IsRestingAt t digest first ms (place + (1 + count)) left
rests_next t digest first ms rest place count m disk left x is rest_is s = record {
  content = s.content;
  started = s.started;
  at = record {
    goes = λ u plays.
        x.at.goes u
        (subst (λ (xs : List Move). Plays Filled t digest (Rests x.content) xs u) (sym (is ∙ ap (λ (xs : List Move). m ∷ xs) (sym rest_is)))
        (s.goes u
        (subst (λ (xs : List Move). Plays Filled t digest (Rests s.content) xs u)
        (sym (ap (drop count) rest_is ∙ (drop-drop count (place + 1) ms ∙ ap (λ (n : ℕ). drop n ms) (omega arith)))) plays)));
  };
}

-- a run goes on at the last of the moves
pub reported_now : (t : Task) (digest first : List ℕ) (ms rest : List Move) (place : ℕ) (m : Move) (disk left : MemoryDisk) (report : Report)
    → (x : IsRestingAt t digest first ms place disk) → drop place ms ≡ m ∷ drop (place + 1) ms → rest ≡ drop (place + 1) ms
    → IsEndedBy t digest (Rests x.content) (m ∷ rest) left report → IsReported t digest first ms (content_of (device_of left)) report
reported_now t digest first ms rest place m disk left report x is rest_is e = record {
  file = e.file;
  run = e.run;
  comes =
      AtTheEnd (x.at.goes (Running e.file e.run)
      (subst (λ (xs : List Move). Plays Filled t digest (Rests x.content) xs (Running e.file e.run)) (sym (is ∙ ap (λ (xs : List Move). m ∷ xs) (sym rest_is)))
      e.plays));
  is = e.end.is;
  truth = e.end.truth;
  disk = e.end.disk_is;
}

-- nothing runs after them, and a resumption with one worker follows
pub reported_last : (t : Task) (digest first : List ℕ) (ms : List Move) (place : ℕ) (disk left : MemoryDisk) (report : Report)
    → (x : IsRestingAt t digest first ms place disk) → drop place ms ≡ []
    → IsEndedBy t digest (Rests x.content) (moves.Resume 1 None ∷ []) left report → IsReported t digest first ms (content_of (device_of left)) report
reported_last t digest first ms place disk left report x none e = record {
  file = e.file;
  run = e.run;
  comes =
      IsFollowed x.content
      (x.at.goes (Rests x.content) (subst (λ (xs : List Move). Plays Filled t digest (Rests x.content) xs (Rests x.content)) (sym none) refl))
      (subst (λ (v : World). StepsTo Filled t digest (Rests x.content) (moves.Resume 1 None) v) (sym e.plays.2) e.plays.1);
  is = e.end.is;
  truth = e.end.truth;
  disk = e.end.disk_is;
}

-- a move that does nothing
pub nothing_played : (t : Task) (digest content : List ℕ) (m : Move) (rest : List Move) (disk : MemoryDisk) → DoesNothing m → IsStarted disk content
    → IsStoppedAt t digest (Rests content) (m ∷ rest) rest disk 0
nothing_played t digest content m rest disk nothing started = record {
  few = omega arith;
  content = content;
  started = started;
  goes = λ u plays. (Rests content, nothing t digest content, plays);
}

-- the last resumption
pub last_played : {S : Type 0} {G : Ghosts S} (t : Task) (digest content : List ℕ) (journal : Journal S G) (r : Run) (disk : MemoryDisk) (report : Report)
    → (o : OpensBefore digest content None journal) → IsRunOf t o.file 1 r → MayResume 1 None → IsEndOf t digest o.file r disk report
    → IsEndedBy t digest (Rests content) (moves.Resume 1 None ∷ []) disk report
last_played t digest content journal r disk report o begun may end = record {
  file = o.file;
  run = r;
  plays = (
    recovered t digest 1 o.file,
    resumes_on t digest content 1 None journal o may,
    sym (world_begins t digest o.file 1 r begun),
  );
  end = end;
}

-- ---- moves that do nothing while nothing runs

pub may_workers : (workers : ℕ) (stop : Option StopAt) → MayResume workers stop → (1 ≤ workers) × (workers ≤ MAX_WORKERS)
may_workers workers None may = may
may_workers workers (Some at) may = (may.0, may.1)

pub nothing_resumed : (workers : ℕ) (stop : Option StopAt) → (MayResume workers stop → ⊥) → DoesNothing (moves.Resume workers stop)
nothing_resumed workers stop may_not = λ t digest content. IsNot may_not refl

pub nothing_by : (m : Move) → ((workers : ℕ) (stop : Option StopAt) → m ≡ moves.Resume workers stop → ⊥) → DoesNothing m
nothing_by (moves.Resume workers stop) other = absurd (other workers stop refl)
nothing_by (moves.Pop k) other = λ t digest content. refl
nothing_by (moves.Take k) other = λ t digest content. refl
nothing_by (moves.Expand k place) other = λ t digest content. refl
nothing_by (moves.Commit k) other = λ t digest content. refl
nothing_by (moves.Redeem k) other = λ t digest content. refl
nothing_by (moves.Push k) other = λ t digest content. refl
nothing_by (moves.Offer k) other = λ t digest content. refl
nothing_by (moves.Load k) other = λ t digest content. refl
nothing_by moves.Pull other = λ t digest content. refl
nothing_by moves.Flush other = λ t digest content. refl
nothing_by moves.Ack other = λ t digest content. refl
nothing_by (moves.Stop stop) other = λ t digest content. refl

-- ---- a turn of a run

pub turned_at : {S : Type 0} {G : Ghosts S} (t : Task) (digest : List ℕ) (w : World) (ms : List Move) (place : ℕ) (f : File) (r r' : Run) (m : Move) (journal' : Journal S G)
    → drop place ms ≡ m ∷ drop (place + 1) ms → IsAt t digest w ms place (Running f r) → Goes t digest f r m journal' r'
    → (now : File) × Runs t digest now journal' r' × IsAt t digest w ms (place + 1) (Running now r')
turned_at t digest w ms place f r r' m journal' is at goes = (
  goes.file,
  goes.runs,
  at_next t digest w ms place (Running f r) (Running goes.file r') m is at goes.steps,
)

-- after the last
pub plays_end : (t : Task) (digest : List ℕ) (w : World) (ms : List Move) (place : ℕ) (f : File) (r : Run) (played : Played) → drop place ms ≡ []
    → IsAt t digest w ms place (Running f r) → EndsTo t digest f r played → PlaysTo t digest w ms ms played
plays_end t digest w ms place f r (Stopped disk count) none at e = absurd e
plays_end t digest w ms place f r (Ended disk report) none at e =
    ended_at t digest w (Running f r) ms place disk report none at (record { file = f; run = r; plays = refl; end = e })
plays_end t digest w ms place f r (Failed fault) none at e = tt

-- ---- moves that were read

pub read_any : (ms : List Move) (place : ℕ) (m d : Move) → place < length ms → m ≡ get_or ms place d → drop place ms ≡ m ∷ drop (place + 1) ms
read_any ms place m d within is =
    drop-cons ms place d within
    ∙ (ap (λ (x : Move). x ∷ drop (suc place) ms) (sym is) ∙ ap (λ (n : ℕ). m ∷ drop n ms) (sym (add-one place)))

pub stop_read : (group : Option GroupView) (ms : List Move) (place : ℕ) (m : Move) (at : StopAt) → drop place ms ≡ m ∷ drop (place + 1) ms
    → Some at ≡ stop_in group m → drop place ms ≡ moves.Stop at ∷ drop (place + 1) ms
stop_read group ms place m at is e =
    is ∙ ap (λ (x : Move). x ∷ drop (place + 1) ms) (falls_here group m at (sym e)).0
