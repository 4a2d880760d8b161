-- The search of each run is one that the search which a schedule begins with may become.
use Rattle.std.proofs.Common.{◌≡◌, ◌⊎◌, inl, inr, ℕ, true, false, Option, Some, None, List, [], ◌∷◌, ◌++◌, length, slice_get, refl, sym, ap, subst}
use Rattle.hd_task.specs.declared.task.Task.{Task}
use Rattle.hd_image.specs.declared.header.TheConstants.{DIGEST_LEN}
use Rattle.hd_image.specs.Image.{most_of}
use Rattle.hd_journal.specs.Group.{GroupView}
use Rattle.hd_entries.specs.Settling.{IsBookKept}
use Rattle.hd_entries.specs.Resuming.{resumed_state}
use Rattle.hd_book.specs.Refusing.{commit_refusal_to}
use Rattle.hd_turns.specs.Calls.{batch_of}
use Rattle.hd_world.specs.declared.moves.Move.{Move}
use Rattle.hd_world.specs.declared.moves.Move.TheVariants as moves
use Rattle.hd_world.specs.Seats.{Seat, Run}
use Rattle.hd_world.specs.Moves.{may_commit}
use Rattle.hd_world.specs.Stops.{File, Anything, journal_entries}
use Rattle.hd_world.specs.World.{World, Stopped, Running, StepsTo, Plays, IsBeginning, LeadsTo}
use Rattle.hd_world.specs.Search.{Search, search_in, IsMoved, Stays, Lengthens, IsAcknowledged, IsCut, LeadsOver, MayBecome, search_of}
use Rattle.hd_world.specs.Once.{LosesNone}
use Rattle.hd_world.specs.Headline.{IfCommits, IfAcked, MovesSearch}
use Rattle.hd_world.specs.Sound.{IsSound}
use Rattle.hd_world.specs.Left.{Doing, IsLeft}
use Rattle.hd_world.specs.Lasting.{doing_in, IsRunAfter}
use Rattle.hd_world.proofs.Halting.{run_goes_on, run_groups}
use Rattle.hd_world.proofs.Playing.{run_left, gone_on, step_sound, gone_sound, IsBegun, begun}
use Rattle.hd_world.proofs.Clauses.{first_from, goes_on_from}
use Rattle.hd_world.proofs.Stepping.{steps_search, steps_whole}
use Rattle.hd_world.proofs.Owning.{in_one_place}

-- ---- abstract searches

-- one move more
leads_then : (t : Task) (a : Search) (via : List Search) (b c : Search) → LeadsOver t a via b → IsMoved t b c → LeadsOver t a (via ++ c ∷ []) c
leads_then t a [] b c leads moved = (subst (λ (s : Search). IsMoved t s c) leads moved, refl)
leads_then t a (v ∷ via) b c leads moved = (leads.0, leads_then t v via b c leads.1 moved)

becomes_then : (t : Task) (a b c : Search) → MayBecome t a b → IsMoved t b c → MayBecome t a c
becomes_then t a b c may moved = (may.0 ++ c ∷ [], leads_then t a may.0 b c may.1 moved)

commit_moved : (t : Task) (r r' : Run) (k : ℕ) (os : Option Seat) → IfCommits t r k os r' → IsMoved t (search_of r) (search_of r')
commit_moved t r r' k None x = Stays x
commit_moved t r r' k (Some s) x =
    elim (may_commit s) as (λ v. may_commit s ≡ v → IsMoved t (search_of r) (search_of r')) [
      | false ↦ λ may. Stays (x.idle may)
      | true ↦ λ may.
          elim (commit_refusal_to r.book (batch_of s.worker)) as (λ o. commit_refusal_to r.book (batch_of s.worker) ≡ o → IsMoved t (search_of r) (search_of r')) [
            | None ↦ λ free. let is = x.accepted may free in Lengthens is.more is.extends
            | Some why ↦ λ is. Stays (x.refused why is)
          ] refl
    ] refl

ack_moved : (t : Task) (r r' : Run) (g : Option GroupView) → IfAcked r g r' → IsMoved t (search_of r) (search_of r')
ack_moved t r r' None x = Stays x
ack_moved t r r' (Some g) x = IsAcknowledged x.more

-- what a move makes of the search of a run
is_moved : (t : Task) (r r' : Run) (m : Move) → MovesSearch t r m r' → IsMoved t (search_of r) (search_of r')
is_moved t r r' (moves.Resume workers stop) x = Stays x
is_moved t r r' (moves.Pop k) x = Stays x
is_moved t r r' (moves.Take k) x = Stays x
is_moved t r r' (moves.Expand k place) x = Stays x
is_moved t r r' (moves.Commit k) x = commit_moved t r r' k (slice_get r.seats k) x
is_moved t r r' (moves.Redeem k) x = Stays x
is_moved t r r' (moves.Push k) x = Stays x
is_moved t r r' (moves.Offer k) x = Stays x
is_moved t r r' (moves.Load k) x = Stays x
is_moved t r r' moves.Pull x = Stays x
is_moved t r r' moves.Flush x = Stays x
is_moved t r r' moves.Ack x = ack_moved t r r' r.flushed x
is_moved t r r' (moves.Stop stop) x = Stays x

-- ---- worlds

-- a run that an abstract search may come to
record IsRunOf (t : Task) (a : Search) (f : File) (r : Run) : Type 0 where
  sound : IsSound t f r
  whole : LosesNone r
  becomes : MayBecome t a (search_of r)

-- what was left of such a run
record IsLeftOf (t : Task) (a : Search) (digest content : List ℕ) : Type 0 where
  file : File
  run : Run
  is : IsRunOf t a file run
  left : IsLeft digest (doing_in file run.group) content

abbrev IsTraced : Task → Search → List ℕ → Doing → World → Type 0
IsTraced t a digest doing (Stopped content) = IsLeft digest doing content ⊎ IsLeftOf t a digest content
IsTraced t a digest doing (Running f r) = IsRunOf t a f r

module _ (t : Task) (digest : List ℕ) (len : length digest ≡ DIGEST_LEN) (start : List ℕ) (earlier : File) (begins : IsBeginning t digest start earlier) where
  abbrev b : IsBegun t digest len start earlier
  b = begun t digest len start earlier begins

  abbrev a : Search
  a = search_in t earlier

  abbrev IsSo : World → Type 0
  IsSo w = IsTraced t a digest b.doing w

  -- a run goes on, or ends
  from_run : (f : File) (r : Run) (m : Move) (w : World) → IsRunOf t a f r → StepsTo Anything t digest (Running f r) m w → IsSo w
  from_run f r m (Stopped content) x step = inr (record { file = f; run = r; is = x; left = run_left t digest f r content m step })
  from_run f r m (Running f' r') x step = record {
    sound = step_sound t digest len (Running f r) (Running f' r') m x.sound step;
    whole = steps_whole t digest f f' r r' x.sound x.whole m step;
    becomes = becomes_then t a (search_of r) (search_of r') x.becomes (is_moved t r r' m (steps_search t digest f f' r r' x.sound m step));
  }

  -- a search that goes on has each successor
  starts_whole : (f : File) (r : Run) → IsRunAfter t f r → IsSound t f r → LosesNone r
  starts_whole f r on x =
      let entries = journal_entries f in
      let kept : IsBookKept (resumed_state t entries) = subst IsBookKept (ap (λ (u : Run). u.book.state) on.is) x.truth.kept in
      subst LosesNone (sym on.is) (λ k. in_one_place t entries kept on.workers (most_of f.version) k on.some)

  -- nothing has run yet
  from_first : (content : List ℕ) (m : Move) (w : World) → IsLeft digest b.doing content → StepsTo Anything t digest (Stopped content) m w → IsSo w
  from_first content m (Stopped next) left step = inl (gone_on t digest b.doing len b.groups b.on content m (Stopped next) left step)
  from_first content m (Running f r) left step =
      let on = gone_on t digest b.doing len b.groups b.on content m (Running f r) left step in
      record {
        sound = gone_sound t digest b.doing len b.groups b.on (Running f r) on;
        whole = starts_whole f r on.1 (gone_sound t digest b.doing len b.groups b.on (Running f r) on);
        becomes = ([], first_from t digest len start earlier begins content m f r left step);
      }

  -- a run has ended
  from_left : (content : List ℕ) (m : Move) (w : World) → IsLeftOf t a digest content → StepsTo Anything t digest (Stopped content) m w → IsSo w
  from_left content m (Stopped next) x step =
      let s = x.is.sound in
      inr (record {
        file = x.file;
        run = x.run;
        is = x.is;
        left = gone_on t digest (doing_in x.file x.run.group) len (run_groups t x.file x.run s) (run_goes_on t x.file x.run s) content m (Stopped next) x.left step;
      })
  from_left content m (Running f r) x step =
      let s = x.is.sound in
      let groups = run_groups t x.file x.run s in
      let goes = run_goes_on t x.file x.run s in
      let on = gone_on t digest (doing_in x.file x.run.group) len groups goes content m (Running f r) x.left step in
      let resumed = goes_on_from t digest len start earlier begins x.file f x.run r m content s x.left step in
      record {
        sound = gone_sound t digest (doing_in x.file x.run.group) len groups goes (Running f r) on;
        whole = starts_whole f r on.1 (gone_sound t digest (doing_in x.file x.run.group) len groups goes (Running f r) on);
        becomes = becomes_then t a (search_of x.run) (search_of r) x.is.becomes (IsCut resumed.1.left resumed.1.cut);
      }

  traced : (w w' : World) (m : Move) → IsSo w → StepsTo Anything t digest w m w' → IsSo w'
  traced (Running f r) w' m x step = from_run f r m w' x step
  traced (Stopped content) w' m (inl first) step = from_first content m w' first step
  traced (Stopped content) w' m (inr left) step = from_left content m w' left step

  all_traced : (ms : List Move) (w w' : World) → IsSo w → Plays Anything t digest w ms w' → IsSo w'
  all_traced [] w w' x plays = subst IsSo (sym plays) x
  all_traced (m ∷ ms) w w' x plays = all_traced ms plays.0 w' (traced w plays.0 m x plays.1) plays.2

  all_of : (ms : List Move) (f : File) (r : Run) → LeadsTo Anything t digest start ms (Running f r) → IsRunOf t a f r
  all_of ms f r reaches = all_traced ms (Stopped start) (Running f r) (inl b.left) reaches

  pub whole : (ms : List Move) (f : File) (r : Run) → LeadsTo Anything t digest start ms (Running f r) → LosesNone r
  whole ms f r reaches = (all_of ms f r reaches).whole

  pub runs : (ms : List Move) (f : File) (r : Run) → LeadsTo Anything t digest start ms (Running f r) → MayBecome t a (search_of r)
  runs ms f r reaches = (all_of ms f r reaches).becomes
