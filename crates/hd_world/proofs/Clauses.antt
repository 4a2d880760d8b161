-- What a search goes on with after stops, and that what they left is always opened.
use Rattle.std.proofs.Common.{◌≡◌, ℕ, ◌≤◌, true, Option, Some, None, List, [], take, length, sym, ap, ◌∙◌, subst, arith}
use Rattle.std.specs.Prelude.{unwrap_or}
use Rattle.std.proofs.lemmas.List.{length-take}
use Rattle.hd_task.specs.declared.task.Task.{Task}
use Rattle.hd_task.specs.declared.plan.Kid.{Kid}
use Rattle.hd_task.specs.Entries.{plans_of}
use Rattle.hd_image.specs.declared.error.ImageError.{ImageError}
use Rattle.hd_image.specs.declared.error.ImageError.TheVariants.{NoMemory}
use Rattle.hd_image.specs.declared.header.TheConstants.{DIGEST_LEN}
use Rattle.hd_image.specs.Image.{most_of}
use Rattle.hd_image.specs.Reading.{IsRefused}
use Rattle.hd_journal.specs.Calls.{Call}
use Rattle.hd_entries.specs.Settling.{expansions}
use Rattle.hd_entries.proofs.Naming.{length-plans_of}
use Rattle.hd_world.specs.declared.moves.Move.{Move}
use Rattle.hd_world.specs.declared.moves.Move.TheVariants.{Resume}
use Rattle.hd_world.specs.declared.moves.StopAt.{StopAt}
use Rattle.hd_zobrist.specs.declared.owners.TheConstants.{MAX_WORKERS}
use Rattle.hd_world.specs.Headline.{IsResumed, StartsFromJournal, IsRebuilt, Rests}
use Rattle.hd_world.specs.Search.{IsCutTo, first_search, search_in, search_of}
use Rattle.hd_world.specs.Seats.{Run}
use Rattle.hd_world.specs.Sound.{IsSound}
use Rattle.hd_world.specs.Starting.{run_after}
use Rattle.hd_world.specs.Stops.{File, Anything, Opens, journal_entries, journal_bytes}
use Rattle.hd_world.specs.World.{Stopped, Running, IsOpened, is_recovered, StepsTo, IsBeginning, IsEmpty, IsJournal, LeadsTo}
use Rattle.hd_world.specs.Left.{IsLeft}
use Rattle.hd_world.specs.Lasting.{doing_in, IsRunAfter, IsResting}
use Rattle.hd_world.proofs.Beginnings.{named_take}
use Rattle.hd_world.proofs.Halting.{IsCut, run_found, run_goes_on, run_groups}
use Rattle.hd_world.proofs.Opened.{left_opened, left_found, left_not_refused}
use Rattle.hd_world.proofs.Owning.{is_rebuilt}
use Rattle.hd_world.proofs.Playing.{run_left, gone_on, reached_sound, recovered_is, resumed_with, IsBegun, begun, rested}

-- ---- after a run

module _ (t : Task) (f : File) (r : Run) (x : IsSound t f r) (f' : File) (r' : Run) (c : IsCut f r f') (on : IsRunAfter t f' r') where
  abbrev entries : List Kid
  entries = r.book.state.entries

  abbrev plans : List (List ℕ)
  plans = expansions r.book.state

  named : plans_of entries ≡ Some plans
  named = x.truth.kept.named

  goes_on : r' ≡ run_after t (most_of f'.version) on.workers (take c.left entries)
  goes_on = on.is ∙ ap (λ (es : List Kid). run_after t (most_of f'.version) on.workers es) c.entries

  is_cut : IsCutTo (search_of r) (search_of r') c.left
  is_cut = record {
    no_fewer = c.no_fewer;
    among = omega (arith, c.among, length-plans_of entries plans named);
    front =
        ap (λ (u : Run). expansions u.book.state) goes_on
        ∙ ap (λ (o : Option (List (List ℕ))). unwrap_or o []) (named_take entries plans c.left c.among named);
    all =
        let count : (search_of r').acknowledged ≡ length (take c.left entries) = ap (λ (u : Run). u.book.batches.queue.acknowledged) goes_on in
        omega (arith, count, length-take c.left entries, c.among);
  }

  pub is_resumed : IsResumed f r t on.workers f' r'
  is_resumed = record { left = c.left; some = on.some; most = on.most; cut = is_cut; may = c.may; version = c.version; is = goes_on }

-- ---- of all schedules

module _ (t : Task) (digest : List ℕ) (len : length digest ≡ DIGEST_LEN) (start : List ℕ) (earlier : File) (begins : IsBeginning t digest start earlier) where
  abbrev b : IsBegun t digest len start earlier
  b = begun t digest len start earlier begins

  -- an empty disk holds the search at first
  pub empty : start ≡ [] → search_in t earlier ≡ first_search
  empty none = empty_of begins
    where
      empty_of : IsBeginning t digest start earlier → search_in t earlier ≡ first_search
      empty_of (IsEmpty nothing first) = ap (search_in t) first
      empty_of (IsJournal is groups on) = absurd (let some : journal_bytes digest earlier ≡ [] = sym is ∙ none in cc)

  -- where nothing has run yet
  pub first_from : (content : List ℕ) (m : Move) (f : File) (r : Run) → IsLeft digest b.doing content
      → StepsTo Anything t digest (Stopped content) m (Running f r) → search_of r ≡ search_in t earlier
  first_from content m f r left step =
      let on = gone_on t digest b.doing len b.groups b.on content m (Running f r) left step in
      ap search_of on.1.is ∙ ap (λ (g : File). search_of (run_after t (most_of g.version) on.1.workers (journal_entries g))) (b.found f on.0)

  pub first : (moves : List Move) (content : List ℕ) (workers : ℕ) (stop : Option StopAt) (f : File) (r : Run) → Rests t digest start moves content
      → StepsTo Anything t digest (Stopped content) (Resume workers stop) (Running f r) → StartsFromJournal t earlier workers f r
  first moves content workers stop f r rests step =
      let left = rested t digest b.doing len b.groups b.on moves start content b.left rests in
      let on = resumed_with t digest b.doing len b.groups b.on content workers stop f r left step in
      let same = b.found f on.0 in
      record {
        file = same;
        is = on.3 ∙ ap (λ (g : File). run_after t (most_of g.version) workers (journal_entries g)) same;
        search = first_from content (Resume workers stop) f r left step;
      }

  -- where a sound run has ended
  pub goes_on_from : (f f' : File) (r r' : Run) (m : Move) (left : List ℕ) → IsSound t f r → IsLeft digest (doing_in f r.group) left
      → StepsTo Anything t digest (Stopped left) m (Running f' r') → (workers : ℕ) × IsResumed f r t workers f' r'
  goes_on_from f f' r r' m left x is step =
      let on = gone_on t digest (doing_in f r.group) len (run_groups t f r x) (run_goes_on t f r x) left m (Running f' r') is step in
      (on.1.workers, is_resumed t f r x f' r' (run_found t f r x f' on.0) on.1)

  pub stops : (before between : List Move) (f f' : File) (r r' : Run) (m : Move) (workers : ℕ) (stop : Option StopAt) (content left : List ℕ)
      → LeadsTo Anything t digest start before (Running f r) → StepsTo Anything t digest (Running f r) m (Stopped content) → Rests t digest content between left
      → StepsTo Anything t digest (Stopped left) (Resume workers stop) (Running f' r') → IsResumed f r t workers f' r'
  stops before between f f' r r' m workers stop content left reaches step rests goes =
      let x : IsSound t f r = reached_sound t digest len start earlier begins before (Running f r) reaches in
      let groups = run_groups t f r x in
      let goes_on = run_goes_on t f r x in
      let is = rested t digest (doing_in f r.group) len groups goes_on between content left (run_left t digest f r content m step) rests in
      let on = resumed_with t digest (doing_in f r.group) len groups goes_on left workers stop f' r' is goes in
      is_resumed t f r x f' r' (run_found t f r x f' on.0) (record { workers = workers; some = on.1; most = on.2; is = on.3 })

  module _ (moves : List Move) (content : List ℕ) (reaches : LeadsTo Anything t digest start moves (Stopped content)) where
    rests : IsResting t digest content
    rests = reached_sound t digest len start earlier begins moves (Stopped content) reaches

    pub opens : (calls : List Call) × (f : File) × Opens digest content calls f
    opens = let o = left_opened digest rests.doing content len rests.groups rests.left in (o.calls, o.file, o.is)

    pub unrefused : (error : ImageError) → IsRefused digest content error → error ≡ NoMemory
    unrefused error refused = left_not_refused digest rests.doing content error len rests.groups rests.left refused

    pub rebuilt : (workers : ℕ) (stop : Option StopAt) (f : File) (r : Run) → StepsTo Anything t digest (Stopped content) (Resume workers stop) (Running f r) → IsRebuilt workers f r
    rebuilt workers stop f r step =
        let on = resumed_with t digest rests.doing len rests.groups rests.on content workers stop f r rests.left step in
        subst (IsRebuilt workers f) (sym on.3) (is_rebuilt t f workers on.1 (rests.on f on.0))

    pub recovers : (calls : List Call) (f : File) → Opens digest content calls f → is_recovered t f ≡ true
    recovers calls f o = rests.on f (left_found digest rests.doing content calls f len rests.groups rests.left o)

    pub resumes : (workers : ℕ) → 1 ≤ workers → workers ≤ MAX_WORKERS
        → (f : File) × (r : Run) × StepsTo Anything t digest (Stopped content) (Resume workers None) (Running f r)
    resumes workers some most =
        let o = left_opened digest rests.doing content len rests.groups rests.left in (
          o.file,
          run_after t (most_of o.file.version) workers (journal_entries o.file),
          IsOpened o.calls o.file (some, most) o.is tt (sym (recovered_is t digest workers o.file (rests.on o.file o.after))),
        )
