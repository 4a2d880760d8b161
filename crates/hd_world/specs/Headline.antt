-- The headline: what holds of every schedule, whatever its stops leave of the disk. (Our own.)
use Rattle.std.specs.Prelude.{◌≡◌, ◌⊎◌, ℕ, ◌+◌, ◌<◌, ◌≤◌, true, false, List, [], ◌∷◌, ◌++◌, length, take, flat_map, map, Option, Some, None, slice_get}
use Rattle.std.specs.List.{AllByRecursion}
use Rattle.hd_task.specs.declared.task.Task.{Task}
use Rattle.hd_task.specs.declared.plan.Kid.{Kid}
use Rattle.hd_task.specs.Entries.{plan_of}
use Rattle.hd_zobrist.specs.declared.owners.TheConstants.{MAX_WORKERS}
use Rattle.hd_image.specs.declared.error.ImageError.{ImageError}
use Rattle.hd_image.specs.declared.error.ImageError.TheVariants.{NoMemory}
use Rattle.hd_image.specs.declared.header.TheConstants.{DIGEST_LEN}
use Rattle.hd_image.specs.Image.{most_of}
use Rattle.hd_image.specs.Reading.{IsRefused}
use Rattle.hd_journal.specs.Calls.{Call}
use Rattle.hd_journal.specs.Group.{GroupView}
use Rattle.hd_entries.specs.declared.refusal.Refusal.TheVariants.{Full}
use Rattle.hd_entries.specs.declared.verdict.Verdict.{Verdict}
use Rattle.hd_entries.specs.Settling.{expansions, entry_of, is_posted}
use Rattle.hd_entries.specs.Resuming.{has}
use Rattle.hd_entries.specs.Answers.{is_over, IsCoveredBook, IsAnswerOf, IsBoundPlanOf, IsValidPlan, IsTrueAnswer}
use Rattle.hd_book.specs.Batches.{TicketView, is_ticket_out}
use Rattle.hd_book.specs.Queue.{group_end, is_idle}
use Rattle.hd_book.specs.declared.refusal.CommitRefusal.{CommitRefusal}
use Rattle.hd_book.specs.declared.refusal.CommitRefusal.TheVariants.{Refused}
use Rattle.hd_book.specs.View.{BookView}
use Rattle.hd_book.specs.Groups.{is_group_out}
use Rattle.hd_book.specs.Refusing.{commit_refusal_to}
use Rattle.hd_turns.specs.Calls.{batch_of}
use Rattle.hd_world.specs.declared.moves.Move.{Move}
use Rattle.hd_world.specs.declared.moves.StopAt.{StopAt}
use Rattle.hd_world.specs.declared.moves.Move.TheVariants.{Resume, Pop, Take, Expand, Commit, Redeem, Push, Offer, Load, Pull, Flush, Ack, Stop}
use Rattle.hd_world.specs.Seats.{Seat, Run}
use Rattle.hd_world.specs.Moves.{may_commit}
use Rattle.hd_world.specs.Once.{LosesNone, IsIdle, times_held, times_out}
use Rattle.hd_world.specs.Owners.{IsOpenIn, IsClosedIn}
use Rattle.hd_world.specs.Starting.{run_after}
use Rattle.hd_world.specs.Stops.{File, Anything, Opens, journal_entries, is_next}
use Rattle.hd_world.specs.World.{Stopped, Running, is_recovered, StepsTo, IsBeginning, LeadsTo}
use Rattle.hd_world.specs.Search.{Search, first_search, search_in, Extends, Acknowledges, IsCutTo, MayBecome, search_of}

-- ---- one run

-- a commit was accepted: the entries of the worker's batch are the last ones
pub record IsAccepted (t : Task) (r : Run) (k : ℕ) (r' : Run) : Type 0 where
  pub seat : Seat
  pub there : slice_get r.seats k ≡ Some seat
  pub entries : r'.book.state.entries ≡ r.book.state.entries ++ flat_map entry_of (batch_of seat.worker)
  pub more : List (List ℕ)
  pub plans : map (plan_of (expansions r'.book.state)) (flat_map entry_of (batch_of seat.worker)) ≡ map Some more
  pub extends : Extends t (search_of r) (search_of r') more

-- what a commit of a worker makes of the search: it is accepted exactly where the worker may commit
-- and the book does not refuse its batch, and else changes nothing
pub record CommitsSearch (t : Task) (r : Run) (k : ℕ) (s : Seat) (r' : Run) : Type 0 where
  pub accepted : may_commit s ≡ true → commit_refusal_to r.book (batch_of s.worker) ≡ None → IsAccepted t r k r'
  pub refused : (why : CommitRefusal) → commit_refusal_to r.book (batch_of s.worker) ≡ Some why → search_of r' ≡ search_of r
  pub idle : may_commit s ≡ false → search_of r' ≡ search_of r

-- what a commit makes of it, by the seat of its worker, if there is one
abbrev pub IfCommits : Task → Run → ℕ → Option Seat → Run → Type 0
IfCommits t r k None r' = search_of r' ≡ search_of r
IfCommits t r k (Some s) r' = CommitsSearch t r k s r'

-- all entries are acknowledged up to the end of a group
pub record IsAcked (a : Search) (g : GroupView) (b : Search) : Type 0 where
  pub more : Acknowledges a b
  pub all : b.acknowledged ≡ g.first + length g.kids

-- what `ack` makes of it, by the group that was appended, if one was
abbrev pub IfAcked : Run → Option GroupView → Run → Type 0
IfAcked r None r' = search_of r' ≡ search_of r
IfAcked r (Some g) r' = IsAcked (search_of r) g (search_of r')

-- what a move makes of the search of a run: a commit that is accepted lengthens it by exactly its
-- expansions, `ack` acknowledges the group that was appended, and no other move changes it
abbrev pub MovesSearch : Task → Run → Move → Run → Type 0
MovesSearch t r (Resume workers stop) r' = search_of r' ≡ search_of r
MovesSearch t r (Pop k) r' = search_of r' ≡ search_of r
MovesSearch t r (Take k) r' = search_of r' ≡ search_of r
MovesSearch t r (Expand k place) r' = search_of r' ≡ search_of r
MovesSearch t r (Commit k) r' = IfCommits t r k (slice_get r.seats k) r'
MovesSearch t r (Redeem k) r' = search_of r' ≡ search_of r
MovesSearch t r (Push k) r' = search_of r' ≡ search_of r
MovesSearch t r (Offer k) r' = search_of r' ≡ search_of r
MovesSearch t r (Load k) r' = search_of r' ≡ search_of r
MovesSearch t r Pull r' = search_of r' ≡ search_of r
MovesSearch t r Flush r' = search_of r' ≡ search_of r
MovesSearch t r Ack r' = IfAcked r r.flushed r'
MovesSearch t r (Stop stop) r' = search_of r' ≡ search_of r

-- a run ends where a stop falls, or where the book has no room for a batch that a worker commits
abbrev pub IsEnding : Run → Move → Type 0
IsEnding r (Resume workers stop) = ⊥
IsEnding r (Pop k) = ⊥
IsEnding r (Take k) = ⊥
IsEnding r (Expand k place) = ⊥
IsEnding r (Commit k) =
    (s : Seat) × (slice_get r.seats k ≡ Some s) × (may_commit s ≡ true) × (commit_refusal_to r.book (batch_of s.worker) ≡ Some (Refused Full))
IsEnding r (Redeem k) = ⊥
IsEnding r (Push k) = ⊥
IsEnding r (Offer k) = ⊥
IsEnding r (Load k) = ⊥
IsEnding r Pull = ⊥
IsEnding r Flush = ⊥
IsEnding r Ack = ⊥
IsEnding r (Stop stop) = Unit {0}

-- the group is the one that is out, if there is one
abbrev pub IfOut : Run → Option GroupView → Type 0
IfOut r None = Unit {0}
IfOut r (Some g) = is_group_out r.book g ≡ true

-- it may be appended, if there is one
abbrev pub IfNext : File → Option GroupView → Type 0
IfNext f None = Unit {0}
IfNext f (Some g) = is_next f g ≡ true

-- a batch of a worker is refused for want of room, if it is refused, and each of its tickets is
-- out
pub record IsAdmissibleSeat (r : Run) (s : Seat) : Type 0 where
  pub batch : (commit_refusal_to r.book (batch_of s.worker) ≡ None) ⊎ (commit_refusal_to r.book (batch_of s.worker) ≡ Some (Refused Full))
  pub tickets : AllByRecursion (λ (k : TicketView). is_ticket_out r.book.batches k ≡ true) s.tickets

-- how many entries stand in the journal: the acknowledged ones, and those of the group that was
-- appended, if one was
abbrev pub written_count : BookView → Option GroupView → ℕ
written_count b None = b.batches.queue.acknowledged
written_count b (Some g) = group_end b.batches.queue

-- no batch is refused for what it says; and no ticket and no group is refused: each ticket that is
-- held is out, and each one that is out is held once, by one worker; the group that was pulled may
-- be appended, or handed back, and the one that was appended may be acknowledged; and the journal's
-- entries are the book's first ones
pub record AllIsAdmissible (f : File) (r : Run) : Type 0 where
  pub seats : AllByRecursion (IsAdmissibleSeat r) r.seats
  pub group : IfNext f r.group
  pub pulled : IfOut r r.group
  pub flushed : IfOut r r.flushed
  pub held : (n : ℕ) → times_held n r.seats ≡ times_out n r.book.batches.tickets
  pub written : journal_entries f ≡ take (written_count r.book r.flushed) r.book.state.entries

-- what a run answers is true of all plans, or names the first departure that was recorded; the
-- plan of the bound is valid, if there is one
pub record AnswersTruly (t : Task) (r : Run) : Type 0 where
  pub covered : is_over r.book.state ≡ true → IsCoveredBook r.book.state
  pub verdict : is_over r.book.state ≡ true → is_idle r.book.batches.queue ≡ true → (v : Verdict) → IsAnswerOf r.book.state v → IsTrueAnswer t v
  pub plan : (p : Option (List ℕ)) → IsBoundPlanOf t (expansions r.book.state) p → IsValidPlan t p

-- ---- stops and resumptions

-- moves during which nothing runs lead from one content of the disk to another
abbrev pub Rests : Task → List ℕ → List ℕ → List Move → List ℕ → Type 0
Rests t digest content [] left = left ≡ content
Rests t digest content (m ∷ moves) left =
    (mid : List ℕ) × StepsTo Anything t digest (Stopped content) m (Stopped mid) × Rests t digest mid moves left

-- how many entries a stop leaves: the acknowledged ones; or these with the whole group that was
-- pulled; always the latter where a group was appended
abbrev pub MayBeLeftBy : BookView → Option GroupView → Option GroupView → ℕ → Type 0
MayBeLeftBy b group (Some g) left = left ≡ group_end b.batches.queue
MayBeLeftBy b (Some g) None left = (left ≡ b.batches.queue.acknowledged) ⊎ (left ≡ group_end b.batches.queue)
MayBeLeftBy b None None left = left ≡ b.batches.queue.acknowledged

-- how many entries a stop of this run may leave
abbrev pub MayBeLeft : Run → ℕ → Type 0
MayBeLeft r left = MayBeLeftBy r.book r.group r.flushed left

-- a search goes on, with so many workers, from what was left of another over a journal: it is the
-- search after a beginning that has all acknowledged entries, and the journal's version stays
pub record IsResumed (f : File) (r : Run) (t : Task) (workers : ℕ) (f' : File) (r' : Run) : Type 0 where
  pub left : ℕ
  pub some : 1 ≤ workers
  pub most : workers ≤ MAX_WORKERS
  pub cut : IsCutTo (search_of r) (search_of r') left
  pub may : MayBeLeft r left
  pub version : f'.version ≡ f.version
  pub is : r' ≡ run_after t (most_of f'.version) workers (take left r.book.state.entries)

-- a search goes on, with so many workers, from a journal that was there before
pub record StartsFromJournal (t : Task) (earlier : File) (workers : ℕ) (f : File) (r : Run) : Type 0 where
  pub file : f ≡ earlier
  pub is : r ≡ run_after t (most_of earlier.version) workers (journal_entries earlier)
  pub search : search_of r ≡ search_in t earlier

-- where a run begins, with so many workers: its entries are those of its journal; and each of them
-- is closed, and each other successor open, at the worker that owns its state
pub record IsRebuilt (workers : ℕ) (f : File) (r : Run) : Type 0 where
  pub seats : length r.seats ≡ workers
  pub entries : r.book.state.entries ≡ journal_entries f
  pub closed : (n : ℕ) → n < length (journal_entries f) → IsClosedIn r n
  pub waiting : (k : Kid) → is_posted r.book.state k ≡ true → has (journal_entries f) k ≡ false → IsOpenIn r k

-- ---- all of it

-- for a task, its digest, what the disk holds before the schedule, and the journal of the search
-- that this is
pub record IsHeadline (t : Task) (digest start : List ℕ) (earlier : File) : Type 0 where
  -- on an empty disk that search is the one at first: nothing is expanded
  pub empty : start ≡ [] → search_in t earlier ≡ first_search
  -- the first run is that search, after the entries of the journal, with the workers of the
  -- resumption
  pub first :
      (moves : List Move) (content : List ℕ) (workers : ℕ) (stop : Option StopAt) (f : File) (r : Run) → Rests t digest start moves content
      → StepsTo Anything t digest (Stopped content) (Resume workers stop) (Running f r) → StartsFromJournal t earlier workers f r
  -- each move of a run moves its search as an abstract search may be moved
  pub moves :
      (moves : List Move) (f f' : File) (r r' : Run) (m : Move) → LeadsTo Anything t digest start moves (Running f r)
      → StepsTo Anything t digest (Running f r) m (Running f' r') → MovesSearch t r m r'
  -- a run ends by nothing but a stop, or a batch for which the book has no room
  pub closes :
      (moves : List Move) (f : File) (r : Run) (m : Move) (content : List ℕ) → LeadsTo Anything t digest start moves (Running f r)
      → StepsTo Anything t digest (Running f r) m (Stopped content) → IsEnding r m
  -- where a run ends, and after moves during which nothing runs one goes on, a beginning of the
  -- search is left that has all acknowledged entries
  pub stops :
      (before between : List Move) (f f' : File) (r r' : Run) (m : Move) (workers : ℕ) (stop : Option StopAt) (content left : List ℕ)
      → LeadsTo Anything t digest start before (Running f r) → StepsTo Anything t digest (Running f r) m (Stopped content)
      → Rests t digest content between left → StepsTo Anything t digest (Stopped left) (Resume workers stop) (Running f' r')
      → IsResumed f r t workers f' r'
  -- each run begins with all entries closed and all else open, each at its owner
  pub rebuilt :
      (moves : List Move) (content : List ℕ) (workers : ℕ) (stop : Option StopAt) (f : File) (r : Run)
      → LeadsTo Anything t digest start moves (Stopped content)
      → StepsTo Anything t digest (Stopped content) (Resume workers stop) (Running f r) → IsRebuilt workers f r
  -- so the search of each run is one that the earlier search may become
  pub runs : (moves : List Move) (f : File) (r : Run) → LeadsTo Anything t digest start moves (Running f r) → MayBecome t (search_in t earlier) (search_of r)
  -- no file that stops left is refused, and no entry of it is faulty
  pub opens : (moves : List Move) (content : List ℕ) → LeadsTo Anything t digest start moves (Stopped content) → (calls : List Call) × (f : File) × Opens digest content calls f
  pub unrefused :
      (moves : List Move) (content : List ℕ) (error : ImageError) → LeadsTo Anything t digest start moves (Stopped content)
      → IsRefused digest content error → error ≡ NoMemory
  pub recovers :
      (moves : List Move) (content : List ℕ) (calls : List Call) (f : File) → LeadsTo Anything t digest start moves (Stopped content)
      → Opens digest content calls f → is_recovered t f ≡ true
  -- so what is left is resumed, with any number of workers from 1 to `MAX_WORKERS`
  pub resumes :
      (moves : List Move) (content : List ℕ) (workers : ℕ) → 1 ≤ workers → workers ≤ MAX_WORKERS
      → LeadsTo Anything t digest start moves (Stopped content)
      → (f : File) × (r : Run) × StepsTo Anything t digest (Stopped content) (Resume workers None) (Running f r)
  -- no commit, no ticket and no group is refused for what it says
  pub admissible : (moves : List Move) (f : File) (r : Run) → LeadsTo Anything t digest start moves (Running f r) → AllIsAdmissible f r
  -- no successor is lost: each that is posted and not settled is in exactly one place; so where
  -- nothing is left to do, all is settled
  pub whole : (moves : List Move) (f : File) (r : Run) → LeadsTo Anything t digest start moves (Running f r) → LosesNone r
  pub ends : (moves : List Move) (f : File) (r : Run) → LeadsTo Anything t digest start moves (Running f r) → IsIdle r → is_over r.book.state ≡ true
  -- what is answered is true
  pub answers : (moves : List Move) (f : File) (r : Run) → LeadsTo Anything t digest start moves (Running f r) → AnswersTruly t r

-- for each digest, and each disk that a schedule begins with
abbrev pub Headline : Task → Type 0
Headline t =
    (digest start : List ℕ) (earlier : File) → length digest ≡ DIGEST_LEN → IsBeginning t digest start earlier → IsHeadline t digest start earlier
