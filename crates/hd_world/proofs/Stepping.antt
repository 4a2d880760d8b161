-- What a step of the world makes of the search of a run, where a run goes on after it.
use Rattle.std.proofs.Common.{◌≡◌, ℕ, Bool, true, false, cond, Option, Some, None, List, inl, inr, sym, ap, subst, true≢false}
use Rattle.hd_task.specs.declared.task.Task.{Task}
use Rattle.hd_journal.specs.Group.{GroupView}
use Rattle.hd_world.specs.declared.moves.Move.{Move}
use Rattle.hd_world.specs.declared.moves.Move.TheVariants as moves
use Rattle.hd_world.specs.declared.moves.StopAt.{StopAt}
use Rattle.hd_world.specs.Seats.{Run}
use Rattle.hd_world.specs.Stops.{File, Anything, with_appended, is_next}
use Rattle.hd_world.specs.World.{World, Stopped, Running, flushed_to, StopsIn, Falls, IsNone, MovesRunning, StepsTo}
use Rattle.hd_world.specs.Search.{search_of}
use Rattle.hd_world.specs.Once.{LosesNone}
use Rattle.hd_world.specs.Sound.{IsSound}
use Rattle.hd_world.specs.Headline.{MovesSearch}
use Rattle.hd_world.proofs.Searching.{turns_search}
use Rattle.hd_world.proofs.Losing.{turns_stay_whole}

-- the run of a world, or another where none runs
abbrev run_of : Run → World → Run
run_of other (Stopped content) = other
run_of other (Running f r) = r

abbrev is_running : World → Bool
is_running (Stopped content) = false
is_running (Running f r) = true

pub same_run : (f f' : File) (r r' : Run) → Running f' r' ≡ Running f r → r' ≡ r
same_run f f' r r' e = ap (run_of r) e

pub none_runs : (f : File) (r : Run) (content : List ℕ) → Running f r ≡ Stopped content → ⊥
none_runs f r content e = true≢false (ap is_running e)

module _ (t : Task) (digest : List ℕ) (f f' : File) (r r' : Run) (x : IsSound t f r) where
  same_search : Running f' r' ≡ Running f r → search_of r' ≡ search_of r
  same_search e = ap search_of (same_run f f' r r' e)

  goes : (m : Move) → MovesRunning t digest f r m (Running f' r') → MovesSearch t r m r'
  goes m (inl on) = subst (MovesSearch t r m) (sym (same_run f f' on.0 r' on.2)) (turns_search t f r x m on.0 on.1)
  goes m (inr ends) = absurd (none_runs f' r' _ ends.1)

  flush_search : (g : Option GroupView) → Running f' r' ≡ flushed_to f r g → search_of r' ≡ search_of r
  flush_search None e = same_search e
  flush_search (Some g) e =
      elim (is_next f g) as (λ y. Running f' r' ≡ cond y (Running (with_appended g.kids f) (record r { group = None; flushed = Some g })) (Running f r) → search_of r' ≡ search_of r) [
        | true ↦ λ e. ap search_of (same_run (with_appended g.kids f) f' (record r { group = None; flushed = Some g }) r' e)
        | false ↦ λ e. same_search e
      ] e

  stop_search : (stop : StopAt) → StopsIn Anything digest f r stop (Running f' r') → search_of r' ≡ search_of r
  stop_search stop (Falls content within left is) = absurd (none_runs f' r' content is)
  stop_search stop (IsNone beyond is) = same_search is

  pub steps_search : (m : Move) → StepsTo Anything t digest (Running f r) m (Running f' r') → MovesSearch t r m r'
  steps_search (moves.Resume workers stop) e = same_search e
  steps_search (moves.Pop k) e = goes (moves.Pop k) e
  steps_search (moves.Take k) e = goes (moves.Take k) e
  steps_search (moves.Expand k place) e = goes (moves.Expand k place) e
  steps_search (moves.Commit k) e = goes (moves.Commit k) e
  steps_search (moves.Redeem k) e = goes (moves.Redeem k) e
  steps_search (moves.Push k) e = goes (moves.Push k) e
  steps_search (moves.Offer k) e = goes (moves.Offer k) e
  steps_search (moves.Load k) e = goes (moves.Load k) e
  steps_search moves.Pull e = goes moves.Pull e
  steps_search moves.Flush e = flush_search r.group e
  steps_search moves.Ack e = goes moves.Ack e
  steps_search (moves.Stop stop) e = stop_search stop e

-- ---- no successor is lost

module _ (t : Task) (digest : List ℕ) (f f' : File) (r r' : Run) (x : IsSound t f r) (whole : LosesNone r) where
  same_whole : Running f' r' ≡ Running f r → LosesNone r'
  same_whole e = subst LosesNone (sym (same_run f f' r r' e)) whole

  goes_whole : (m : Move) → MovesRunning t digest f r m (Running f' r') → LosesNone r'
  goes_whole m (inl on) = subst LosesNone (sym (same_run f f' on.0 r' on.2)) (turns_stay_whole t f r x whole m on.0 on.1)
  goes_whole m (inr ends) = absurd (none_runs f' r' _ ends.1)

  flush_whole : (g : Option GroupView) → Running f' r' ≡ flushed_to f r g → LosesNone r'
  flush_whole None e = same_whole e
  flush_whole (Some g) e =
      elim (is_next f g) as (λ y. Running f' r' ≡ cond y (Running (with_appended g.kids f) (record r { group = None; flushed = Some g })) (Running f r) → LosesNone r') [
        | true ↦ λ e. subst LosesNone (sym (same_run (with_appended g.kids f) f' (record r { group = None; flushed = Some g }) r' e)) whole
        | false ↦ λ e. same_whole e
      ] e

  stop_whole : (stop : StopAt) → StopsIn Anything digest f r stop (Running f' r') → LosesNone r'
  stop_whole stop (Falls content within left is) = absurd (none_runs f' r' content is)
  stop_whole stop (IsNone beyond is) = same_whole is

  pub steps_whole : (m : Move) → StepsTo Anything t digest (Running f r) m (Running f' r') → LosesNone r'
  steps_whole (moves.Resume workers stop) e = same_whole e
  steps_whole (moves.Pop k) e = goes_whole (moves.Pop k) e
  steps_whole (moves.Take k) e = goes_whole (moves.Take k) e
  steps_whole (moves.Expand k place) e = goes_whole (moves.Expand k place) e
  steps_whole (moves.Commit k) e = goes_whole (moves.Commit k) e
  steps_whole (moves.Redeem k) e = goes_whole (moves.Redeem k) e
  steps_whole (moves.Push k) e = goes_whole (moves.Push k) e
  steps_whole (moves.Offer k) e = goes_whole (moves.Offer k) e
  steps_whole (moves.Load k) e = goes_whole (moves.Load k) e
  steps_whole moves.Pull e = goes_whole moves.Pull e
  steps_whole moves.Flush e = flush_whole r.group e
  steps_whole moves.Ack e = goes_whole moves.Ack e
  steps_whole (moves.Stop stop) e = stop_whole stop e
