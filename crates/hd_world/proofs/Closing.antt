-- A run ends by nothing but a stop, or a batch for which the book has no room.
use Rattle.std.proofs.Common.{◌≡◌, inl, inr, ℕ, Bool, true, false, cond, Option, Some, None, List, slice_get, refl, sym, ap, ◌∙◌}
use Rattle.std.proofs.lemmas.Option.{none-some}
use Rattle.hd_base.proofs.Lists.{AllByRecursion-slice_get}
use Rattle.hd_task.specs.declared.task.Task.{Task}
use Rattle.hd_entries.specs.declared.refusal.Refusal.TheVariants.{Full}
use Rattle.hd_book.specs.declared.refusal.CommitRefusal.TheVariants.{Refused}
use Rattle.hd_book.specs.Refusing.{commit_refusal_to}
use Rattle.hd_turns.specs.Calls.{batch_of}
use Rattle.hd_world.specs.declared.moves.Move.{Move}
use Rattle.hd_world.specs.declared.moves.Move.TheVariants as moves
use Rattle.hd_world.specs.Seats.{Seat, Run}
use Rattle.hd_world.specs.Moves.{may_commit, with_commit, committed_by, committed, EndsRun}
use Rattle.hd_world.specs.Stops.{File, Anything}
use Rattle.hd_world.specs.World.{Stopped, Running, MovesRunning, StepsTo}
use Rattle.hd_world.specs.Sound.{IsSound}
use Rattle.hd_world.specs.Headline.{IsAdmissibleSeat, IsEnding}
use Rattle.hd_world.proofs.Admitting.{all_admissible}
use Rattle.hd_world.proofs.Playing.{not_running, flush_runs}

module _ (t : Task) (digest : List ℕ) (f : File) (r : Run) (x : IsSound t f r) where
  -- a batch that ends the run has no room
  has_no_room : (k : ℕ) (s : Seat) → slice_get r.seats k ≡ Some s → committed_by k r s (commit_refusal_to r.book (batch_of s.worker)) ≡ None
      → commit_refusal_to r.book (batch_of s.worker) ≡ Some (Refused Full)
  has_no_room k s e ends =
      let seat = AllByRecursion-slice_get (IsAdmissibleSeat r) r.seats k s (all_admissible t f r x).seats e in
      elim seat.batch [
        | inl free ↦ absurd (none-some (with_commit k (batch_of s.worker) s r) (sym ends ∙ ap (committed_by k r s) free))
        | inr full ↦ full
      ]

  commit_ends : (k : ℕ) (os : Option Seat) → slice_get r.seats k ≡ os → committed k r os ≡ None → IsEnding r (moves.Commit k)
  commit_ends k None e ends = absurd (none-some r (sym ends))
  commit_ends k (Some s) e ends =
      elim (may_commit s) as (λ v. may_commit s ≡ v → cond {A = Option Run} v (committed_by k r s (commit_refusal_to r.book (batch_of s.worker))) (Some r) ≡ None → IsEnding r (moves.Commit k)) [
        | true ↦ λ may ends. (s, e, may, has_no_room k s e ends)
        | false ↦ λ _ ends. absurd (none-some r (sym ends))
      ] refl ends

  move_ends : (m : Move) → EndsRun r m → IsEnding r m
  move_ends (moves.Resume workers stop) ends = ends
  move_ends (moves.Pop k) ends = ends
  move_ends (moves.Take k) ends = ends
  move_ends (moves.Expand k place) ends = ends
  move_ends (moves.Commit k) ends = commit_ends k (slice_get r.seats k) refl ends
  move_ends (moves.Redeem k) ends = ends
  move_ends (moves.Push k) ends = ends
  move_ends (moves.Offer k) ends = ends
  move_ends (moves.Load k) ends = ends
  move_ends moves.Pull ends = ends
  move_ends moves.Flush ends = ends
  move_ends moves.Ack ends = ends
  move_ends (moves.Stop stop) ends = tt

  module _ (content : List ℕ) where
    turn_ends : (m : Move) → MovesRunning t digest f r m (Stopped content) → IsEnding r m
    turn_ends m (inl on) = absurd (not_running content f on.0 on.2)
    turn_ends m (inr end) = move_ends m end.0

    pub run_ends : (m : Move) → StepsTo Anything t digest (Running f r) m (Stopped content) → IsEnding r m
    run_ends (moves.Resume workers stop) step = absurd (not_running content f r step)
    run_ends (moves.Pop k) step = turn_ends (moves.Pop k) step
    run_ends (moves.Take k) step = turn_ends (moves.Take k) step
    run_ends (moves.Expand k place) step = turn_ends (moves.Expand k place) step
    run_ends (moves.Commit k) step = turn_ends (moves.Commit k) step
    run_ends (moves.Redeem k) step = turn_ends (moves.Redeem k) step
    run_ends (moves.Push k) step = turn_ends (moves.Push k) step
    run_ends (moves.Offer k) step = turn_ends (moves.Offer k) step
    run_ends (moves.Load k) step = turn_ends (moves.Load k) step
    run_ends moves.Pull step = turn_ends moves.Pull step
    run_ends moves.Flush step = absurd (flush_runs f r r.group content step)
    run_ends moves.Ack step = turn_ends moves.Ack step
    run_ends (moves.Stop stop) step = tt
