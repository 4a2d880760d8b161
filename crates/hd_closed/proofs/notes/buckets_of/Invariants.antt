use Rattle.std.proofs.Common.{◌≡◌, ℕ, ◌-◌, ◌≤◌, None, length}
use Rattle.hd_closed.specs.Notes.{bucket_head}
use Rattle.hd_closed.proofs.notes.buckets_of.Given as goal

abbrev pub invariant-loop-buckets : goal.invariant-loop-buckets
invariant-loop-buckets l = record { few : length l.buckets.items ≤ l.count; empty : (b : ℕ) → bucket_head l.buckets.items b ≡ None }

abbrev pub decreases-loop-buckets : goal.decreases-loop-buckets
decreases-loop-buckets l = l.count - length l.buckets.items
