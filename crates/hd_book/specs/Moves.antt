-- Lists of calls, and what they make of what is known of the batches. (Our own.)
use Rattle.std.specs.Prelude.{◌≡◌, ℕ, ◌+◌, List, [], ◌∷◌, ◌++◌, ◌==◌, if◌then◌else◌}
use Rattle.std.specs.declared.ops.Range.{Range}
use Rattle.hd_book.specs.Queue.{QueueView, end_of, is_out}
use Rattle.hd_book.specs.Batches.{TicketView, Batches, is_ticket_out}
use Rattle.hd_book.specs.TicketSteps.{entered, taken, flushed, handed_back, redeemed, with_halt}

-- a call: a batch of so many entries is accepted, with what its ticket releases; a group is taken;
-- the group of these entries, from one on and below another, is acknowledged, or handed back; a
-- ticket is redeemed; no more batches are accepted
pub data Move (R : Type 0) : Type 0 where
  Enter : ℕ → R → Move R
  Take : Move R
  Acknowledge : ℕ → ℕ → Move R
  HandBack : ℕ → ℕ → Move R
  Redeem : TicketView → Move R
  Halt : Move R

-- what is known after a call; nothing changes where what it names is not out
abbrev pub after_move : {R : Type 0} → Move R → Batches R → Batches R
after_move (Enter count released) b = entered count released b
after_move Take b = taken b
after_move (Acknowledge first end) b = if is_out b.queue first end then flushed b else b
after_move (HandBack first end) b = if is_out b.queue first end then handed_back b else b
after_move (Redeem k) b = if is_ticket_out b k then redeemed k b else b
after_move Halt b = with_halt b

-- what is known after calls
abbrev pub after_moves : {R : Type 0} → List (Move R) → Batches R → Batches R
after_moves [] b = b
after_moves (m ∷ moves) b = after_moves moves (after_move m b)

-- ---- whole batches

-- where the batches end that a call accepts after so many entries; one without entries has no end
-- of its own
abbrev pub ends_at : {R : Type 0} → ℕ → Move R → List ℕ
ends_at n (Enter count released) = if count == 0 then [] else (n + count) ∷ []
ends_at n Take = []
ends_at n (Acknowledge first end) = []
ends_at n (HandBack first end) = []
ends_at n (Redeem k) = []
ends_at n Halt = []

-- where the batches end that calls accept after so many entries
abbrev pub ends_by : {R : Type 0} → ℕ → List (Move R) → List ℕ
ends_by n [] = []
ends_by n (m ∷ moves) = ends_at n m ++ ends_by (end_of n (ends_at n m)) moves

-- of batches that end here, after `from`, the first ones are acknowledged, and the others are
-- those of a queue: none is split
pub record AreCutBy (from : ℕ) (ends : List ℕ) (q : QueueView) : Type 0 where
  pub done : List ℕ
  pub all : ends ≡ done ++ q.ends
  pub acknowledged : q.acknowledged ≡ end_of from done

-- ---- groups

-- the group that a call acknowledges, if it does
abbrev pub group_acknowledged : {R : Type 0} → Batches R → Move R → List (Range ℕ)
group_acknowledged b (Enter count released) = []
group_acknowledged b Take = []
group_acknowledged b (Acknowledge first end) = if is_out b.queue first end then record { start = first; end = end } ∷ [] else []
group_acknowledged b (HandBack first end) = []
group_acknowledged b (Redeem k) = []
group_acknowledged b Halt = []

-- the groups that calls acknowledge, in order
abbrev pub groups_acknowledged : {R : Type 0} → Batches R → List (Move R) → List (Range ℕ)
groups_acknowledged b [] = []
groups_acknowledged b (m ∷ moves) = group_acknowledged b m ++ groups_acknowledged (after_move m b) moves

-- groups lead from one number of entries to another: each begins where the one before it ends
abbrev pub Lead : ℕ → List (Range ℕ) → ℕ → Type 0
Lead from [] to = from ≡ to
Lead from (g ∷ groups) to = (g.start ≡ from) × Lead g.end groups to
