-- What each move makes of the search of a run.
use Rattle.std.proofs.Common.{◌≡◌, ℕ, ◌+◌, ◌==◌, nat_lt, ◌&&◌, ◌||◌, Bool, true, false, cond, Option, Some, None, List, [], ◌∷◌, ◌++◌, map, drop, length, slice_get, refl, sym, ap, ap₂, ◌∙◌, subst, arith, append_assoc, append-nil}
use Rattle.std.specs.Prelude.{flat_map, option_and_then, Result, Ok, Err}
use Rattle.std.specs.List.{fold}
use Rattle.std.proofs.lemmas.Bool.{and_parts, eqb-true}
use Rattle.std.proofs.lemmas.Option.{none-some, same_Some}
use Rattle.std.proofs.lemmas.List.Sums.{fold-append}
use Rattle.hd_task.specs.declared.task.Task.{Task}
use Rattle.hd_task.specs.declared.plan.Kid.{Kid}
use Rattle.hd_task.specs.Expansions.{IsLegal}
use Rattle.hd_task.specs.Entries.{plan_of, plans_of, with_entry}
use Rattle.hd_entries.specs.Settling.{BookState, IsBookKept, expansions, entry_of}
use Rattle.hd_entries.proofs.Accepting.{all_entries}
use Rattle.hd_entries.proofs.Naming as naming
use Rattle.hd_entries.proofs.Entering.{plan_of-grows}
use Rattle.hd_book.specs.declared.not_out.NotOut.{NotOut}
use Rattle.hd_book.specs.declared.redeemed.Redeemed.{Redeemed}
use Rattle.hd_book.specs.declared.redeemed.Redeemed.TheVariants as given
use Rattle.hd_book.specs.Batches.{TicketView, Batches}
use Rattle.hd_book.specs.Queue.{QueueView, are_acknowledged, group_end, is_out}
use Rattle.hd_book.specs.TicketRedeeming.{redeemed_for}
use Rattle.hd_book.specs.TicketSteps as steps
use Rattle.hd_journal.specs.Group.{GroupView}
use Rattle.hd_book.specs.declared.refusal.CommitRefusal.{CommitRefusal}
use Rattle.hd_entries.specs.Releasing.{ParcelsView}
use Rattle.hd_book.specs.View.{BookView}
use Rattle.hd_book.specs.Groups.{next_group, begins_with, is_group_out}
use Rattle.hd_book.specs.Refusing.{commit_refusal_to}
use Rattle.hd_book.specs.Steps.{after_flush}
use Rattle.hd_turns.specs.Calls.{batch_of}
use Rattle.hd_world.specs.declared.moves.Move.{Move}
use Rattle.hd_world.specs.declared.moves.Move.TheVariants as moves
use Rattle.hd_world.specs.Seats.{Seat, Run}
use Rattle.hd_world.specs.Moves.{popped, hand_taken, redeemed_by, redeemed_of, ticket_redeemed, pushed, offered, loaded, pulled_to, acked_of, may_commit, with_commit, with_drop, is_dropped, committed_by, committed, TurnsTo}
use Rattle.hd_world.specs.Stops.{File}
use Rattle.hd_world.specs.Search.{Search, Acknowledges, search_of}
use Rattle.hd_world.specs.Truth.{IsTrueRun}
use Rattle.hd_world.specs.Sound.{IsSound}
use Rattle.hd_world.specs.Headline.{IsAccepted, IfCommits, IsAcked, IfAcked, MovesSearch}
use Rattle.hd_world.proofs.Quiet.{pop_quiet, take_quiet, expand_quiet, push_quiet, offer_quiet, load_quiet}
use Rattle.hd_world.proofs.Ordering.{end_above, end_within}
use Rattle.hd_world.proofs.Sounding.{turns_sound, flushed_out}

-- ---- the plans of entries

none_named : (ks : List Kid) → fold with_entry None ks ≡ None
none_named [] = refl
none_named (k ∷ ks) = none_named ks

-- further entries name further plans
pub record IsNamedFrom (before : List (List ℕ)) (ks : List Kid) (all : List (List ℕ)) : Type 0 where
  pub more : List (List ℕ)
  pub longer : all ≡ before ++ more
  pub plans : map (plan_of all) ks ≡ map Some more

named_from : (before : List (List ℕ)) (ks : List Kid) (all : List (List ℕ)) → fold with_entry (Some before) ks ≡ Some all → IsNamedFrom before ks all
named_from before [] all e = record { more = []; longer = sym (same_Some before all e) ∙ sym (append-nil before); plans = refl }
named_from before (k ∷ ks) all e =
    elim (plan_of before k) as (λ o. plan_of before k ≡ o → fold with_entry (option_and_then (λ (p : List ℕ). Some (before ++ p ∷ [])) o) ks ≡ Some all → IsNamedFrom before (k ∷ ks) all) [
      | None ↦ λ _ e. absurd (none-some all (sym (none_named ks) ∙ e))
      | Some p ↦ λ is e.
          let rest = named_from (before ++ p ∷ []) ks all e in
          let longer : all ≡ before ++ p ∷ rest.more = rest.longer ∙ append_assoc before (p ∷ []) rest.more in
          let plan : plan_of all k ≡ Some p = ap (λ (xs : List (List ℕ)). plan_of xs k) longer ∙ plan_of-grows before (p ∷ rest.more) k p is in
          record { more = p ∷ rest.more; longer = longer; plans = ap₂ (λ (o : Option (List ℕ)) (os : List (Option (List ℕ))). o ∷ os) plan rest.plans }
    ] refl e

-- two kept books, of which the second has further entries
further : (b b' : BookState) (new : List Kid) → IsBookKept b → IsBookKept b' → b'.entries ≡ b.entries ++ new → IsNamedFrom (expansions b) new (expansions b')
further b b' new kept kept' e =
    named_from (expansions b) new (expansions b')
    (sym (ap (λ (o : Option (List (List ℕ))). fold with_entry o new) kept.named)
    ∙ (sym (fold-append with_entry (Some []) b.entries new) ∙ (ap plans_of (sym e) ∙ kept'.named)))

-- ---- moves

-- the search of a run is that of its book
search_same : (r r' : Run) → r'.book ≡ r.book → search_of r' ≡ search_of r
search_same r r' e = ap (λ (b : BookView). let s : Search = record { expanded = expansions b.state; acknowledged = b.batches.queue.acknowledged } in s) e

module _ (t : Task) (f : File) (r : Run) (x : IsSound t f r) where
  accepted : (k : ℕ) (s : Seat) → slice_get r.seats k ≡ Some s → IsTrueRun t (with_commit k (batch_of s.worker) s r) → IsAccepted t r k (with_commit k (batch_of s.worker) s r)
  accepted k s e y =
      let r' = with_commit k (batch_of s.worker) s r in
      let new = flat_map entry_of (batch_of s.worker) in
      let entries : r'.book.state.entries ≡ r.book.state.entries ++ new = all_entries (batch_of s.worker) r.book.state in
      let n = further r.book.state r'.book.state new x.truth.kept y.kept entries in
      record {
        seat = s;
        there = e;
        entries = entries;
        more = n.more;
        plans = n.plans;
        extends = record { longer = n.longer; legal = subst (λ u. IsLegal u (expansions r'.book.state)) y.of_task y.kept.marked.legal; same = refl };
      }

  -- where the batch is not refused
  commit_taken : (k : ℕ) (s : Seat) (r' : Run) → slice_get r.seats k ≡ Some s → IsTrueRun t r' → committed k r (Some s) ≡ Some r'
      → may_commit s ≡ true → commit_refusal_to r.book (batch_of s.worker) ≡ None → IsAccepted t r k r'
  commit_taken k s r' e y m may free =
      let is : committed k r (Some s) ≡ committed_by k r s None =
      ap (λ v. cond {A = Option Run} v (committed_by k r s (commit_refusal_to r.book (batch_of s.worker))) (Some r)) may ∙ ap (committed_by k r s) free
      in
      let same = same_Some (with_commit k (batch_of s.worker) s r) r' (sym is ∙ m) in
      subst (IsAccepted t r k) same (accepted k s e (subst (IsTrueRun t) (sym same) y))

  -- where none is committed
  commit_none : (r' : Run) → Some r ≡ Some r' → search_of r' ≡ search_of r
  commit_none r' m = search_same r r' (ap (λ (w : Run). w.book) (sym (same_Some r r' m)))

  -- where it is
  commit_by : (k : ℕ) (s : Seat) (c : CommitRefusal) (r' : Run) → committed_by k r s (Some c) ≡ Some r' → search_of r' ≡ search_of r
  commit_by k s c r' m =
      elim (is_dropped c) as (λ v. cond {A = Option Run} v (Some (with_drop k s r)) None ≡ Some r' → search_of r' ≡ search_of r) [
        | true ↦ λ m. search_same r r' (ap (λ (w : Run). w.book) (sym (same_Some (with_drop k s r) r' m)))
        | false ↦ λ m. absurd (none-some r' m)
      ] m

  commit_refused : (k : ℕ) (s : Seat) (r' : Run) → committed k r (Some s) ≡ Some r' → (c : CommitRefusal) → commit_refusal_to r.book (batch_of s.worker) ≡ Some c → search_of r' ≡ search_of r
  commit_refused k s r' m c is =
      elim (may_commit s) as (λ v. cond {A = Option Run} v (committed_by k r s (commit_refusal_to r.book (batch_of s.worker))) (Some r) ≡ Some r' → search_of r' ≡ search_of r) [
        | true ↦ λ m. commit_by k s c r' (sym (ap (committed_by k r s) is) ∙ m)
        | false ↦ λ m. commit_none r' m
      ] m

  commit_idle : (k : ℕ) (s : Seat) (r' : Run) → committed k r (Some s) ≡ Some r' → may_commit s ≡ false → search_of r' ≡ search_of r
  commit_idle k s r' m may =
      commit_none r' (sym (ap (λ v. cond {A = Option Run} v (committed_by k r s (commit_refusal_to r.book (batch_of s.worker))) (Some r)) may) ∙ m)

  commit_of : (k : ℕ) (os : Option Seat) (r' : Run) → slice_get r.seats k ≡ os → IsTrueRun t r' → committed k r os ≡ Some r' → IfCommits t r k os r'
  commit_of k None r' e y m = commit_none r' m
  commit_of k (Some s) r' e y m = record {
    accepted = λ may free. commit_taken k s r' e y m may free;
    refused = λ c is. commit_refused k s r' m c is;
    idle = λ may. commit_idle k s r' m may;
  }

  -- a redemption leaves the entries and what is acknowledged
  spent_same : (n : ℕ) (free : Bool) → (cond {A = Batches ParcelsView} free (steps.without n r.book.batches) r.book.batches).queue ≡ r.book.batches.queue
  spent_same n true = refl
  spent_same n false = refl

  spent_search : (n : ℕ) (free : Bool) (r' : Run) → r'.book.state ≡ r.book.state → r'.book.batches ≡ cond free (steps.without n r.book.batches) r.book.batches → search_of r' ≡ search_of r
  spent_search n free r' state batches =
      ap₂ (λ (b : BookState) (q : QueueView). let s : Search = record { expanded = expansions b; acknowledged = q.acknowledged } in s) state
      (ap (λ (v : Batches ParcelsView). v.queue) batches ∙ spent_same n free)

  redeem_by : (k : ℕ) (s : Seat) (ticket : TicketView) (rest : List TicketView) (a : Result (Redeemed ParcelsView) NotOut) → search_of (redeemed_by k r s ticket rest a) ≡ search_of r
  redeem_by k s ticket rest (Ok (given.Released receipt parcels)) =
      spent_search ticket.number (are_acknowledged r.book.batches.queue ticket.first ticket.end || r.book.batches.halted) (redeemed_by k r s ticket rest (Ok (given.Released receipt parcels))) refl refl
  redeem_by k s ticket rest (Ok (given.NotYet again)) = refl
  redeem_by k s ticket rest (Ok given.Void) =
      spent_search ticket.number (are_acknowledged r.book.batches.queue ticket.first ticket.end || r.book.batches.halted) (redeemed_by k r s ticket rest (Ok given.Void)) refl refl
  redeem_by k s ticket rest (Err error) = refl

  redeem_of : (k : ℕ) (s : Seat) (held : List TicketView) → search_of (redeemed_of k r s held) ≡ search_of r
  redeem_of k s [] = refl
  redeem_of k s (ticket ∷ rest) = redeem_by k s ticket rest (redeemed_for r.book.batches ticket)

  redeem_search : (k : ℕ) (os : Option Seat) → search_of (ticket_redeemed k r os) ≡ search_of r
  redeem_search k None = refl
  redeem_search k (Some s) = redeem_of k s s.tickets

  pull_search : (g : Option GroupView) → search_of (pulled_to r g) ≡ search_of r
  pull_search None = refl
  pull_search (Some g) = refl

  -- the group that is out is acknowledged
  flush_acknowledges : Acknowledges (search_of r) (search_of (record r { book = after_flush r.book; flushed = None }))
  flush_acknowledges =
      let entries = r.book.state.entries in
      let q = r.book.batches.queue in
      record {
        same = refl;
        no_fewer = end_above f entries r.book.most q r.book.batches.halted r.group r.flushed x.order;
        among =
            omega (
              arith,
              end_within f entries r.book.most q r.book.batches.halted r.group r.flushed x.order,
              naming.length-plans_of entries (expansions r.book.state) x.truth.kept.named,
            );
      }

  -- it is the one that was appended
  ends_there : (g : GroupView) → is_group_out r.book g ≡ true → group_end r.book.batches.queue ≡ g.first + length g.kids
  ends_there g out =
      let q = r.book.batches.queue in
      let end = g.first + length g.kids in
      let parts = and_parts (begins_with g.kids (drop g.first r.book.state.entries)) (is_out q g.first end) out in
      sym (eqb-true end (group_end q) (and_parts (nat_lt 0 q.out && (g.first == q.acknowledged)) (end == group_end q) parts.1).1)

  ack_search : (g : Option GroupView) → r.flushed ≡ g → IfAcked r g (acked_of r g)
  ack_search None e = refl
  ack_search (Some g) e =
      let out = flushed_out t f r x g e in
      subst (λ (y : Bool). IsAcked (search_of r) g (search_of (cond y (record r { book = after_flush r.book; flushed = None }) (record r { flushed = None })))) (sym out)
      (record { more = flush_acknowledges; all = ends_there g out })

  pub turns_search : (m : Move) (r' : Run) → TurnsTo t r m r' → MovesSearch t r m r'
  turns_search (moves.Resume workers stop) r' m = ap search_of m
  turns_search (moves.Pop k) r' m =
      let os = slice_get r.seats k in
      let box = slice_get r.mailboxes k in
      ap search_of m ∙ search_same r (popped k r os box) (pop_quiet r k os box refl).book
  turns_search (moves.Take k) r' m = let os = slice_get r.seats k in ap search_of m ∙ search_same r (hand_taken k r os) (take_quiet r k os refl).book
  turns_search (moves.Expand k place) r' m = search_same r r' (expand_quiet r t k place (slice_get r.seats k) r' refl m).book
  turns_search (moves.Commit k) r' m = commit_of k (slice_get r.seats k) r' refl (turns_sound t f r x (moves.Commit k) r' m).truth m
  turns_search (moves.Redeem k) r' m = ap search_of m ∙ redeem_search k (slice_get r.seats k)
  turns_search (moves.Push k) r' m = let os = slice_get r.seats k in ap search_of m ∙ search_same r (pushed k r os) (push_quiet r k os refl).book
  turns_search (moves.Offer k) r' m = let os = slice_get r.seats k in ap search_of m ∙ search_same r (offered r os) (offer_quiet r os).book
  turns_search (moves.Load k) r' m = let os = slice_get r.seats k in ap search_of m ∙ search_same r (loaded k r os) (load_quiet r k os refl).book
  turns_search moves.Pull r' m = ap search_of m ∙ pull_search (next_group r.book)
  turns_search moves.Flush r' m = ap search_of m
  turns_search moves.Ack r' m = subst (IfAcked r r.flushed) (sym m) (ack_search r.flushed refl)
  turns_search (moves.Stop stop) r' m = ap search_of m
