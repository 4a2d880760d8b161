-- What a book keeps, after each step.
use Rattle.std.proofs.Common.{◌≡◌, ℕ, zero, suc, ◌+◌, ◌≤◌, ◌==◌, ◌||◌, Bool, true, false, cond, Some, None, Option, List, [], ◌∷◌, ◌++◌, length, set, slice_get, refl, sym, ap, ap₂, ◌∙◌, subst, arith}
use Rattle.std.specs.Prelude.{Result, Ok, Err, IfOk, OnOk, OnErr, flat_map}
use Rattle.std.specs.Option.{option_flatten}
use Rattle.std.specs.List.{AllByRecursion}
use Rattle.std.proofs.lemmas.Bool.{and_parts, eqb-true}
use Rattle.std.proofs.lemmas.List.{length-set, length-append}
use Rattle.hd_base.proofs.Lists.{AllByRecursion-push}
use Rattle.hd_node.specs.declared.batch.Outcome.{Outcome}
use Rattle.hd_node.specs.declared.batch.Outcome.TheVariants.{Expanded, Duplicate, Bounded}
use Rattle.hd_entries.specs.Settling.{BookState, entry_of}
use Rattle.hd_entries.specs.Holding.{EntriesView, released_by, settled_count}
use Rattle.hd_book.specs.declared.not_out.NotOut.{NotOut}
use Rattle.hd_book.specs.declared.outgoing.Outgoing.{Outgoing}
use Rattle.hd_book.specs.declared.redeemed.Redeemed.{Redeemed}
use Rattle.hd_book.specs.declared.redeemed.Redeemed.TheVariants.{Released, NotYet, Void}
use Rattle.hd_book.specs.Queue.{QueueView, end_of, entries_in_all, are_acknowledged, with_batch}
use Rattle.hd_book.specs.Batches.{Batches, TicketView, is_its}
use Rattle.hd_book.specs.TicketSteps.{entered, flushed, without, redeemed}
use Rattle.hd_book.specs.TicketRedeeming.{given_for, answer_for, redeemed_for}
use Rattle.hd_book.proofs.Ends.{end_of-append, end_of_parts}
use Rattle.hd_entries.specs.Releasing.{ParcelsView}
use Rattle.hd_book.specs.View.{book_of}
use Rattle.hd_book.specs.Keeping.{IsOutgoingIn, IsBookHeld}
use Rattle.hd_book.specs.Redeeming.{IsReleasedOf, IsReleasedIn}
use Rattle.hd_book.specs.Releasing.{released_in}
use Rattle.hd_book.proofs.Releasing.{Goes, all_still_out, batch_out}

-- ---- a batch more

pub few_entries : (outcomes : List Outcome) → length (flat_map entry_of outcomes) ≤ length outcomes
few_entries [] = omega arith
few_entries (Expanded e ∷ outcomes) = omega (arith, few_entries outcomes)
few_entries (Duplicate k by ∷ outcomes) = omega (arith, few_entries outcomes)
few_entries (Bounded k h ∷ outcomes) = omega (arith, few_entries outcomes)

entries_by : (q : QueueView) (count : ℕ) (v : Bool) → (count == 0) ≡ v → end_of q.acknowledged (cond v q.ends (q.ends ++ (entries_in_all q + count) ∷ [])) ≡ entries_in_all q + count
entries_by q count true e = let none : count ≡ 0 = eqb-true count 0 e in omega (arith, none)
entries_by q count false e = end_of-append q.acknowledged q.ends ((entries_in_all q + count) ∷ [])

pub entries_more : (q : QueueView) (count : ℕ) → entries_in_all (with_batch count q) ≡ entries_in_all q + count
entries_more q count = entries_by q count (count == 0) refl

pub held_again : (e d : EntriesView) (b a : Batches ParcelsView) → IsBookHeld (book_of e b) → d ≡ e → a ≡ b → IsBookHeld (book_of d a)
held_again e d b a h same batches = subst (λ x. IsBookHeld (book_of x a)) (sym same) (subst (λ x. IsBookHeld (book_of e x)) (sym batches) h)

-- a batch is accepted
pub held_entered :
    (e d : EntriesView) (b a : Batches ParcelsView) (outcomes : List Outcome) (count : ℕ) (released : ParcelsView)
    → IsBookHeld (book_of e b)
    → Goes e.state d.state outcomes
    → d.state.task ≡ e.state.task
    → length d.state.entries ≡ length e.state.entries + count
    → settled_count d.state ≡ settled_count e.state + length outcomes
    → 1 ≤ length outcomes
    → released ≡ record { task = e.state.task; kids = released_by (length e.state.entries) outcomes }
    → a ≡ entered count released b
    → IsBookHeld (book_of d a)
held_entered e d b a outcomes count released h goes task entries settled some own is =
    let out : Outgoing ParcelsView = record { first = entries_in_all b.queue; end = entries_in_all b.queue + count; released = released } in
    let counted : entries_in_all b.queue ≡ length e.state.entries = h.counted in
    let commits : length b.tickets ≤ settled_count e.state = h.commits in
    subst (λ x. IsBookHeld (book_of d x)) (sym is) (record {
      counted = omega (arith, entries_more b.queue count, counted, entries);
      released =
          AllByRecursion-push (IsOutgoingIn d.state) b.tickets (Some out) (all_still_out e.state d.state outcomes goes task b.tickets h.released)
          (batch_out e.state d.state outcomes goes task out counted (omega (arith, counted, entries)) own);
      commits = omega (arith, length-append b.tickets (Some out ∷ []), commits, settled, some);
    })

-- ---- groups

pub entries_flushed : (b : Batches ParcelsView) → entries_in_all (flushed b).queue ≡ entries_in_all b.queue
entries_flushed b = end_of_parts b.queue.acknowledged b.queue.ends b.queue.out

-- the group that was out is acknowledged
pub held_flushed : (e : EntriesView) (b : Batches ParcelsView) → IsBookHeld (book_of e b) → IsBookHeld (book_of e (flushed b))
held_flushed e b h = record { counted = entries_flushed b ∙ h.counted; released = h.released; commits = h.commits }

-- ---- a ticket less

AllByRecursion-set : {X : Type 0} (P : X → Type 0) (xs : List X) (n : ℕ) (x : X) → AllByRecursion P xs → P x → AllByRecursion P (set xs n x)
AllByRecursion-set P [] n x h p = h
AllByRecursion-set P (y ∷ xs) zero x h p = (p, h.1)
AllByRecursion-set P (y ∷ xs) (suc n) x h p = (h.0, AllByRecursion-set P xs n x h.1 p)

held_without : (e : EntriesView) (b : Batches ParcelsView) (n : ℕ) → IsBookHeld (book_of e b) → IsBookHeld (book_of e (without n b))
held_without e b n h =
    let commits : length b.tickets ≤ settled_count e.state = h.commits in
    record {
      counted = h.counted;
      released = AllByRecursion-set (IsOutgoingIn e.state) b.tickets n None h.released tt;
      commits = omega (arith, length-set b.tickets n None, commits);
    }

held_by : (e : EntriesView) (b : Batches ParcelsView) (k : TicketView) (v : Bool) → IsBookHeld (book_of e b) → IsBookHeld (book_of e (cond v (without k.number b) b))
held_by e b k true h = held_without e b k.number h
held_by e b k false h = h

pub held_spent : (e : EntriesView) (b : Batches ParcelsView) (k : TicketView) → IsBookHeld (book_of e b) → IsBookHeld (book_of e (redeemed k b))
held_spent e b k h = held_by e b k (are_acknowledged b.queue k.first k.end || b.halted) h

-- ---- a call that may be refused

pub held_if :
    {X E : Type 0} (r : Result X E) (e : EntriesView) (b m a : Batches ParcelsView)
    → IsBookHeld (book_of e b)
    → IsBookHeld (book_of e m)
    → OnOk r (a ≡ m)
    → OnErr r (a ≡ b)
    → IsBookHeld (book_of e a)
held_if (Ok x) e b m a old new ok err = subst (λ z. IsBookHeld (book_of e z)) (sym ok) new
held_if (Err x) e b m a old new ok err = subst (λ z. IsBookHeld (book_of e z)) (sym err) old

-- ---- what is redeemed is what the entries of the ticket release

out_at : (b : BookState) (tickets : List (Option (Outgoing ParcelsView))) (n : ℕ) → AllByRecursion (IsOutgoingIn b) tickets → IsOutgoingIn b (option_flatten (slice_get tickets n))
out_at b [] n h = tt
out_at b (x ∷ tickets) zero h = h.0
out_at b (x ∷ tickets) (suc n) h = out_at b tickets n h.1

given_by : (s : BookState) (b : Batches ParcelsView) (k : TicketView) (released : ParcelsView) (v w : Bool) → released ≡ released_in s.task s.entries k.first k.end
    → IsReleasedIn s k (cond v (Released (record { first = k.first; end = k.end }) released) (cond w Void (NotYet k)))
given_by s b k released true w is = is
given_by s b k released false true is = tt
given_by s b k released false false is = tt

answer_by : (s : BookState) (b : Batches ParcelsView) (k : TicketView) (o : Outgoing ParcelsView) (v : Bool) → is_its k (Some o) ≡ v
    → o.released ≡ released_in s.task s.entries o.first o.end → IfOk {E = NotOut} (cond v (Ok (given_for b k o.released)) (Err (record {}))) (IsReleasedIn s k)
answer_by s b k o true its is =
    let parts = and_parts (o.first == k.first) (o.end == k.end) its in
    let first : o.first ≡ k.first = eqb-true o.first k.first parts.0 in
    let end : o.end ≡ k.end = eqb-true o.end k.end parts.1 in
    given_by s b k o.released (are_acknowledged b.queue k.first k.end) b.halted (is ∙ ap₂ (released_in s.task s.entries) first end)
answer_by s b k o false its is = tt

answer_in : (s : BookState) (b : Batches ParcelsView) (k : TicketView) (o : Option (Outgoing ParcelsView)) → IsOutgoingIn s o → IfOk (answer_for b k o) (IsReleasedIn s k)
answer_in s b k None out = tt
answer_in s b k (Some o) out = answer_by s b k o (is_its k (Some o)) refl out.2

pub redeemed_in :
    (e : EntriesView) (b : Batches ParcelsView) (k : TicketView) (r : Result (Redeemed ParcelsView) NotOut)
    → IsBookHeld (book_of e b)
    → r ≡ redeemed_for b k
    → IfOk r (IsReleasedIn e.state k)
redeemed_in e b k r h is = subst (λ x. IfOk x (IsReleasedIn e.state k)) (sym is) (answer_in e.state b k _ (out_at e.state b.tickets k.number h.released))

-- so it is of the task
released_of : (s : BookState) (k : TicketView) (r : Redeemed ParcelsView) → IsReleasedIn s k r → IsReleasedOf s.task r
released_of s k (Released receipt parcels) is = ap (λ (p : ParcelsView). p.task) is
released_of s k (NotYet ticket) is = tt
released_of s k Void is = tt

pub redeemed_of : (s : BookState) (k : TicketView) (r : Result (Redeemed ParcelsView) NotOut) → IfOk r (IsReleasedIn s k) → IfOk r (IsReleasedOf s.task)
redeemed_of s k (Ok r) is = released_of s k r is
redeemed_of s k (Err error) is = tt
