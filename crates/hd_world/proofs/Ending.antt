-- Where no successor is lost and none is anywhere, all is settled.
use Rattle.std.proofs.Common.{◌≡◌, inl, inr, ℕ, zero, suc, ◌<◌, ◌≤◌, Bool, true, false, cond, Option, Some, None, List, [], ◌∷◌, length, get_or, refl, sym, ap, ◌∙◌, arith}
use Rattle.std.specs.List.{count_by}
use Rattle.std.proofs.lemmas.Bool.{cases_order, ltb-true, eq-eqb}
use Rattle.std.proofs.lemmas.List.Elements.{Contains-get_or}
use Rattle.hd_base.proofs.Tests.{count_by-append, list_any-from_contains, nat_lt-position_or_len}
use Rattle.hd_task.specs.declared.plan.Kid.{Kid}
use Rattle.hd_task.specs.declared.plan.TheConstants.{ROOT_PARENT}
use Rattle.hd_tables.specs.Kids.{root, same_kid}
use Rattle.hd_node.specs.declared.batch.Outcome.{Outcome}
use Rattle.hd_node.specs.Outcome.{kid_of}
use Rattle.hd_entries.specs.Kids.{posted_by}
use Rattle.hd_entries.specs.Settling.{BookState, IsBookKept, expansions, is_posted, is_marked, place_of}
use Rattle.hd_entries.specs.Holding.{Released, posted_count, settled_count}
use Rattle.hd_entries.specs.Answers.{is_over}
use Rattle.hd_entries.proofs.Accepting.{same_kid-refl, stands}
use Rattle.hd_entries.proofs.Naming as naming
use Rattle.hd_book.specs.declared.outgoing.Outgoing.{Outgoing}
use Rattle.hd_entries.specs.Releasing.{ParcelsView}
use Rattle.hd_world.specs.Seats.{Seat, Run}
use Rattle.hd_world.specs.Once.{total, in_parcels, in_hand, in_seat, in_ticket, in_run, weight_like, room_of, LosesNone}
use Rattle.hd_world.proofs.Sums.{one_if}
use Rattle.hd_world.proofs.Committing.{posted_apart}

-- ---- a weight that is no greater

total_most : {X : Type 0} (h g : X → ℕ) (xs : List X) → ((x : X) → h x ≤ g x) → total h xs ≤ total g xs
total_most h g [] le = omega arith
total_most h g (x ∷ xs) le = omega (arith, le x, total_most h g xs le)

module _ (h g : Kid → ℕ) (le : (k : Kid) → h k ≤ g k) where
  parcels_most : (ps : List Released) → in_parcels h ps ≤ in_parcels g ps
  parcels_most ps = total_most (λ (p : Released). h p.kid) (λ (p : Released). g p.kid) ps (λ p. le p.kid)

  hand_most : (hand : Option Released) → in_hand h hand ≤ in_hand g hand
  hand_most None = omega arith
  hand_most (Some p) = le p.kid

  seat_most : (s : Seat) → in_seat h s ≤ in_seat g s
  seat_most s =
      omega (
        arith,
        hand_most s.hand,
        parcels_most s.worker.waiting,
        total_most (λ (o : Outcome). h (kid_of o)) (λ (o : Outcome). g (kid_of o)) s.worker.outcomes (λ o. le (kid_of o)),
        parcels_most s.worker.outbox,
      )

  ticket_most : (o : Option (Outgoing ParcelsView)) → in_ticket h o ≤ in_ticket g o
  ticket_most None = omega arith
  ticket_most (Some o) = parcels_most o.released.kids

  run_most : (r : Run) → in_run h r ≤ in_run g r
  run_most r =
      omega (
        arith,
        total_most (in_seat h) (in_seat g) r.seats seat_most,
        total_most (in_parcels h) (in_parcels g) r.mailboxes parcels_most,
        total_most (in_ticket h) (in_ticket g) r.book.batches.tickets ticket_most,
      )

-- ---- marks

all_set : (marks : List Bool) → ((j : ℕ) → j < length marks → get_or marks j true ≡ true) → count_by (λ (m : Bool). m) marks ≡ length marks
all_set [] h = refl
all_set (m ∷ marks) h =
    let one : one_if m ≡ 1 = ap one_if (h zero (omega arith)) in
    let rest = all_set marks (λ j lt. h (suc j) (omega (arith, lt))) in
    let single : count_by (λ (m : Bool). m) (m ∷ []) ≡ one_if m = omega arith in
    omega (arith, count_by-append (λ (m : Bool). m) (m ∷ []) marks, single, one, rest)

only_most : (k q : Kid) → weight_like k q ≤ 1
only_most k q = elim (same_kid k q) as (λ b. one_if b ≤ 1) [ true ↦ omega arith | false ↦ omega arith ]

marked_then : (b : BookState) (k : Kid) → room_of b k ≡ 0 → is_marked b k ≡ true
marked_then b k e =
    elim (is_marked b k) as (λ m. cond {A = ℕ} m 0 1 ≡ 0 → m ≡ true) [
      | true ↦ λ _. refl
      | false ↦ λ e. absurd (omega (arith, e))
    ] e

module _ (b : BookState) (kept : IsBookKept b) where
  abbrev posted : List Kid
  posted = posted_by b.task (expansions b)

  -- a posted successor stands where it was posted
  at_place : (j : ℕ) → j < length posted → place_of b (get_or posted j root) ≡ j
  at_place j lt =
      let k = get_or posted j root in
      let is : is_posted b k ≡ true = nat_lt-position_or_len (same_kid k) posted ∙ list_any-from_contains (same_kid k) posted k (Contains-get_or posted j root lt) (same_kid-refl k) in
      let at = stands b kept k is in
      let within : place_of b k < length posted = ltb-true (place_of b k) (length posted) is in
      let apart = posted_apart b kept in
      elim (cases_order (place_of b k) j) [
        | inl same ↦ same
        | inr other ↦ elim other [
          | inl before ↦ absurd (apart (place_of b k) j root before lt at.kid)
          | inr behind ↦ absurd (apart j (place_of b k) root behind within (sym at.kid))
        ]
      ]

  as_many : length b.marks ≡ length posted
  as_many =
      let short : length (expansions b) < ROOT_PARENT = omega (arith, naming.length-plans_of b.entries (expansions b) kept.named, kept.short) in
      kept.marked.one_each ∙ sym (naming.posted_count b.task (expansions b) short)

  over_when : ((k : Kid) → room_of b k ≡ 0) → is_over b ≡ true
  over_when none =
      let full : count_by (λ (m : Bool). m) b.marks ≡ length b.marks =
      all_set b.marks (λ j lt.
      let within : j < length posted = omega (arith, lt, as_many) in
      sym (ap (λ (n : ℕ). get_or b.marks n true) (at_place j within)) ∙ marked_then b (get_or posted j root) (none (get_or posted j root)))
      in
      eq-eqb (settled_count b) (posted_count b) (full ∙ kept.marked.one_each)

-- if nothing is left to do, all is settled
pub nothing_left : (r : Run) → IsBookKept r.book.state → LosesNone r → in_run (λ (k : Kid). 1) r ≡ 0 → is_over r.book.state ≡ true
nothing_left r kept whole none =
    over_when r.book.state kept (λ k. omega (arith, whole k, none, run_most (weight_like k) (λ (q : Kid). 1) (only_most k) r))
