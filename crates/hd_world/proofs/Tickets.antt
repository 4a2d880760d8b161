-- Each ticket that a worker holds is out, and each one that is out is held exactly once, over each
-- move.
use Rattle.std.proofs.Common.{◌≡◌, ◌≢◌, ℕ, zero, suc, ◌+◌, ◌<◌, ◌≤◌, ◌==◌, ◌||◌, Bool, true, false, cond, Option, Some, None, is_some, List, [], ◌∷◌, ◌++◌, set, length, slice_get, true≢false, refl, sym, ap, ◌∙◌, subst, arith}
use Rattle.std.specs.Prelude.{Result, Ok, Err}
use Rattle.std.specs.List.{AllByRecursion}
use Rattle.std.specs.Option.{option_flatten}
use Rattle.std.proofs.lemmas.Bool.{and_from, eq-eqb, eqb-true, eqb-false}
use Rattle.std.proofs.lemmas.Option.{slice_get_within}
use Rattle.hd_base.proofs.Lists.{AllByRecursion-push, AllByRecursion-slice_get}
use Rattle.hd_book.specs.declared.not_out.NotOut.{NotOut}
use Rattle.hd_book.specs.declared.outgoing.Outgoing.{Outgoing}
use Rattle.hd_book.specs.declared.redeemed.Redeemed.{Redeemed}
use Rattle.hd_book.specs.declared.redeemed.Redeemed.TheVariants as given
use Rattle.hd_book.specs.Batches.{TicketView, Batches, is_its, is_ticket_out}
use Rattle.hd_book.specs.Queue.{are_acknowledged}
use Rattle.hd_book.specs.TicketRedeeming.{given_for, answer_for, redeemed_for}
use Rattle.hd_book.specs.Slots.{ticket_at}
use Rattle.hd_book.specs.TicketSteps as steps
use Rattle.hd_entries.specs.Releasing.{ParcelsView}
use Rattle.hd_book.specs.View.{BookView}
use Rattle.hd_turns.proofs.Lists.{AllByRecursion-map, AllByRecursion-weaker, slice_get-append_front}
use Rattle.hd_world.specs.Seats.{Seat, Run}
use Rattle.hd_world.specs.Moves.{with_seat, redeemed_by, redeemed_of, ticket_redeemed}
use Rattle.hd_world.specs.Once.{total, times_in, times_held, times_out}
use Rattle.hd_world.specs.Order.{AreOut, AreTicketsOut}
use Rattle.hd_world.proofs.Lists.{AllByRecursion-set, AllByRecursion-from_map, slice_get-set_other}
use Rattle.hd_world.proofs.Sums.{total-append, total-map, total-set}
use Rattle.hd_world.proofs.Quiet.{IsQuiet, tickets_of}

-- ---- moves that change no ticket

-- some tickets are out
abbrev pub AllOut : Batches ParcelsView → List TicketView → Type 0
AllOut q held = AllByRecursion (λ (k : TicketView). is_ticket_out q k ≡ true) held

-- how often some tickets have a number
abbrev pub times_among : ℕ → List TicketView → ℕ
times_among n held = total (λ (k : TicketView). cond {A = ℕ} (k.number == n) 1 0) held

few_out : (n : ℕ) (ts : List (Option (Outgoing ParcelsView))) → times_out n ts ≤ 1
few_out n ts =
    elim (is_some (ticket_at ts n)) as (λ y. cond {A = ℕ} y 1 0 ≤ 1) [
      | true ↦ omega arith
      | false ↦ omega arith
    ]

-- so each is held once at most
held_once : (r : Run) → AreTicketsOut r → (n : ℕ) → times_held n r.seats ≤ 1
held_once r x n = omega (arith, x.held n, few_out n r.book.batches.tickets)

pub quiet_tickets : (r r' : Run) → IsQuiet r r' → AreTicketsOut r → AreTicketsOut r'
quiet_tickets r r' quiet x = record {
  out =
      subst (λ (b : BookView). AllByRecursion (AreOut b) r'.seats) (sym quiet.book)
      (AllByRecursion-from_map (AllOut r.book.batches) tickets_of r'.seats
      (subst (AllByRecursion (AllOut r.book.batches)) (sym quiet.tickets)
      (AllByRecursion-map (AreOut r.book) (AllOut r.book.batches) tickets_of (λ s y. y) r.seats x.out)));
  held = λ n.
      omega (
        arith,
        x.held n,
        total-map (times_among n) tickets_of r.seats,
        total-map (times_among n) tickets_of r'.seats,
        ap (total (times_among n)) quiet.tickets,
        ap (λ (b : BookView). times_out n b.batches.tickets) quiet.book,
      );
}

-- the same where the book's batches aside nothing else is asked for
pub tickets_by : (r r' : Run) → r'.book.batches.tickets ≡ r.book.batches.tickets → r'.seats ≡ r.seats → AreTicketsOut r → AreTicketsOut r'
tickets_by r r' same seats x = record {
  out =
      subst (AllByRecursion (AreOut r'.book)) (sym seats)
      (AllByRecursion-weaker (AreOut r.book) (AreOut r'.book)
      (λ s y. AllByRecursion-weaker (λ (k : TicketView). is_ticket_out r.book.batches k ≡ true) (λ (k : TicketView). is_ticket_out r'.book.batches k ≡ true)
      (λ k e. ap (λ (ts : List (Option (Outgoing ParcelsView))). is_its k (ticket_at ts k.number)) same ∙ e) s.tickets y)
      r.seats x.out);
  held = λ n. omega (arith, x.held n, ap (times_held n) seats, ap (times_out n) same);
}

-- one seat is replaced by one with the same tickets
pub seat_tickets : (r : Run) (x : AreTicketsOut r) (k : ℕ) (s s' : Seat) → slice_get r.seats k ≡ Some s → s'.tickets ≡ s.tickets → AreTicketsOut (with_seat k s' r)
seat_tickets r x k s s' e same = record {
  out =
      AllByRecursion-set (AreOut r.book) r.seats k s' x.out
      (subst (AllOut r.book.batches) (sym same) (AllByRecursion-slice_get (AreOut r.book) r.seats k s x.out e));
  held = λ n. omega (arith, x.held n, total-set (times_in n) r.seats k s s' e, ap (times_among n) same);
}

-- ---- a ticket more

pub newest : (ts : List (Option (Outgoing ParcelsView))) (o : Outgoing ParcelsView) → ticket_at (ts ++ Some o ∷ []) (length ts) ≡ Some o
newest [] o = refl
newest (t ∷ ts) o = newest ts o

-- the others are those that were there
others_there : (ts : List (Option (Outgoing ParcelsView))) (o : Option (Outgoing ParcelsView)) (n : ℕ) → n ≢ length ts → ticket_at (ts ++ o ∷ []) n ≡ ticket_at ts n
others_there [] o zero other = absurd (other refl)
others_there [] o (suc n) other = refl
others_there (t ∷ ts) o zero other = refl
others_there (t ∷ ts) o (suc n) other = others_there ts o n (λ same. other (ap suc same))

-- one that is spent is not there
spent_none : (ts : List (Option (Outgoing ParcelsView))) (n : ℕ) → ticket_at (set ts n None) n ≡ None
spent_none [] n = refl
spent_none (t ∷ ts) zero = refl
spent_none (t ∷ ts) (suc n) = spent_none ts n

module _ (q : Batches ParcelsView) where
  -- a ticket that is out is so if there is one more
  pub still_out : (o : Option (Outgoing ParcelsView)) (k : TicketView) → is_its k (ticket_at q.tickets k.number) ≡ true → is_its k (ticket_at (q.tickets ++ o ∷ []) k.number) ≡ true
  still_out o k e =
      elim (slice_get q.tickets k.number) as (λ slot. slice_get q.tickets k.number ≡ slot → is_its k (option_flatten slot) ≡ true → is_its k (ticket_at (q.tickets ++ o ∷ []) k.number) ≡ true) [
        | None ↦ λ _ e. absurd (true≢false (sym e))
        | Some slot ↦ λ at e. ap (λ (x : Option (Option (Outgoing ParcelsView))). is_its k (option_flatten x)) (slice_get-append_front q.tickets (o ∷ []) k.number slot at) ∙ e
      ] refl e

  -- the number of a ticket that is out
  pub out_within : (k : TicketView) → is_ticket_out q k ≡ true → k.number < length q.tickets
  out_within k e =
      elim (slice_get q.tickets k.number) as (λ slot. slice_get q.tickets k.number ≡ slot → is_its k (option_flatten slot) ≡ true → k.number < length q.tickets) [
        | None ↦ λ _ e. absurd (true≢false (sym e))
        | Some slot ↦ λ at _. slice_get_within q.tickets k.number slot at
      ] refl e

  -- no ticket that is out has a later number
  none_later : (n : ℕ) (held : List TicketView) → length q.tickets ≤ n → AllOut q held → times_among n held ≡ 0
  none_later n [] le all = refl
  none_later n (k ∷ held) le all =
      let lt = out_within k all.0 in
      elim (k.number == n) as (λ y. (k.number == n) ≡ y → cond {A = ℕ} y 1 0 + times_among n held ≡ 0) [
        | true ↦ λ e. absurd (omega (arith, lt, le, eqb-true k.number n e))
        | false ↦ λ _. omega (arith, none_later n held le all.1)
      ] refl

  none_held : (n : ℕ) (seats : List Seat) → length q.tickets ≤ n → AllByRecursion (λ (s : Seat). AllOut q s.tickets) seats → times_held n seats ≡ 0
  none_held n [] le all = refl
  none_held n (s ∷ seats) le all = omega (arith, none_later n s.tickets le all.0, none_held n seats le all.1)

  -- the ticket of a new batch
  new_out : (count : ℕ) (released : ParcelsView) → is_ticket_out (steps.entered count released q) (steps.ticket_of count q) ≡ true
  new_out count released =
      let k = steps.ticket_of count q in
      let o : Outgoing ParcelsView = record { first = k.first; end = k.end; released = released } in
      ap (is_its k) (newest q.tickets o) ∙ and_from (o.first == k.first) (o.end == k.end) (eq-eqb o.first k.first refl) (eq-eqb o.end k.end refl)

-- ---- what a ticket is redeemed for

-- a ticket is given up for this
abbrev gives_all : Redeemed ParcelsView → Bool
gives_all (given.Released receipt parcels) = true
gives_all (given.NotYet again) = false
gives_all given.Void = true

module _ (q : Batches ParcelsView) (k : TicketView) where
  abbrev is_free : Bool
  is_free = are_acknowledged q.queue k.first k.end || q.halted

  -- it is given up only where it is spent
  spends_by : (acknowledged halted : Bool) (released : ParcelsView)
      → gives_all (cond acknowledged (given.Released (record { first = k.first; end = k.end }) released) (cond halted given.Void (given.NotYet k))) ≡ true
      → (acknowledged || halted) ≡ true
  spends_by true halted released all = refl
  spends_by false true released all = refl
  spends_by false false released all = absurd (true≢false (sym all))

  spends_at : (a : Redeemed ParcelsView) (slot : Option (Outgoing ParcelsView)) → answer_for q k slot ≡ Ok a → gives_all a ≡ true → is_free ≡ true
  spends_at a None e all = absurd (cc)
  spends_at a (Some o) e all =
      elim (is_its k (Some o)) as (λ y. cond {A = Result (Redeemed ParcelsView) NotOut} y (Ok (given_for q k o.released)) (Err (record {})) ≡ Ok a → is_free ≡ true) [
        | true ↦ λ e.
            let same : given_for q k o.released ≡ a = cc in
            spends_by (are_acknowledged q.queue k.first k.end) q.halted o.released (ap gives_all same ∙ all)
        | false ↦ λ e. absurd (cc)
      ] e

  spends : (a : Redeemed ParcelsView) → redeemed_for q k ≡ Ok a → gives_all a ≡ true → is_free ≡ true
  spends a e all = spends_at a (ticket_at q.tickets k.number) e all

  -- one that is out is not refused
  refused_at : (error : NotOut) (slot : Option (Outgoing ParcelsView)) → is_its k slot ≡ true → answer_for q k slot ≡ Err error → ⊥
  refused_at error None its e = true≢false (sym its)
  refused_at error (Some o) its e =
      let given : answer_for q k (Some o) ≡ Ok (given_for q k o.released) =
      ap (λ y. cond {A = Result (Redeemed ParcelsView) NotOut} y (Ok (given_for q k o.released)) (Err (record {}))) its
      in
      cc

  never_refused : (error : NotOut) → is_ticket_out q k ≡ true → redeemed_for q k ≡ Err error → ⊥
  never_refused error its e = refused_at error (ticket_at q.tickets k.number) its e

module _ (r : Run) (x : AreTicketsOut r) where
  abbrev q : Batches ParcelsView
  q = r.book.batches

  new_once : (count : ℕ) (released : ParcelsView) → times_out (length q.tickets) (steps.entered count released q).tickets ≡ 1
  new_once count released = ap (λ (o : Option (Outgoing ParcelsView)). cond {A = ℕ} (is_some o) 1 0) (newest q.tickets _)

  -- a seat has the ticket of a new batch
  pub with_ticket :
      (k count : ℕ) (released : ParcelsView) (s : Seat) (r' : Run) (s' : Seat) → slice_get r.seats k ≡ Some s → s'.tickets ≡ s.tickets ++ steps.ticket_of count q ∷ []
      → r'.seats ≡ set r.seats k s' → r'.book.batches ≡ steps.entered count released q → AreTicketsOut r'
  with_ticket k count released s r' s' e held seats batches =
      let new = steps.ticket_of count q in
      let b' = steps.entered count released q in
      let old : AllByRecursion (λ (s : Seat). AllOut b' s.tickets) r.seats =
      AllByRecursion-weaker (AreOut r.book) (λ (s : Seat). AllOut b' s.tickets)
      (λ s y. AllByRecursion-weaker (λ (k : TicketView). is_ticket_out q k ≡ true) (λ (k : TicketView). is_ticket_out b' k ≡ true) (λ k e. still_out q _ k e) s.tickets y)
      r.seats x.out
      in
      let its : AllOut b' s.tickets = AllByRecursion-slice_get (λ (s : Seat). AllOut b' s.tickets) r.seats k s old e in
      let all : AllOut b' s'.tickets =
      subst (AllOut b') (sym held) (AllByRecursion-push (λ (k : TicketView). is_ticket_out b' k ≡ true) s.tickets new its (new_out q count released))
      in
      record {
        out =
            subst (λ (v : Batches ParcelsView). AllByRecursion (λ (s : Seat). AllOut v s.tickets) r'.seats) (sym batches)
            (subst (AllByRecursion (λ (s : Seat). AllOut b' s.tickets)) (sym seats) (AllByRecursion-set (λ (s : Seat). AllOut b' s.tickets) r.seats k s' old all));
        held = λ n.
            let more : times_among n s'.tickets ≡ times_among n s.tickets + cond {A = ℕ} (new.number == n) 1 0 =
            ap (times_among n) held ∙ omega (arith, total-append (λ (k : TicketView). cond {A = ℕ} (k.number == n) 1 0) s.tickets (new ∷ []))
            in
            let count_is : times_held n r'.seats ≡ times_held n r.seats + cond {A = ℕ} (new.number == n) 1 0 =
            omega (arith, ap (times_held n) seats, total-set (times_in n) r.seats k s s' e, more)
            in
            let out : times_out n r'.book.batches.tickets ≡ times_out n b'.tickets = ap (λ (v : Batches ParcelsView). times_out n v.tickets) batches in
            elim (new.number == n) as (λ y. (new.number == n) ≡ y → times_held n r'.seats ≡ times_held n r.seats + cond {A = ℕ} y 1 0 → times_held n r'.seats ≡ times_out n r'.book.batches.tickets) [
              | true ↦ λ is c.
                  let same : new.number ≡ n = eqb-true new.number n is in
                  let le : length q.tickets ≤ n = omega (arith, same) in
                  let one : times_out n b'.tickets ≡ 1 = subst (λ (m : ℕ). times_out m b'.tickets ≡ 1) same (new_once count released) in
                  omega (arith, c, none_held q n r.seats le x.out, out, one)
              | false ↦ λ is c.
                  let other : n ≢ length q.tickets = λ same. eqb-false new.number n is (sym same) in
                  let still : times_out n b'.tickets ≡ times_out n q.tickets =
                  ap (λ (o : Option (Outgoing ParcelsView)). cond {A = ℕ} (is_some o) 1 0) (others_there q.tickets _ n other)
                  in
                  omega (arith, c, x.held n, out, still)
            ] refl count_is;
      }

  -- ---- a ticket less

  module _ (k : ℕ) (s : Seat) (ticket : TicketView) (rest : List TicketView) (e : slice_get r.seats k ≡ Some s) (held : s.tickets ≡ ticket ∷ rest) (s' : Seat) (left : s'.tickets ≡ rest) where
    abbrev seats' : List Seat
    seats' = set r.seats k s'

    fewer : (n : ℕ) → times_held n seats' + cond {A = ℕ} (ticket.number == n) 1 0 ≡ times_held n r.seats
    fewer n = omega (arith, total-set (times_in n) r.seats k s s' e, ap (times_among n) held, ap (times_among n) left)

    pub left_out : AllByRecursion (AreOut r.book) seats'
    left_out =
        let its : AllOut q (ticket ∷ rest) = subst (AllOut q) held (AllByRecursion-slice_get (AreOut r.book) r.seats k s x.out e) in
        AllByRecursion-set (AreOut r.book) r.seats k s' x.out (subst (AllOut q) (sym left) its.1)

    pub gone : times_held ticket.number seats' ≡ 0
    gone =
        let one : cond {A = ℕ} (ticket.number == ticket.number) 1 0 ≡ 1 = ap (λ (b : Bool). cond {A = ℕ} b 1 0) (eq-eqb ticket.number ticket.number refl) in
        omega (arith, fewer ticket.number, one, held_once r x ticket.number)

    -- the others are still out where this one is spent
    other_out : (j : TicketView) → (j.number == ticket.number) ≡ false → is_ticket_out q j ≡ true → is_ticket_out (steps.without ticket.number q) j ≡ true
    other_out j other out =
        ap (λ (o : Option (Option (Outgoing ParcelsView))). is_its j (option_flatten o)) (slice_get-set_other q.tickets ticket.number None j.number (eqb-false j.number ticket.number other)) ∙ out

    others_out : (js : List TicketView) → times_among ticket.number js ≡ 0 → AllOut q js → AllOut (steps.without ticket.number q) js
    others_out [] none all = tt
    others_out (j ∷ js) none all =
        elim (j.number == ticket.number) as (λ y. (j.number == ticket.number) ≡ y → cond {A = ℕ} y 1 0 + times_among ticket.number js ≡ 0 → AllOut (steps.without ticket.number q) (j ∷ js)) [
          | true ↦ λ _ none. absurd (omega (arith, none))
          | false ↦ λ other none. (other_out j other all.0, others_out js (omega (arith, none)) all.1)
        ] refl none

    all_others : (seats : List Seat) → times_held ticket.number seats ≡ 0 → AllByRecursion (AreOut r.book) seats → AllByRecursion (λ (s : Seat). AllOut (steps.without ticket.number q) s.tickets) seats
    all_others [] none all = tt
    all_others (s ∷ seats) none all = (others_out s.tickets (omega (arith, none)) all.0, all_others seats (omega (arith, none)) all.1)

    -- the ticket is out no more, and held no more
    left_held : (n : ℕ) → times_held n seats' ≡ times_out n (set q.tickets ticket.number None)
    left_held n =
        elim (ticket.number == n) as (λ y. (ticket.number == n) ≡ y → times_held n seats' ≡ times_out n (set q.tickets ticket.number None)) [
          | true ↦ λ is.
              let same : ticket.number ≡ n = eqb-true ticket.number n is in
              let none : times_out ticket.number (set q.tickets ticket.number None) ≡ 0 =
              ap (λ (o : Option (Outgoing ParcelsView)). cond {A = ℕ} (is_some o) 1 0) (spent_none q.tickets ticket.number)
              in
              subst (λ (m : ℕ). times_held m seats' ≡ times_out m (set q.tickets ticket.number None)) same (omega (arith, gone, none))
          | false ↦ λ is.
              let still : times_out n (set q.tickets ticket.number None) ≡ times_out n q.tickets =
              ap (λ (o : Option (Option (Outgoing ParcelsView))). cond {A = ℕ} (is_some (option_flatten o)) 1 0)
              (slice_get-set_other q.tickets ticket.number None n (λ same. eqb-false ticket.number n is (sym same)))
              in
              omega (arith, fewer n, x.held n, still, ap (λ (b : Bool). cond {A = ℕ} b 1 0) is)
        ] refl

    pub without_ticket : (r' : Run) → r'.seats ≡ seats' → r'.book.batches ≡ steps.without ticket.number q → AreTicketsOut r'
    without_ticket r' seats batches = record {
      out =
          subst (λ (v : Batches ParcelsView). AllByRecursion (λ (s : Seat). AllOut v s.tickets) r'.seats) (sym batches)
          (subst (AllByRecursion (λ (s : Seat). AllOut (steps.without ticket.number q) s.tickets)) (sym seats) (all_others seats' gone left_out));
      held = λ n.
          omega (arith, left_held n, ap (times_held n) seats, ap (λ (v : Batches ParcelsView). times_out n v.tickets) batches);
    }

    ticket_out : is_ticket_out q ticket ≡ true
    ticket_out = (subst (AllOut q) held (AllByRecursion-slice_get (AreOut r.book) r.seats k s x.out e)).0

    spent_by : (r' : Run) (a : Redeemed ParcelsView) → redeemed_for q ticket ≡ Ok a → (gives_all a ≡ true) → r'.seats ≡ seats'
        → r'.book.batches ≡ steps.redeemed ticket q → AreTicketsOut r'
    spent_by r' a is all seats batches =
        without_ticket r' seats
        (batches ∙ ap (λ (y : Bool). cond y (steps.without ticket.number q) q) (spends q ticket a is all))

  redeem_by : (k : ℕ) (s : Seat) (ticket : TicketView) (rest : List TicketView) (a : Result (Redeemed ParcelsView) NotOut)
      → slice_get r.seats k ≡ Some s → s.tickets ≡ ticket ∷ rest → redeemed_for q ticket ≡ a → AreTicketsOut (redeemed_by k r s ticket rest a)
  redeem_by k s ticket rest (Ok (given.Released receipt parcels)) e held is =
      spent_by k s ticket rest e held _ refl (redeemed_by k r s ticket rest (Ok (given.Released receipt parcels))) (given.Released receipt parcels) is refl refl refl
  redeem_by k s ticket rest (Ok (given.NotYet again)) e held is = x
  redeem_by k s ticket rest (Ok given.Void) e held is =
      spent_by k s ticket rest e held _ refl (redeemed_by k r s ticket rest (Ok given.Void)) given.Void is refl refl refl
  redeem_by k s ticket rest (Err error) e held is =
      absurd (never_refused q ticket error (ticket_out k s ticket rest e held (record s { tickets = rest }) refl) is)

  redeem_of : (k : ℕ) (s : Seat) (tickets : List TicketView) → slice_get r.seats k ≡ Some s → s.tickets ≡ tickets → AreTicketsOut (redeemed_of k r s tickets)
  redeem_of k s [] e held = x
  redeem_of k s (ticket ∷ rest) e held = redeem_by k s ticket rest (redeemed_for q ticket) e held refl

  pub redeem_tickets : (k : ℕ) (os : Option Seat) → slice_get r.seats k ≡ os → AreTicketsOut (ticket_redeemed k r os)
  redeem_tickets k None e = x
  redeem_tickets k (Some s) e = redeem_of k s s.tickets e refl
