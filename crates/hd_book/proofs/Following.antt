-- Lists of calls.
use Rattle.std.proofs.Common.{◌≡◌, ℕ, zero, suc, ◌+◌, ◌<◌, ◌==◌, ◌&&◌, ◌||◌, Bool, true, false, not, cond, Option, Some, None, List, [], ◌∷◌, ◌++◌, length, take, drop, set, slice_get, refl, sym, ap, ◌∙◌, subst, true≢false, arith, append_assoc}
use Rattle.std.proofs.lemmas.List.{take-append-drop, append-nil}
use Rattle.std.specs.Prelude.{nat_lt}
use Rattle.std.specs.Option.{option_flatten}
use Rattle.std.proofs.lemmas.Bool.{and_parts, eqb-true}
use Rattle.std.specs.declared.ops.Range.{Range}
use Rattle.hd_book.specs.declared.outgoing.Outgoing.{Outgoing}
use Rattle.hd_book.specs.Queue.{QueueView, end_of, entries_in_all, group_end, is_out, are_acknowledged, with_batch}
use Rattle.hd_book.specs.Slots.{ticket_at}
use Rattle.hd_book.specs.Batches.{TicketView, Batches, is_its, is_ticket_out}
use Rattle.hd_book.specs.TicketSteps.{entered, taken, flushed, handed_back, redeemed, without, with_halt}
use Rattle.hd_book.specs.Moves.{Move, Enter, Take, Acknowledge, HandBack, Redeem, Halt, after_move, after_moves, ends_at, ends_by, group_acknowledged, groups_acknowledged, AreCutBy, Lead}
use Rattle.hd_book.proofs.Ends.{end_of-append, end_of_parts}

-- ---- whole batches

pub Lead-append : (gs hs : List (Range ℕ)) (from via to : ℕ) → Lead from gs via → Lead via hs to → Lead from (gs ++ hs) to
Lead-append [] hs from via to p q = subst (λ (n : ℕ). Lead n hs to) (sym p) q
Lead-append (g ∷ gs) hs from via to p q = (p.0, Lead-append gs hs g.end via to p.1 q)

-- cut twice
cut_again : (from : ℕ) (ends later : List ℕ) (p q : QueueView) → AreCutBy from ends p → AreCutBy p.acknowledged (p.ends ++ later) q → AreCutBy from (ends ++ later) q
cut_again from ends later p q h k = record {
  done = h.done ++ k.done;
  all =
      ap (λ (xs : List ℕ). xs ++ later) h.all
      ∙ (append_assoc h.done p.ends later
      ∙ (ap (λ (xs : List ℕ). h.done ++ xs) k.all ∙ sym (append_assoc h.done k.done q.ends)));
  acknowledged =
      k.acknowledged
      ∙ (ap (λ (n : ℕ). end_of n k.done) h.acknowledged ∙ sym (end_of-append from h.done k.done));
}

-- how many entries there are, by what is cut
entries_cut : (from : ℕ) (ends : List ℕ) (q : QueueView) → AreCutBy from ends q → entries_in_all q ≡ end_of from ends
entries_cut from ends q h =
    ap (λ (n : ℕ). end_of n q.ends) h.acknowledged
    ∙ (sym (end_of-append from h.done q.ends) ∙ ap (end_of from) (sym h.all))

module _ {R : Type 0} where
  -- one call
  step_cuts : (b : Batches R) (m : Move R) → AreCutBy b.queue.acknowledged (b.queue.ends ++ ends_at (entries_in_all b.queue) m) (after_move m b).queue
  step_cuts b (Enter count released) = elim (count == 0) as (λ (v : Bool). AreCutBy b.queue.acknowledged (b.queue.ends ++ (cond v [] ((entries_in_all b.queue + count) ∷ []))) (record b.queue { ends = cond v b.queue.ends (b.queue.ends ++ (entries_in_all b.queue + count) ∷ []) })) [
    | true ↦ record { done = []; all = append-nil b.queue.ends; acknowledged = refl }
    | false ↦ record { done = []; all = refl; acknowledged = refl }
  ]
  step_cuts b Take = record { done = []; all = append-nil b.queue.ends; acknowledged = refl }
  step_cuts b (Acknowledge first end) = elim (is_out b.queue first end) as (λ (v : Bool). AreCutBy b.queue.acknowledged (b.queue.ends ++ []) (cond v (flushed b) b).queue) [
    | true ↦ record { done = take b.queue.out b.queue.ends; all = append-nil b.queue.ends ∙ sym (take-append-drop b.queue.out b.queue.ends); acknowledged = refl }
    | false ↦ record { done = []; all = append-nil b.queue.ends; acknowledged = refl }
  ]
  step_cuts b (HandBack first end) = elim (is_out b.queue first end) as (λ (v : Bool). AreCutBy b.queue.acknowledged (b.queue.ends ++ []) (cond v (handed_back b) b).queue) [
    | true ↦ record { done = []; all = append-nil b.queue.ends; acknowledged = refl }
    | false ↦ record { done = []; all = append-nil b.queue.ends; acknowledged = refl }
  ]
  step_cuts b (Redeem k) = elim (is_ticket_out b k) as (λ (v : Bool). AreCutBy b.queue.acknowledged (b.queue.ends ++ []) (cond v (redeemed k b) b).queue) [
    | true ↦ elim (are_acknowledged b.queue k.first k.end || b.halted) as (λ (v : Bool). AreCutBy b.queue.acknowledged (b.queue.ends ++ []) (cond v (without k.number b) b).queue) [
      | true ↦ record { done = []; all = append-nil b.queue.ends; acknowledged = refl }
      | false ↦ record { done = []; all = append-nil b.queue.ends; acknowledged = refl }
    ]
    | false ↦ record { done = []; all = append-nil b.queue.ends; acknowledged = refl }
  ]
  step_cuts b Halt = record { done = []; all = append-nil b.queue.ends; acknowledged = refl }

  pub moves_cut : (b : Batches R) (moves : List (Move R)) → AreCutBy b.queue.acknowledged (b.queue.ends ++ ends_by (entries_in_all b.queue) moves) (after_moves moves b).queue
  moves_cut b [] = record { done = []; all = append-nil b.queue.ends; acknowledged = refl }
  moves_cut b (m ∷ moves) =
      let q = b.queue in
      let new = ends_at (entries_in_all q) m in
      let one = step_cuts b m in
      let entries : entries_in_all (after_move m b).queue ≡ end_of (entries_in_all q) new = entries_cut q.acknowledged (q.ends ++ new) (after_move m b).queue one ∙ end_of-append q.acknowledged q.ends new in
      let rest : AreCutBy (after_move m b).queue.acknowledged ((after_move m b).queue.ends ++ ends_by (end_of (entries_in_all q) new) moves) (after_moves moves (after_move m b)).queue =
      subst (λ (n : ℕ). AreCutBy (after_move m b).queue.acknowledged ((after_move m b).queue.ends ++ ends_by n moves) (after_moves moves (after_move m b)).queue) entries (moves_cut (after_move m b) moves)
      in
      subst (λ (ends : List ℕ). AreCutBy q.acknowledged ends (after_moves moves (after_move m b)).queue) (append_assoc q.ends new (ends_by (end_of (entries_in_all q) new) moves)) (cut_again q.acknowledged (q.ends ++ new) (ends_by (end_of (entries_in_all q) new) moves) (after_move m b).queue (after_moves moves (after_move m b)).queue one rest)

  -- ---- groups

  -- one call
  step_leads : (b : Batches R) (m : Move R) → Lead b.queue.acknowledged (group_acknowledged b m) (after_move m b).queue.acknowledged
  step_leads b (Enter count released) = refl
  step_leads b Take = refl
  step_leads b (Acknowledge first end) = elim (is_out b.queue first end) as (λ (v : Bool). is_out b.queue first end ≡ v → Lead b.queue.acknowledged (cond v (record { start = first; end = end } ∷ []) []) (cond v (flushed b) b).queue.acknowledged) [
    | true ↦ λ out.
        let parts = and_parts (nat_lt 0 b.queue.out && (first == b.queue.acknowledged)) (end == group_end b.queue) out in
        let both = and_parts (nat_lt 0 b.queue.out) (first == b.queue.acknowledged) parts.0 in
        (eqb-true first b.queue.acknowledged both.1, eqb-true end (group_end b.queue) parts.1)
    | false ↦ λ out. refl
  ] refl
  step_leads b (HandBack first end) = elim (is_out b.queue first end) as (λ (v : Bool). b.queue.acknowledged ≡ (cond v (handed_back b) b).queue.acknowledged) [ true ↦ refl | false ↦ refl ]
  step_leads b (Redeem k) = elim (is_ticket_out b k) as (λ (v : Bool). b.queue.acknowledged ≡ (cond v (redeemed k b) b).queue.acknowledged) [
    | true ↦ elim (are_acknowledged b.queue k.first k.end || b.halted) as (λ (v : Bool). b.queue.acknowledged ≡ (cond v (without k.number b) b).queue.acknowledged) [ true ↦ refl | false ↦ refl ]
    | false ↦ refl
  ]
  step_leads b Halt = refl

  pub moves_lead : (b : Batches R) (moves : List (Move R)) → Lead b.queue.acknowledged (groups_acknowledged b moves) (after_moves moves b).queue.acknowledged
  moves_lead b [] = refl
  moves_lead b (m ∷ moves) = Lead-append (group_acknowledged b m) (groups_acknowledged (after_move m b) moves) b.queue.acknowledged (after_move m b).queue.acknowledged (after_moves moves (after_move m b)).queue.acknowledged (step_leads b m) (moves_lead (after_move m b) moves)

  -- ---- tickets

  slice_get_before : (xs ys : List (Option (Outgoing R))) (n : ℕ) → slice_get xs n ≡ Some None → slice_get (xs ++ ys) n ≡ Some None
  slice_get_before [] ys n h = absurd (cc)
  slice_get_before (x ∷ xs) ys zero h = h
  slice_get_before (x ∷ xs) ys (suc n) h = slice_get_before xs ys n h

  slice_get-set : (xs : List (Option (Outgoing R))) (i n : ℕ) → slice_get xs n ≡ Some None → slice_get (set xs i None) n ≡ Some None
  slice_get-set [] i n h = absurd (cc)
  slice_get-set (x ∷ xs) zero zero h = refl
  slice_get-set (x ∷ xs) zero (suc n) h = h
  slice_get-set (x ∷ xs) (suc i) zero h = h
  slice_get-set (x ∷ xs) (suc i) (suc n) h = slice_get-set xs i n h

  -- a ticket that is out, once it is spent
  slice_get-spent : (k : TicketView) (xs : List (Option (Outgoing R))) (n : ℕ) → is_its k (ticket_at xs n) ≡ true → slice_get (set xs n None) n ≡ Some None
  slice_get-spent k [] n h = absurd (true≢false (sym h))
  slice_get-spent k (x ∷ xs) zero h = refl
  slice_get-spent k (x ∷ xs) (suc n) h = slice_get-spent k xs n h

  -- one call leaves a spent ticket spent
  step_keeps : (b : Batches R) (m : Move R) (n : ℕ) → slice_get b.tickets n ≡ Some None → slice_get (after_move m b).tickets n ≡ Some None
  step_keeps b (Enter count released) n h = slice_get_before b.tickets _ n h
  step_keeps b Take n h = h
  step_keeps b (Acknowledge first end) n h = elim (is_out b.queue first end) as (λ (v : Bool). slice_get (cond v (flushed b) b).tickets n ≡ Some None) [ true ↦ h | false ↦ h ]
  step_keeps b (HandBack first end) n h = elim (is_out b.queue first end) as (λ (v : Bool). slice_get (cond v (handed_back b) b).tickets n ≡ Some None) [ true ↦ h | false ↦ h ]
  step_keeps b (Redeem k) n h = elim (is_ticket_out b k) as (λ (v : Bool). slice_get (cond v (redeemed k b) b).tickets n ≡ Some None) [
    | true ↦ elim (are_acknowledged b.queue k.first k.end || b.halted) as (λ (v : Bool). slice_get (cond v (without k.number b) b).tickets n ≡ Some None) [ true ↦ slice_get-set b.tickets k.number n h | false ↦ h ]
    | false ↦ h
  ]
  step_keeps b Halt n h = h

  moves_keep : (b : Batches R) (moves : List (Move R)) (n : ℕ) → slice_get b.tickets n ≡ Some None → slice_get (after_moves moves b).tickets n ≡ Some None
  moves_keep b [] n h = h
  moves_keep b (m ∷ moves) n h = moves_keep (after_move m b) moves n (step_keeps b m n h)

  pub spent_once : (b : Batches R) (k j : TicketView) (moves : List (Move R)) → is_ticket_out b k ≡ true → (are_acknowledged b.queue k.first k.end || b.halted) ≡ true → j.number ≡ k.number → is_ticket_out (after_moves moves (redeemed k b)) j ≡ false
  spent_once b k j moves out free same =
      let spent : slice_get (redeemed k b).tickets k.number ≡ Some None = ap (λ (v : Bool). slice_get (cond v (without k.number b) b).tickets k.number) free ∙ slice_get-spent k b.tickets k.number out in
      let later = moves_keep (redeemed k b) moves k.number spent in
      ap (λ (n : ℕ). is_its j (ticket_at (after_moves moves (redeemed k b)).tickets n)) same ∙ ap (λ (o : Option (Option (Outgoing R))). is_its j (option_flatten o)) later
