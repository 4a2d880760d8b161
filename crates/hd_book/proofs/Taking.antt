-- What goes out in a group.
use Rattle.std.proofs.Common.{◌≡◌, ◌≢◌, ℕ, zero, suc, ◌+◌, ◌<◌, ◌≤◌, ◌==◌, ◌&&◌, not, Bool, true, false, cond, Option, Some, None, List, [], ◌∷◌, ◌++◌, ◌-◌, length, take, drop, refl, sym, ap, subst, ◌∙◌, arith}
use Rattle.std.specs.Prelude.{take_while}
use Rattle.std.specs.List.{prefix_len}
use Rattle.std.specs.declared.ops.Range.{Range}
use Rattle.std.proofs.lemmas.Bool.Decides.{nat_tests}
use Rattle.std.proofs.lemmas.List.{length_push, take_at, length-drop}
use Rattle.std.proofs.lemmas.List.Folds.{length-prefix_len}
use Rattle.hd_book.specs.declared.queue.TheConstants.{MAX_GROUP}
use Rattle.hd_book.specs.Queue.{QueueView, end_of, entries_in_all, group_out, group_next, is_idle, is_due, group_end, with_group, with_batch, without_group, fits_group, fitting, AreBatches, IsQueue}
use Rattle.hd_book.proofs.Ends.{some_fit, group_above, group_near, group_within, AreBatches-push, AreBatches-drop}

-- 0 is what a test says
above_zero : (n : ℕ) → 0 < n → (n == 0) ≡ false
above_zero n h = grind (arith, nat_tests)

and_false : (v : Bool) → (v && false) ≡ false
and_false true = refl
and_false false = refl

pub with_group_busy : (q : QueueView) → 0 < q.out → with_group q ≡ q
with_group_busy q busy = ap (λ (v : Bool). record q { out = cond v (fitting q) q.out }) (above_zero q.out busy)

pub group_next_busy : (q : QueueView) → 0 < q.out → group_next q ≡ None
group_next_busy q busy = ap (λ (v : Bool). cond v (group_out (with_group q)) None) (above_zero q.out busy)

pub is_due_busy : (q : QueueView) → 0 < q.out → is_due q ≡ false
is_due_busy q busy = ap (λ (v : Bool). v && not (is_idle q)) (above_zero q.out busy)

-- no batch goes into a group
pub with_group_none : (q : QueueView) → q.out ≡ 0 → fitting q ≡ 0 → with_group q ≡ q
with_group_none q free none =
    ap (λ (n : ℕ). record q { out = cond (n == 0) (fitting q) n }) free
    ∙ (ap (λ (n : ℕ). record q { out = n }) none ∙ ap (λ (n : ℕ). record q { out = n }) (sym free))

pub group_next_none : (q : QueueView) → q.out ≡ 0 → fitting q ≡ 0 → group_next q ≡ None
group_next_none q free none =
    ap (λ (n : ℕ). cond (n == 0) (group_out (record q { out = cond (n == 0) (fitting q) n })) None) free
    ∙ ap (λ (n : ℕ). group_out (record q { out = n })) none

-- then nothing waits
no_ends : (from : ℕ) (ends : List ℕ) → AreBatches from ends → length (take_while (fits_group from) ends) ≡ 0 → (length ends == 0) ≡ true
no_ends from [] are none = refl
no_ends from (e ∷ ends) are none =
    absurd (omega (arith, length-prefix_len (fits_group from) (e ∷ ends), some_fit from (e ∷ ends) are (λ h. cc)))

pub is_due_none : (q : QueueView) → IsQueue q → fitting q ≡ 0 → is_due q ≡ false
is_due_none q is none =
    ap (λ (v : Bool). (q.out == 0) && not v) (no_ends q.acknowledged q.ends is.batches none) ∙ and_false (q.out == 0)

-- something waits
pub with_group_next : (q : QueueView) (n : ℕ) → q.out ≡ 0 → n ≡ fitting q → with_group q ≡ record q { out = n }
with_group_next q n free all =
    ap (λ (m : ℕ). record q { out = cond (m == 0) (fitting q) m }) free ∙ ap (λ (m : ℕ). record q { out = m }) (sym all)

pub group_next_some : (q : QueueView) (n end : ℕ) → q.out ≡ 0 → n ≡ fitting q → 0 < n → end ≡ end_of q.acknowledged (take n q.ends) → group_next q ≡ Some (record { start = q.acknowledged; end = end })
group_next_some q n end free all some is =
    ap (λ (m : ℕ). cond (m == 0) (group_out (record q { out = cond (m == 0) (fitting q) m })) None) free
    ∙ (ap (λ (m : ℕ). group_out (record q { out = m })) (sym all)
    ∙ (ap (λ (v : Bool). cond v None (Some (record { start = q.acknowledged; end = end_of q.acknowledged (take n q.ends) }))) (above_zero n some)
    ∙ ap (λ (m : ℕ). Some (record { start = q.acknowledged; end = m })) (sym is)))

pub is_due_some : (q : QueueView) → q.out ≡ 0 → 0 < length q.ends → is_due q ≡ true
is_due_some q free some =
    ap (λ (n : ℕ). (n == 0) && not (is_idle q)) free ∙ ap not (above_zero (length q.ends) some)

-- what goes into a group is among the batches, is not nothing, and fits
pub record IsGroup (q : QueueView) (n : ℕ) : Type 0 where
  pub among : n ≤ length q.ends
  pub above : q.acknowledged < end_of q.acknowledged (take n q.ends)
  pub near : end_of q.acknowledged (take n q.ends) ≤ q.acknowledged + MAX_GROUP
  pub within : end_of q.acknowledged (take n q.ends) ≤ entries_in_all q

prefix_len_within : {X : Type 0} (p : X → Bool) (xs : List X) → prefix_len p xs ≤ length xs
prefix_len_within p [] = omega arith
prefix_len_within p (x ∷ xs) = elim (p x) as (λ (v : Bool). cond v (1 + prefix_len p xs) 0 ≤ suc (length xs)) [
  | true ↦ omega (arith, prefix_len_within p xs)
  | false ↦ omega arith
]

pub is_group : (q : QueueView) (n : ℕ) → IsQueue q → 0 < n → n ≡ fitting q → IsGroup q n
is_group q n is some all =
    let fitting_is : n ≡ prefix_len (fits_group q.acknowledged) q.ends = all ∙ length-prefix_len (fits_group q.acknowledged) q.ends in
    let few = prefix_len_within (fits_group q.acknowledged) q.ends in
    let among : n ≤ length q.ends = omega arith in
    record {
      among = among;
      above = group_above q.acknowledged q.ends n is.batches some among;
      near = rw fitting_is (group_near q.acknowledged q.acknowledged q.ends (omega arith));
      within = group_within q.acknowledged q.ends n is.batches;
    }

-- ---- what the queue is after a call

pub with_batch_none : (q : QueueView) (count : ℕ) → count ≡ 0 → with_batch count q ≡ q
with_batch_none q count none =
    ap (λ (n : ℕ). record q { ends = cond (n == 0) q.ends (q.ends ++ (entries_in_all q + n) ∷ []) }) none

pub with_batch_some : (q : QueueView) (count end : ℕ) (ends : List ℕ) → 0 < count → end ≡ entries_in_all q + count → ends ≡ q.ends ++ end ∷ [] → record q { ends = ends } ≡ with_batch count q
with_batch_some q count end ends some is new =
    ap (λ (xs : List ℕ). record q { ends = xs }) new
    ∙ (ap (λ (n : ℕ). record q { ends = q.ends ++ n ∷ [] }) is
    ∙ ap (λ (v : Bool). record q { ends = cond v q.ends (q.ends ++ (entries_in_all q + count) ∷ []) }) (sym (above_zero count some)))

pub is_queue_pushed : (q : QueueView) (count end : ℕ) (ends : List ℕ) → IsQueue q → 0 < count → count ≤ MAX_GROUP → end ≡ entries_in_all q + count → ends ≡ q.ends ++ end ∷ [] → IsQueue (record q { ends = ends })
is_queue_pushed q count end ends is some few at new = record {
  batches = subst (AreBatches q.acknowledged) (sym new) (AreBatches-push q.acknowledged q.ends end is.batches (omega arith) (omega arith));
  out = let within : q.out ≤ length q.ends = is.out in omega (arith, ap length new, length_push q.ends end);
}

pub is_queue_taken : (q : QueueView) (n : ℕ) → IsQueue q → n ≤ length q.ends → IsQueue (record q { out = n })
is_queue_taken q n is within = record { batches = is.batches; out = within }

-- what is left behind the first
pub rest_is : (xs ys zs : List ℕ) (n m : ℕ) → ys ≡ drop n xs ++ take n xs → zs ≡ take m ys → m ≡ length xs - n → zs ≡ drop n xs
rest_is xs ys zs n m turned cut is =
    cut ∙ (ap (take m) turned ∙ take_at (drop n xs) (take n xs) m (length-drop n xs ∙ sym is))

pub is_queue_cut : (q : QueueView) (n : ℕ) (ends : List ℕ) → IsQueue q → n ≡ group_end q → ends ≡ drop q.out q.ends → IsQueue (record { acknowledged = n; ends = ends; out = 0 })
is_queue_cut q n ends is at rest = record {
  batches = subst (λ (xs : List ℕ). AreBatches n xs) (sym rest) (subst (λ (m : ℕ). AreBatches m (drop q.out q.ends)) (sym at) (AreBatches-drop q.acknowledged q.ends q.out is.batches));
  out = omega arith;
}

pub without_group_is : (q : QueueView) (n : ℕ) (ends : List ℕ) → n ≡ group_end q → ends ≡ drop q.out q.ends → record { acknowledged = n; ends = ends; out = 0 } ≡ without_group q
without_group_is q n ends at rest =
    ap (λ (m : ℕ). let w : QueueView = record { acknowledged = m; ends = ends; out = 0 } in w) at
    ∙ ap (λ (xs : List ℕ). let w : QueueView = record { acknowledged = group_end q; ends = xs; out = 0 } in w) rest
