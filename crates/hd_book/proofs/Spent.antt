-- Tickets after those that are spent.
use Rattle.std.proofs.Common.{◌≡◌, ℕ, zero, suc, ◌+◌, ◌-◌, ◌<◌, ◌≤◌, Option, Some, None, List, [], ◌∷◌, ◌++◌, length, set, replicate, slice_get, refl, ap, ◌∙◌, arith}
use Rattle.std.proofs.lemmas.List.{set-append_right, length-replicate}

module _ {X : Type 0} where
  -- a ticket from there on is in its slot
  pub slot_at : (n : ℕ) (slots : List (Option X)) (k : ℕ) → n ≤ k → slice_get (replicate n None ++ slots) k ≡ slice_get slots (k - n)
  slot_at zero slots k h = ap (slice_get slots) (omega arith)
  slot_at (suc n) slots zero h = absurd (omega arith)
  slot_at (suc n) slots (suc k) h = slot_at n slots k (omega arith) ∙ ap (slice_get slots) (omega arith)

  -- one that is spent can be spent again
  pub spend_spent : (n : ℕ) (slots : List (Option X)) (k : ℕ) → k < n → set (replicate n None ++ slots) k None ≡ replicate n None ++ slots
  spend_spent zero slots k h = absurd (omega arith)
  spend_spent (suc n) slots zero h = refl
  spend_spent (suc n) slots (suc k) h = ap (λ (xs : List (Option X)). None ∷ xs) (spend_spent n slots k (omega arith))

  -- one in its slot is spent there
  pub spend_slot : (n : ℕ) (slots : List (Option X)) (k : ℕ) → n ≤ k → set (replicate n None ++ slots) k None ≡ replicate n None ++ set slots (k - n) None
  spend_slot n slots k h = set-append_right (replicate n None) slots n k None (length-replicate n None) h

  -- spent slots in front are so many more
  pub spent_more : (n m : ℕ) (slots rest : List (Option X)) → slots ≡ replicate m None ++ rest → replicate n None ++ slots ≡ replicate (n + m) None ++ rest
  spent_more zero m slots rest e =
      let same : m ≡ zero + m = omega arith in
      e ∙ ap (λ (k : ℕ). replicate k None ++ rest) same
  spent_more (suc n) m slots rest e =
      let same : suc (n + m) ≡ suc n + m = omega arith in
      ap (λ (xs : List (Option X)). None ∷ xs) (spent_more n m slots rest e)
      ∙ ap (λ (k : ℕ). replicate k None ++ rest) same
