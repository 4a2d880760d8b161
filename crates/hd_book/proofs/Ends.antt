-- Where batches end.
use Rattle.std.proofs.Common.{◌≡◌, ◌≢◌, ℕ, zero, suc, ◌+◌, ◌-◌, ◌<◌, ◌≤◌, Bool, true, false, cond, List, [], ◌∷◌, ◌++◌, length, take, drop, get_or, refl, sym, ap, ◌∙◌, arith}
use Rattle.std.specs.List.{prefix_len}
use Rattle.std.proofs.lemmas.Bool.{le-leb, leb-true}
use Rattle.std.proofs.lemmas.List.{take-append-drop}
use Rattle.hd_book.specs.declared.queue.TheConstants.{MAX_GROUP}
use Rattle.hd_book.specs.Queue.{end_of, fits_group, AreBatches}

pub end_of-append : (from : ℕ) (xs ys : List ℕ) → end_of from (xs ++ ys) ≡ end_of (end_of from xs) ys
end_of-append from [] ys = refl
end_of-append from (x ∷ xs) ys = end_of-append x xs ys

-- the first batches and the others
pub end_of_parts : (from : ℕ) (ends : List ℕ) (n : ℕ) → end_of (end_of from (take n ends)) (drop n ends) ≡ end_of from ends
end_of_parts from ends n = sym (end_of-append from (take n ends) (drop n ends)) ∙ ap (end_of from) (take-append-drop n ends)

-- the end of the batch at a place
end_of-take : (from : ℕ) (ends : List ℕ) (n d : ℕ) → n < length ends → end_of from (take (suc n) ends) ≡ get_or ends n d
end_of-take from [] n d h = absurd (omega arith)
end_of-take from (e ∷ ends) zero d h = refl
end_of-take from (e ∷ ends) (suc n) d h = end_of-take e ends n d (omega arith)

-- the first batches end where the last of them does
pub end_of_first : (from : ℕ) (ends : List ℕ) (n x : ℕ) → 0 < n → n ≤ length ends → x ≡ get_or ends (n - 1) x → x ≡ end_of from (take n ends)
end_of_first from ends zero x some within is = absurd (omega arith)
end_of_first from ends (suc n) x some within is =
    let one : suc n - 1 ≡ n = omega arith in
    is ∙ (ap (λ (k : ℕ). get_or ends k x) one ∙ sym (end_of-take from ends n x (omega arith)))

-- one more batch
pub AreBatches-push : (from : ℕ) (ends : List ℕ) (e : ℕ) → AreBatches from ends → end_of from ends < e → e ≤ end_of from ends + MAX_GROUP → AreBatches from (ends ++ e ∷ [])
AreBatches-push from [] e are above near = (above, near, tt)
AreBatches-push from (x ∷ ends) e are above near = (are.0, are.1, AreBatches-push x ends e are.2 above near)

-- the batches after the first ones
pub AreBatches-drop : (from : ℕ) (ends : List ℕ) (n : ℕ) → AreBatches from ends → AreBatches (end_of from (take n ends)) (drop n ends)
AreBatches-drop from ends zero are = are
AreBatches-drop from [] (suc n) are = are
AreBatches-drop from (e ∷ ends) (suc n) are = AreBatches-drop e ends n are.2

-- batches end after where they begin
pub end_of_above : (from : ℕ) (ends : List ℕ) → AreBatches from ends → from ≤ end_of from ends
end_of_above from [] are = omega arith
end_of_above from (e ∷ ends) are = let above : from < e = are.0 in omega (arith, end_of_above e ends are.2)

-- the first batch fits into a group
pub some_fit : (from : ℕ) (ends : List ℕ) → AreBatches from ends → ends ≢ [] → 0 < prefix_len (fits_group from) ends
some_fit from [] are some = absurd (some refl)
some_fit from (e ∷ ends) are some =
    let near : e ≤ from + MAX_GROUP = are.1 in
    let fit : fits_group from e ≡ true = le-leb (e - from) MAX_GROUP (omega arith) in
    rw fit (omega arith)

-- the first batches end after where all begin
pub first_above : (from : ℕ) (ends : List ℕ) (n : ℕ) → AreBatches from ends → from ≤ end_of from (take n ends)
first_above from ends zero are = omega arith
first_above from [] (suc n) are = omega arith
first_above from (e ∷ ends) (suc n) are = let above : from < e = are.0 in omega (arith, first_above e ends n are.2)

-- a group has entries
pub group_above : (from : ℕ) (ends : List ℕ) (n : ℕ) → AreBatches from ends → 0 < n → n ≤ length ends → from < end_of from (take n ends)
group_above from ends zero are some within = absurd (omega arith)
group_above from [] (suc n) are some within = absurd (omega arith)
group_above from (e ∷ ends) (suc n) are some within = let above : from < e = are.0 in omega (arith, first_above e ends n are.2)

-- a group ends within the entries
pub group_within : (from : ℕ) (ends : List ℕ) (n : ℕ) → AreBatches from ends → end_of from (take n ends) ≤ end_of from ends
group_within from ends n are =
    omega (arith, end_of_parts from ends n, end_of_above (end_of from (take n ends)) (drop n ends) (AreBatches-drop from ends n are))

-- the batches that fit end within a group
pub group_near : (from start : ℕ) (ends : List ℕ) → start ≤ from + MAX_GROUP → end_of start (take (prefix_len (fits_group from) ends) ends) ≤ from + MAX_GROUP
group_near from start [] h = h
group_near from start (e ∷ ends) h = elim (fits_group from e) as (λ (v : Bool). fits_group from e ≡ v → end_of start (take (cond v (1 + prefix_len (fits_group from) ends) 0) (e ∷ ends)) ≤ from + MAX_GROUP) [
  | true ↦ λ fit.
      let near : e ≤ from + MAX_GROUP = omega (arith, leb-true (e - from) MAX_GROUP fit) in
      let more : 1 + prefix_len (fits_group from) ends ≡ suc (prefix_len (fits_group from) ends) = omega arith in
      rw more (group_near from e ends near)
  | false ↦ λ _. h
] refl
