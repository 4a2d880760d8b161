-- Words of numbers that were brought into 64 bits.
use Rattle.std.proofs.Common.{◌≡◌, ℕ, zero, suc, List, [], ◌∷◌, ◌++◌, length, Some, ◌+◌, ◌%◌, ◌/◌, ◌^◌, sym, ap, ◌∙◌}
use Rattle.std.specs.Prelude.{bit_xor, slice_get}
use Rattle.std.proofs.lemmas.Option.{none-some, same_Some}
use Rattle.std.proofs.Math.Nat.{mod-add-mod}
use Rattle.rand_xoshiro.specs.SplitMix64.{fold_mul}
use Rattle.hd_zobrist.specs.Hash.{word}

-- what SplitMix64 makes of a state after its step
abbrev mixed : ℕ → ℕ
mixed x = let z = fold_mul (fold_mul x 30 0xbf58476d1ce4e5b9) 27 0x94d049bb133111eb in bit_xor z (z / 2 ^ 31)

pub word-wraps : (k : ℕ) → word (k % 2 ^ 64) ≡ word k
unfolding word
word-wraps k = ap mixed (mod-add-mod k (2 ^ 64) 0x9e3779b97f4a7c15)

pub word-wraps_more : (k n : ℕ) → word ((k % 2 ^ 64 + n) % 2 ^ 64) ≡ word (k + n)
word-wraps_more k n = ap word (mod-add-mod k (2 ^ 64) n) ∙ word-wraps (k + n)

-- a table with the word of its next place
pub words_more : (f : ℕ → ℕ) (xs : List ℕ) (x : ℕ) → x ≡ f (length xs) → ((i w : ℕ) → slice_get xs i ≡ Some w → w ≡ f i)
    → (i w : ℕ) → slice_get (xs ++ x ∷ []) i ≡ Some w → w ≡ f i
words_more f [] x e all zero w is = sym (same_Some x w is) ∙ e
words_more f [] x e all (suc i) w is = absurd (none-some w is)
words_more f (y ∷ ys) x e all zero w is = all zero w is
words_more f (y ∷ ys) x e all (suc i) w is = words_more (λ k. f (suc k)) ys x e (λ j v h. all (suc j) v h) i w is
