-- How the count of the last line goes on with a byte.
use Rattle.std.proofs.Common.{◌≡◌, ◌+◌, ◌<◌, ◌==◌, ℕ, true, false, List, [], ◌∷◌, length, get_or, take, reverse, refl, arith}
use Rattle.std.proofs.lemmas.List.{reverse-append, take_more}
use Rattle.std.specs.List.{prefix_len}
use Rattle.hd_lex.specs.Byte.{is_line_byte}

-- the bytes up to the next one, from their end
reversed_more : (xs : List ℕ) (i d : ℕ) → i < length xs → reverse (take (i + 1) xs) ≡ get_or xs i d ∷ reverse (take i xs)
reversed_more xs i d h = rw (take_more xs i d h, reverse-append (take i xs) (get_or xs i d ∷ [])) refl

pub last_line_more : (xs : List ℕ) (i d : ℕ) → i < length xs → (get_or xs i d == 10) ≡ false → prefix_len is_line_byte (reverse (take (i + 1) xs)) ≡ prefix_len is_line_byte (reverse (take i xs)) + 1
last_line_more xs i d h e = rw (reversed_more xs i d h, e) (omega arith)

pub last_line_new : (xs : List ℕ) (i d : ℕ) → i < length xs → (get_or xs i d == 10) ≡ true → prefix_len is_line_byte (reverse (take (i + 1) xs)) ≡ 0
last_line_new xs i d h e = rw (reversed_more xs i d h, e) refl
