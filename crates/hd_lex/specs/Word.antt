-- What a single word is: the table of words, and the faults of words outside of it.
-- "BNF" is the BNF of PDDL 2.1 (Fox and Long 2003, its appendix); "own" is a rule of this project.
use Rattle.std.specs.Prelude.{◌≡◌, ℕ, ◌<◌, ◌≤◌, List, [], ◌∷◌, length, map, Bool, true, false, ◌==◌, ◌&&◌, ◌||◌, not, nat_le, pos, neg_ℤ, codes}
use Rattle.std.specs.List.{list_all}
use Rattle.std.specs.Char.{is_ascii_alphabetic, is_ascii_digit, to_ascii_lowercase}
use Rattle.std.specs.Str.Parse.{digits_value}
use Rattle.hd_lex.specs.Byte.{is_name_byte}
use Rattle.hd_lex.specs.declared.word.TheConstants.{LONGEST_NAME, MOST_DIGITS}
use Rattle.hd_lex.specs.declared.error.LexError.{LexError}
use Rattle.hd_lex.specs.declared.error.LexError.TheVariants.{BadByte, BadNumber, NameTooLong}
use Rattle.hd_lex.specs.declared.token.Operator.TheVariants.{Plus, Minus, Times, Divide, Less, LessOrEqual, Equal, GreaterOrEqual, Greater}
use Rattle.hd_lex.specs.declared.token.Word.{Word}
use Rattle.hd_lex.specs.declared.token.Word.TheVariants as words

-- a letter, then letters, digits, '-' and '_' (BNF)
abbrev pub is_name : List ℕ → Bool
is_name [] = false
is_name (first ∷ rest) = is_ascii_alphabetic first && list_all is_name_byte rest

-- 1 to 18 digits (the number of the BNF, without a fraction; the bound is own)
abbrev pub is_number : List ℕ → Bool
is_number bytes = not (length bytes == 0) && nat_le (length bytes) MOST_DIGITS && list_all is_ascii_digit bytes

-- a digit stands first (own)
abbrev pub begins_with_digit : List ℕ → Bool
begins_with_digit [] = false
begins_with_digit (first ∷ rest) = is_ascii_digit first

-- a digit, or '-' (45) and a digit, stands first (own)
abbrev pub begins_as_number : List ℕ → Bool
begins_as_number [] = false
begins_as_number (first ∷ rest) = is_ascii_digit first || ((first == 45) && begins_with_digit rest)

-- the parentheses and the operators (BNF)
pub data IsSign : List ℕ → Word → Type 0 where
  open_parenthesis : IsSign (codes "(") words.OpenParenthesis
  close_parenthesis : IsSign (codes ")") words.CloseParenthesis
  plus : IsSign (codes "+") (words.Operator Plus)
  minus : IsSign (codes "-") (words.Operator Minus)
  times : IsSign (codes "*") (words.Operator Times)
  divide : IsSign (codes "/") (words.Operator Divide)
  less : IsSign (codes "<") (words.Operator Less)
  less_or_equal : IsSign (codes "<=") (words.Operator LessOrEqual)
  equal : IsSign (codes "=") (words.Operator Equal)
  greater_or_equal : IsSign (codes ">=") (words.Operator GreaterOrEqual)
  greater : IsSign (codes ">") (words.Operator Greater)

-- these bytes spell this name: at most 255 bytes, and its letters are folded to lower case (BNF;
-- the bound and the folding are own)
pub record IsName (bytes name : List ℕ) : Type 0 where
  pub spelled : is_name bytes ≡ true
  pub short : length bytes ≤ LONGEST_NAME
  pub folded : name ≡ map to_ascii_lowercase bytes

-- the table of words: these bytes are this word (BNF; a minus sign of a number is own)
pub data IsWord : List ℕ → Word → Type 0 where
  -- a parenthesis or an operator
  sign : {bytes : List ℕ} {word : Word} → IsSign bytes word → IsWord bytes word
  -- a name
  name : {bytes name : List ℕ} → IsName bytes name → IsWord bytes (words.Name name)
  -- '?' (63) and a name
  variable : {bytes name : List ℕ} → IsName bytes name → IsWord (63 ∷ bytes) (words.Variable name)
  -- ':' (58) and a name
  keyword : {bytes name : List ℕ} → IsName bytes name → IsWord (58 ∷ bytes) (words.Keyword name)
  -- 1 to 18 digits
  number : {bytes : List ℕ} → is_number bytes ≡ true → IsWord bytes (words.Number (pos (digits_value 10 bytes)))
  -- '-' (45) and 1 to 18 digits
  signed_number : {bytes : List ℕ} → is_number bytes ≡ true
      → IsWord (45 ∷ bytes) (words.SignedNumber (neg_ℤ (pos (digits_value 10 bytes))))

-- these bytes are a name of more than 255 bytes, alone or after '?' or ':' (own)
pub data IsLongName : List ℕ → Type 0 where
  name : {bytes : List ℕ} → is_name bytes ≡ true → LONGEST_NAME < length bytes → IsLongName bytes
  variable : {bytes : List ℕ} → is_name bytes ≡ true → LONGEST_NAME < length bytes → IsLongName (63 ∷ bytes)
  keyword : {bytes : List ℕ} → is_name bytes ≡ true → LONGEST_NAME < length bytes → IsLongName (58 ∷ bytes)

-- the word of these bytes, the first of which stands at this place, has this fault (own)
pub data IsBad : ℕ → List ℕ → LexError → Type 0 where
  -- a name of more than 255 bytes
  name_too_long : {at : ℕ} {bytes : List ℕ} → IsLongName bytes → IsBad at bytes (NameTooLong at)
  -- it begins as a number, and is not in the table
  bad_number : {at : ℕ} {bytes : List ℕ} → begins_as_number bytes ≡ true → ((word : Word) → ¬ IsWord bytes word)
      → IsBad at bytes (BadNumber at)
  -- it doesn't begin as a number, is not in the table, and is no name of more than 255 bytes
  bad_byte : {at : ℕ} {bytes : List ℕ} → begins_as_number bytes ≡ false → ((word : Word) → ¬ IsWord bytes word)
      → ¬ IsLongName bytes → IsBad at bytes (BadByte at)
