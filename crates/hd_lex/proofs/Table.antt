-- What is read of a word is what the table says, and its fault is the one that the table says.
use Rattle.std.proofs.Common.{◌≡◌, ◌⊎◌, inl, inr, ℕ, ◌<◌, List, [], ◌∷◌, length, Bool, true, false, ◌==◌, ◌&&◌, nat_le, if◌then◌else◌, Option, Some, None, Result, Ok, Err, refl, sym, ap, subst, ◌∙◌, arith, pos, neg_ℤ}
use Rattle.std.specs.Char.{is_ascii_alphabetic, is_ascii_digit}
use Rattle.std.specs.Str.Parse.{digits_value}
use Rattle.std.proofs.lemmas.Bool.Decides.{nat_tests}
use Rattle.hd_lex.specs.declared.word.TheConstants.{LONGEST_NAME}
use Rattle.std.proofs.lemmas.Bool.{and_parts, false_from_ne_true, le-leb, lt-leb, eqb-true}
use Rattle.hd_lex.specs.declared.error.LexError.{LexError}
use Rattle.hd_lex.specs.declared.error.LexError.TheVariants.{BadByte, BadNumber, NameTooLong}
use Rattle.hd_lex.specs.declared.token.Word.{Word}
use Rattle.hd_lex.specs.declared.token.Word.TheVariants as words
use Rattle.hd_lex.specs.Reading.{name_of, number_of, negative_of, sign_of, sign_or_fault, word_by, word_of}
use Rattle.hd_lex.specs.Word as table
use Rattle.hd_lex.specs.Word.{is_name, is_number, begins_with_digit, begins_as_number, IsSign, IsName, IsWord, IsLongName, IsBad}
use Rattle.hd_lex.proofs.Digits.{number_parts}

-- ---- what is in the table is read

-- a byte that begins no sign
pub record IsNoSign (x : ℕ) : Type 0 where
  pub not_40 : (x == 40) ≡ false
  pub not_41 : (x == 41) ≡ false
  pub not_43 : (x == 43) ≡ false
  pub not_45 : (x == 45) ≡ false
  pub not_42 : (x == 42) ≡ false
  pub not_47 : (x == 47) ≡ false
  pub not_60 : (x == 60) ≡ false
  pub not_61 : (x == 61) ≡ false
  pub not_62 : (x == 62) ≡ false

no_sign : (x : ℕ) (xs : List ℕ) → IsNoSign x → sign_of (x ∷ xs) ≡ None
no_sign x [] apart =
    rw (apart.not_40, apart.not_41, apart.not_43, apart.not_45, apart.not_42, apart.not_47, apart.not_60, apart.not_61, apart.not_62) refl
no_sign x (y ∷ []) apart = rw (apart.not_60, apart.not_62) refl
no_sign x (y ∷ z ∷ rest) apart = refl

above_62-no_sign : (x : ℕ) → 62 < x → IsNoSign x
above_62-no_sign x h = record {
  not_40 = grind (arith, nat_tests);
  not_41 = grind (arith, nat_tests);
  not_43 = grind (arith, nat_tests);
  not_45 = grind (arith, nat_tests);
  not_42 = grind (arith, nat_tests);
  not_47 = grind (arith, nat_tests);
  not_60 = grind (arith, nat_tests);
  not_61 = grind (arith, nat_tests);
  not_62 = grind (arith, nat_tests);
}

digit-no_sign : (x : ℕ) → 47 < x → x < 60 → IsNoSign x
digit-no_sign x h k = record {
  not_40 = grind (arith, nat_tests);
  not_41 = grind (arith, nat_tests);
  not_43 = grind (arith, nat_tests);
  not_45 = grind (arith, nat_tests);
  not_42 = grind (arith, nat_tests);
  not_47 = grind (arith, nat_tests);
  not_60 = grind (arith, nat_tests);
  not_61 = grind (arith, nat_tests);
  not_62 = grind (arith, nat_tests);
}

letter-above : (x : ℕ) → is_ascii_alphabetic x ≡ true → 64 < x
letter-above x e = grind (arith, nat_tests)

digit-above : (x : ℕ) → is_ascii_digit x ≡ true → 47 < x
digit-above x e = grind (arith, nat_tests)

digit-below : (x : ℕ) → is_ascii_digit x ≡ true → x < 58
digit-below x e = grind (arith, nat_tests)

letter-no_sign : (x : ℕ) (xs : List ℕ) → is_ascii_alphabetic x ≡ true → sign_of (x ∷ xs) ≡ None
letter-no_sign x xs e = no_sign x xs (above_62-no_sign x (omega (arith, letter-above x e)))

digit-first-no_sign : (x : ℕ) (xs : List ℕ) → is_ascii_digit x ≡ true → sign_of (x ∷ xs) ≡ None
digit-first-no_sign x xs e = no_sign x xs (digit-no_sign x (digit-above x e) (omega (arith, digit-below x e)))

same-no_sign : (x k : ℕ) (xs : List ℕ) → IsNoSign k → (x == k) ≡ true → sign_of (x ∷ xs) ≡ None
same-no_sign x k xs apart e = ap (λ (j : ℕ). sign_of (j ∷ xs)) (eqb-true x k e) ∙ no_sign k xs apart

-- '-' before a digit is no sign
minus_digit-no_sign : (xs : List ℕ) → begins_with_digit xs ≡ true → sign_of (45 ∷ xs) ≡ None
minus_digit-no_sign [] e = absurd cc
minus_digit-no_sign (y ∷ []) e = refl
minus_digit-no_sign (y ∷ z ∷ rest) e = refl

minus-no_sign : (x : ℕ) (xs : List ℕ) → ((x == 45) && begins_with_digit xs) ≡ true → sign_of (x ∷ xs) ≡ None
minus-no_sign x xs e =
    let p = and_parts (x == 45) (begins_with_digit xs) e in
    ap (λ (j : ℕ). sign_of (j ∷ xs)) (eqb-true x 45 p.0) ∙ minus_digit-no_sign xs p.1

-- a sign is the one of its bytes
sign-of : {bytes : List ℕ} {word : Word} → IsSign bytes word → sign_of bytes ≡ Some word
sign-of table.open_parenthesis = refl
sign-of table.close_parenthesis = refl
sign-of table.plus = refl
sign-of table.minus = refl
sign-of table.times = refl
sign-of table.divide = refl
sign-of table.less = refl
sign-of table.less_or_equal = refl
sign-of table.equal = refl
sign-of table.greater_or_equal = refl
sign-of table.greater = refl

-- all that is found of these bytes is in the table
abbrev AllFound : List ℕ → Option Word → Type 0
AllFound bytes found = (word : Word) → found ≡ Some word → IsSign bytes word

none_found : (bytes : List ℕ) → AllFound bytes None
none_found bytes word e = absurd cc

one_found : (bytes : List ℕ) (word : Word) → IsSign bytes word → AllFound bytes (Some word)
one_found bytes word is also e = let same : word ≡ also = cc in rw (← same) is

-- one test more
tested : (bytes : List ℕ) (b : Bool) (word : Word) (others : Option Word) → (b ≡ true → IsSign bytes word)
    → AllFound bytes others → AllFound bytes (if b then Some word else others)
tested bytes true word others is found = one_found bytes word (is refl)
tested bytes false word others is found = found

-- the byte is the sign's
byte_is : (x k : ℕ) (word : Word) → IsSign (k ∷ []) word → (x == k) ≡ true → IsSign (x ∷ []) word
byte_is x k word is e = rw (eqb-true x k e) is

bytes_are : (x y k l : ℕ) (word : Word) → IsSign (k ∷ l ∷ []) word → ((x == k) && (y == l)) ≡ true
    → IsSign (x ∷ y ∷ []) word
bytes_are x y k l word is e = let p = and_parts (x == k) (y == l) e in rw (eqb-true x k p.0, eqb-true y l p.1) is

sign-found : (bytes : List ℕ) → AllFound bytes (sign_of bytes)
sign-found [] = none_found []
sign-found (x ∷ []) =
    tested _ (x == 40) _ _ (byte_is x 40 _ table.open_parenthesis)
    (tested _ (x == 41) _ _ (byte_is x 41 _ table.close_parenthesis)
    (tested _ (x == 43) _ _ (byte_is x 43 _ table.plus)
    (tested _ (x == 45) _ _ (byte_is x 45 _ table.minus)
    (tested _ (x == 42) _ _ (byte_is x 42 _ table.times)
    (tested _ (x == 47) _ _ (byte_is x 47 _ table.divide)
    (tested _ (x == 60) _ _ (byte_is x 60 _ table.less)
    (tested _ (x == 61) _ _ (byte_is x 61 _ table.equal)
    (tested _ (x == 62) _ _ (byte_is x 62 _ table.greater) (none_found _)))))))))
sign-found (x ∷ y ∷ []) =
    tested _ ((x == 60) && (y == 61)) _ _ (bytes_are x y 60 61 _ table.less_or_equal)
    (tested _ ((x == 62) && (y == 61)) _ _ (bytes_are x y 62 61 _ table.greater_or_equal) (none_found _))
sign-found (x ∷ y ∷ z ∷ rest) = none_found _

-- a sign is read
sign-read : (at : ℕ) (bytes : List ℕ) (word : Word) → sign_of bytes ≡ Some word → word_of at bytes ≡ Ok word
unfolding word_of
sign-read at [] word is = absurd cc
sign-read at (x ∷ xs) word is =
    let letter : is_ascii_alphabetic x ≡ false = false_from_ne_true _ (λ e. let none = letter-no_sign x xs e in cc) in
    let question_mark = above_62-no_sign 63 (omega arith) in
    let colon = digit-no_sign 58 (omega arith) (omega arith) in
    let variable : (x == 63) ≡ false = false_from_ne_true _ (λ e. let none = same-no_sign x 63 xs question_mark e in cc) in
    let keyword : (x == 58) ≡ false = false_from_ne_true _ (λ e. let none = same-no_sign x 58 xs colon e in cc) in
    let digit : is_ascii_digit x ≡ false = false_from_ne_true _ (λ e. let none = digit-first-no_sign x xs e in cc) in
    let minus : ((x == 45) && begins_with_digit xs) ≡ false = false_from_ne_true _ (λ e. let none = minus-no_sign x xs e in cc) in
    rw (letter, variable, keyword, digit, minus) (ap (sign_or_fault at) is)

name-read : (at : ℕ) (bytes name : List ℕ) → IsName bytes name → name_of at bytes ≡ Ok name
unfolding name_of
name-read at bytes name is = rw (is.spelled, le-leb (length bytes) 255 is.short) (ap Ok (sym is.folded))

long-read : (at : ℕ) (bytes : List ℕ) → is_name bytes ≡ true → LONGEST_NAME < length bytes
    → name_of at bytes ≡ Err (NameTooLong at)
unfolding name_of
long-read at bytes spelled long = rw (spelled, lt-leb (length bytes) 255 long) refl

-- a name is read by its first letter
by_letter : (at : ℕ) (bytes : List ℕ) → is_name bytes ≡ true → word_of at bytes ≡ word_by words.Name (name_of at bytes)
unfolding word_of
by_letter at [] e = absurd cc
by_letter at (x ∷ xs) e = let letter : is_ascii_alphabetic x ≡ true = (and_parts _ _ e).0 in rw letter refl

by_question_mark : (at : ℕ) (xs : List ℕ) → word_of at (63 ∷ xs) ≡ word_by words.Variable (name_of at xs)
unfolding word_of
by_question_mark at xs = refl

by_colon : (at : ℕ) (xs : List ℕ) → word_of at (58 ∷ xs) ≡ word_by words.Keyword (name_of at xs)
unfolding word_of
by_colon at xs = refl

-- a number is read by its first digit
first_digit : (bytes : List ℕ) → is_number bytes ≡ true → begins_with_digit bytes ≡ true
first_digit [] e = absurd cc
first_digit (x ∷ xs) e = (and_parts _ _ (number_parts (x ∷ xs) e).digits).0

digit-no_letter : (x : ℕ) → is_ascii_digit x ≡ true → is_ascii_alphabetic x ≡ false
digit-no_letter x e = false_from_ne_true _ (λ h. let a = letter-above x h in let b = digit-below x e in absurd (omega arith))

by_digit : (at : ℕ) (bytes : List ℕ) → begins_with_digit bytes ≡ true
    → word_of at bytes ≡ word_by words.Number (number_of at bytes)
unfolding word_of
by_digit at [] digit = absurd cc
by_digit at (x ∷ xs) digit =
    let letter : is_ascii_alphabetic x ≡ false = digit-no_letter x digit in
    let variable : (x == 63) ≡ false = grind (arith, nat_tests, digit-below x digit) in
    let keyword : (x == 58) ≡ false = grind (arith, nat_tests, digit-below x digit) in
    rw (letter, variable, keyword, digit) refl

value-read : (at : ℕ) (bytes : List ℕ) → is_number bytes ≡ true → number_of at bytes ≡ Ok (pos (digits_value 10 bytes))
unfolding number_of
value-read at bytes e = rw e refl

number-read : (at : ℕ) (bytes : List ℕ) → is_number bytes ≡ true
    → word_of at bytes ≡ Ok (words.Number (pos (digits_value 10 bytes)))
number-read at bytes e = by_digit at bytes (first_digit bytes e) ∙ ap (word_by words.Number) (value-read at bytes e)

signed_number-read : (at : ℕ) (bytes : List ℕ) → is_number bytes ≡ true
    → word_of at (45 ∷ bytes) ≡ Ok (words.SignedNumber (neg_ℤ (pos (digits_value 10 bytes))))
unfolding word_of negative_of
signed_number-read at bytes e = rw (first_digit bytes e, e) refl

-- a word of the table is read
pub word-read : (at : ℕ) {bytes : List ℕ} {word : Word} → IsWord bytes word → word_of at bytes ≡ Ok word
word-read at (table.sign {bytes = bytes} {word = word} is) = sign-read at bytes word (sign-of is)
word-read at (table.IsWord.name {bytes =
    bytes} {name = name} is) = by_letter at bytes is.spelled ∙ ap (word_by words.Name) (name-read at bytes name is)
word-read at (table.IsWord.variable {bytes =
    bytes} {name = name} is) = by_question_mark at bytes ∙ ap (word_by words.Variable) (name-read at bytes name is)
word-read at (table.IsWord.keyword {bytes =
    bytes} {name = name} is) = by_colon at bytes ∙ ap (word_by words.Keyword) (name-read at bytes name is)
word-read at (table.number {bytes = bytes} is) = number-read at bytes is
word-read at (table.signed_number {bytes = bytes} is) = signed_number-read at bytes is

-- a name that is too long is reported
pub long_name-told : (at : ℕ) {bytes : List ℕ} → IsLongName bytes → word_of at bytes ≡ Err (NameTooLong at)
long_name-told at (table.IsLongName.name {bytes =
    bytes} spelled long) = by_letter at bytes spelled ∙ ap (word_by words.Name) (long-read at bytes spelled long)
long_name-told at (table.IsLongName.variable {bytes =
    bytes} spelled long) = by_question_mark at bytes ∙ ap (word_by words.Variable) (long-read at bytes spelled long)
long_name-told at (table.IsLongName.keyword {bytes =
    bytes} spelled long) = by_colon at bytes ∙ ap (word_by words.Keyword) (long-read at bytes spelled long)

-- ---- what is read is in the table, and what is reported is so

-- why a fault is reported
data IsWhy : ℕ → List ℕ → LexError → Type 0 where
  too_long : {at : ℕ} {bytes : List ℕ} → IsLongName bytes → IsWhy at bytes (NameTooLong at)
  as_number : {at : ℕ} {bytes : List ℕ} → begins_as_number bytes ≡ true → IsWhy at bytes (BadNumber at)
  as_other : {at : ℕ} {bytes : List ℕ} → begins_as_number bytes ≡ false → IsWhy at bytes (BadByte at)

-- what is said of these bytes is so
abbrev IsSo : ℕ → List ℕ → Result Word LexError → Type 0
IsSo at bytes (Ok word) = IsWord bytes word
IsSo at bytes (Err error) = IsWhy at bytes error

-- the bytes after a mark, or all of them, as a name
named-so : (at : ℕ) (bytes whole : List ℕ) (make : List ℕ → Word) (spelled short : Bool)
    → is_name bytes ≡ spelled → nat_le (length bytes) LONGEST_NAME ≡ short
    → begins_as_number whole ≡ false
    → ((name : List ℕ) → IsName bytes name → IsWord whole (make name))
    → (is_name bytes ≡ true → LONGEST_NAME < length bytes → IsLongName whole)
    → IsSo at whole (word_by make (name_of at bytes))
unfolding name_of
named-so at bytes whole make true true is_spelled is_short other good long =
    rw (is_spelled, is_short) (good _ (record {
      spelled =
          is_spelled;
      short = grind (arith, nat_tests);
      folded = refl;
    }))
named-so at bytes whole make true false is_spelled is_short other good long =
    rw (is_spelled, is_short) (too_long (long is_spelled (grind (arith, nat_tests))))
named-so at bytes whole make false short is_spelled is_short other good long = rw is_spelled (as_other other)

number-so : (at : ℕ) (bytes : List ℕ) (b : Bool) → is_number bytes ≡ b → begins_as_number bytes ≡ true
    → IsSo at bytes (word_by words.Number (number_of at bytes))
unfolding number_of
number-so at bytes true is first = rw is (table.number is)
number-so at bytes false is first = rw is (as_number first)

negative-so : (at : ℕ) (bytes : List ℕ) (b : Bool) → is_number bytes ≡ b
    → begins_as_number (45 ∷ bytes) ≡ true
    → IsSo at (45 ∷ bytes) (word_by words.SignedNumber (negative_of at bytes))
unfolding negative_of
negative-so at bytes true is first = rw is (table.signed_number is)
negative-so at bytes false is first = rw is (as_number first)

sign-so : (at : ℕ) (bytes : List ℕ) (o : Option Word) → sign_of bytes ≡ o → begins_as_number bytes ≡ false
    → IsSo at bytes (sign_or_fault at o)
sign-so at bytes (Some word) is other = table.sign (sign-found bytes word is)
sign-so at bytes None is other = as_other other

letter-no_number : (x : ℕ) (xs : List ℕ) → is_ascii_alphabetic x ≡ true → begins_as_number (x ∷ xs) ≡ false
letter-no_number x xs e =
    let above = letter-above x e in
    let digit : is_ascii_digit x ≡ false = false_from_ne_true _ (λ h. let below = digit-below x h in absurd (omega arith)) in
    let minus : (x == 45) ≡ false = (above_62-no_sign x (omega (arith, letter-above x e))).not_45 in
    rw (digit, minus) refl

-- ---- the tests of the first byte, one after the other

-- what is said after the test for a digit, for ':', for '?' and for a letter
abbrev behind_digit : ℕ → ℕ → List ℕ → Result Word LexError
behind_digit at x xs =
    if (x == 45) && begins_with_digit xs then word_by words.SignedNumber (negative_of at xs)
    else sign_or_fault at (sign_of (x ∷ xs))

abbrev behind_colon : ℕ → ℕ → List ℕ → Result Word LexError
behind_colon at x xs = if is_ascii_digit x then word_by words.Number (number_of at (x ∷ xs)) else behind_digit at x xs

abbrev behind_mark : ℕ → ℕ → List ℕ → Result Word LexError
behind_mark at x xs = if x == 58 then word_by words.Keyword (name_of at xs) else behind_colon at x xs

minus-so : (at x : ℕ) (xs : List ℕ) (b : Bool) → ((x == 45) && begins_with_digit xs) ≡ b → is_ascii_digit x ≡ false
    → IsSo at (x ∷ xs) (if b then word_by words.SignedNumber (negative_of at xs) else sign_or_fault at (sign_of (x ∷ xs)))
minus-so at x xs true e digit =
    let p = and_parts (x == 45) (begins_with_digit xs) e in
    let first : begins_as_number (45 ∷ xs) ≡ true = p.1 in
    rw (eqb-true x 45 p.0) (negative-so at xs (is_number xs) refl first)
minus-so at x xs false e digit =
    let other : begins_as_number (x ∷ xs) ≡ false = rw (digit, e) refl in
    sign-so at (x ∷ xs) (sign_of (x ∷ xs)) refl other

digit-so : (at x : ℕ) (xs : List ℕ) (b : Bool) → is_ascii_digit x ≡ b
    → IsSo at (x ∷ xs) (if b then word_by words.Number (number_of at (x ∷ xs)) else behind_digit at x xs)
digit-so at x xs true e =
    let first : begins_as_number (x ∷ xs) ≡ true = rw e refl in
    number-so at (x ∷ xs) (is_number (x ∷ xs)) refl first
digit-so at x xs false e = minus-so at x xs ((x == 45) && begins_with_digit xs) refl e

colon-so : (at x : ℕ) (xs : List ℕ) (b : Bool) → (x == 58) ≡ b
    → IsSo at (x ∷ xs) (if b then word_by words.Keyword (name_of at xs) else behind_colon at x xs)
colon-so at x xs true e =
    rw (eqb-true x 58 e)
    (named-so at xs (58 ∷ xs) words.Keyword (is_name xs) (nat_le (length xs) LONGEST_NAME) refl refl refl
    (λ name is. table.IsWord.keyword is) (λ spelled long. table.IsLongName.keyword spelled long))
colon-so at x xs false e = digit-so at x xs (is_ascii_digit x) refl

mark-so : (at x : ℕ) (xs : List ℕ) (b : Bool) → (x == 63) ≡ b
    → IsSo at (x ∷ xs) (if b then word_by words.Variable (name_of at xs) else behind_mark at x xs)
mark-so at x xs true e =
    rw (eqb-true x 63 e)
    (named-so at xs (63 ∷ xs) words.Variable (is_name xs) (nat_le (length xs) LONGEST_NAME) refl refl refl
    (λ name is. table.IsWord.variable is) (λ spelled long. table.IsLongName.variable spelled long))
mark-so at x xs false e = colon-so at x xs (x == 58) refl

letter-so : (at x : ℕ) (xs : List ℕ) (b : Bool) → is_ascii_alphabetic x ≡ b → IsSo at (x ∷ xs) (word_of at (x ∷ xs))
unfolding word_of
letter-so at x xs true e =
    rw e (named-so at (x ∷ xs) (x ∷ xs) words.Name (is_name (x ∷ xs)) (nat_le (length (x ∷ xs)) LONGEST_NAME) refl refl
    (letter-no_number x xs e) (λ name is. table.IsWord.name is) (λ spelled long. table.IsLongName.name spelled long))
letter-so at x xs false e = rw e (mark-so at x xs (x == 63) refl)

-- what is said of any bytes is so
word-so : (at : ℕ) (bytes : List ℕ) → IsSo at bytes (word_of at bytes)
unfolding word_of
word-so at [] = as_other refl
word-so at (x ∷ xs) = letter-so at x xs (is_ascii_alphabetic x) refl

-- what is read is in the table
pub word-is : (at : ℕ) {bytes : List ℕ} {word : Word} → word_of at bytes ≡ Ok word → IsWord bytes word
word-is at {bytes = bytes} read = subst (IsSo at bytes) read (word-so at bytes)

why-bad : (at : ℕ) (bytes : List ℕ) (error : LexError) → IsWhy at bytes error → word_of at bytes ≡ Err error
    → IsBad at bytes error
why-bad _ _ _ (too_long long) told = table.name_too_long long
why-bad _ _ _ (as_number {at = at} first) told = table.bad_number first (λ word is. let read = word-read at is in cc)
why-bad _ _ _ (as_other {at = at} first) told =
    table.bad_byte first (λ word is. let read = word-read at is in cc) (λ long. let also = long_name-told at long in cc)

-- what is reported is a fault of the word
pub bad-is : (at : ℕ) {bytes : List ℕ} {error : LexError} → word_of at bytes ≡ Err error → IsBad at bytes error
bad-is at {bytes =
    bytes} {error = error} told = why-bad at bytes error (subst (IsSo at bytes) told (word-so at bytes)) told

-- a name that is too long begins as no number
long_name-first : {bytes : List ℕ} → IsLongName bytes → begins_as_number bytes ≡ false
long_name-first (table.IsLongName.name {bytes = []} spelled long) = refl
long_name-first (table.IsLongName.name {bytes = x ∷ xs} spelled long) = letter-no_number x xs (and_parts _ _ spelled).0
long_name-first (table.IsLongName.variable spelled long) = refl
long_name-first (table.IsLongName.keyword spelled long) = refl

bad_number-read : (at : ℕ) (bytes : List ℕ) (r : Result Word LexError) → IsSo at bytes r
    → begins_as_number bytes ≡ true → ((word : Word) → ¬ IsWord bytes word) → r ≡ Err (BadNumber at)
bad_number-read at bytes (Ok word) so first never = absurd (never word so)
bad_number-read _ _ (Err _) (too_long long) first never = let other = long_name-first long in cc
bad_number-read _ _ (Err _) (as_number also) first never = refl
bad_number-read _ _ (Err _) (as_other other) first never = cc

bad_byte-read : (at : ℕ) (bytes : List ℕ) (r : Result Word LexError) → IsSo at bytes r
    → begins_as_number bytes ≡ false → ((word : Word) → ¬ IsWord bytes word) → ¬ IsLongName bytes
    → r ≡ Err (BadByte at)
bad_byte-read at bytes (Ok word) so first never short = absurd (never word so)
bad_byte-read _ _ (Err _) (too_long long) first never short = absurd (short long)
bad_byte-read _ _ (Err _) (as_number also) first never short = cc
bad_byte-read _ _ (Err _) (as_other other) first never short = refl

-- a fault of the word is reported
pub bad-read : {at : ℕ} {bytes : List ℕ} {error : LexError} → IsBad at bytes error → word_of at bytes ≡ Err error
bad-read (table.name_too_long {at = at} long) = long_name-told at long
bad-read (table.bad_number {at =
    at} {bytes = bytes} first never) = bad_number-read at bytes _ (word-so at bytes) first never
bad-read (table.bad_byte {at =
    at} {bytes = bytes} first never short) = bad_byte-read at bytes _ (word-so at bytes) first never short

-- ---- the table and the faults together

good_or_bad_by : (at : ℕ) (bytes : List ℕ) (r : Result Word LexError) → word_of at bytes ≡ r
    → ((word : Word) × IsWord bytes word) ⊎ ((fault : LexError) × IsBad at bytes fault)
good_or_bad_by at bytes (Ok word) e = inl (word, word-is at e)
good_or_bad_by at bytes (Err fault) e = inr (fault, bad-is at e)

-- any bytes are in the table or have a fault
pub word-good_or_bad : (at : ℕ) (bytes : List ℕ)
    → ((word : Word) × IsWord bytes word) ⊎ ((fault : LexError) × IsBad at bytes fault)
word-good_or_bad at bytes = good_or_bad_by at bytes (word_of at bytes) refl

-- they are one word
pub word_unique : (bytes : List ℕ) (a b : Word) → IsWord bytes a → IsWord bytes b → a ≡ b
word_unique bytes a b is also =
    let one = word-read 0 is in
    let other = word-read 0 also in
    cc

-- they have one fault
pub fault_unique : (at : ℕ) (bytes : List ℕ) (a b : LexError) → IsBad at bytes a → IsBad at bytes b → a ≡ b
fault_unique at bytes a b is also =
    let one = bad-read is in
    let other = bad-read also in
    cc

-- and never and_parts
pub word_not_bad : (at : ℕ) (bytes : List ℕ) (word : Word) (fault : LexError) → IsWord bytes word
    → IsBad at bytes fault → ⊥
word_not_bad at bytes word fault is bad =
    let one = word-read at is in
    let other = bad-read bad in
    cc
