-- What numbers and bytes write.
use Rattle.std.proofs.Common.{◌≡◌, ℕ, ◌+◌, ◌*◌, ◌<◌, ◌≤◌, ◌/◌, ◌%◌, ◌^◌, List, length, true, Some, Result, Ok, refl, arith, rules}
use Rattle.std.specs.Prelude.{decimal}
use Rattle.std.specs.Char.{is_ascii_digit, is_ascii_hexdigit, digit_char}
use Rattle.std.specs.List.{list_all}
use Rattle.std.specs.Str.{IsAscii}
use Rattle.std.specs.Str.Parse.{ParsesUnsigned, digits_value}
use Rattle.std.proofs.lemmas.Bool.{and_parts}
use Rattle.std.proofs.lemmas.Bool.Decides.{nat_tests}
use Rattle.std.proofs.lemmas.Fmt.{IsAscii-from_digits, decimal_nonempty, digits_decimal, digits_value-decimal, length-decimal-le}
use Rattle.std.proofs.lemmas.Str.{digit_value-digit_char}
use Rattle.std.proofs.lemmas.Str.Parse.{IsNumeralModel, numerals_by_value, parse_gives, digits_value_short}
use Rattle.hd_world.specs.declared.schedule_number.TheConstants.{MOST_DIGITS}
use Rattle.hd_world.specs.MoveText.{byte_text}
use Rattle.hd_world.specs.MoveWords.{is_line_word, is_number, number_of, byte_of}

-- ---- decimal

-- the test of digits is that of std's numerals
pub numerals : IsNumeralModel (λ ds. list_all is_ascii_digit ds ≡ true) (digits_value 10)
numerals = numerals_by_value _ (search rules)

-- what a number is, in parts
pub record IsNumber (word : List ℕ) : Type 0 where
  pub some : 0 < length word
  pub few : length word ≤ MOST_DIGITS
  pub digits : list_all is_ascii_digit word ≡ true

pub number_parts : (word : List ℕ) → is_number word ≡ true → IsNumber word
number_parts word e = record {
  some = grind (arith, nat_tests);
  few = grind (arith, nat_tests);
  digits = (and_parts _ _ e).1;
}

-- digits are ASCII
pub number-ascii : (word : List ℕ) → is_number word ≡ true → IsAscii word
number-ascii word e = IsAscii-from_digits word (numerals.to word (number_parts word e).digits)

-- a number is below 10 ^ MOST_DIGITS
number-small : (word : List ℕ) → is_number word ≡ true → digits_value 10 word < 10 ^ MOST_DIGITS
number-small word e = let p = number_parts word e in digits_value_short numerals word MOST_DIGITS p.digits p.few

-- a number is parsed
pub number-parses : (word : List ℕ) {E : Type 0} (r : Result ℕ E) → ParsesUnsigned 32 10 word r
    → is_number word ≡ true → r ≡ Ok (digits_value 10 word)
number-parses word r h e =
    let p = number_parts word e in
    parse_gives numerals 32 word r h p.digits p.some (omega (arith, number-small word e))

-- what `decimal` writes is digits
pub decimal-digits : (n : ℕ) → n < 10 ^ MOST_DIGITS → list_all is_ascii_digit (decimal n) ≡ true
decimal-digits n small = digits_decimal numerals n (omega arith)

pub decimal-word : (n : ℕ) → n < 10 ^ MOST_DIGITS → is_line_word (decimal n) ≡ true
decimal-word n small = let some : 0 < length (decimal n) = decimal_nonempty n (omega arith) in grind (arith, nat_tests)

decimal-is_number : (n : ℕ) → n < 10 ^ MOST_DIGITS → is_number (decimal n) ≡ true
decimal-is_number n small =
    let few : length (decimal n) ≤ MOST_DIGITS = length-decimal-le MOST_DIGITS n (omega arith) small (omega arith) in
    let word = decimal-word n small in
    let digits = decimal-digits n small in
    grind (arith, nat_tests)

-- a number that is written is read
pub number-decimal : (n : ℕ) → n < 10 ^ MOST_DIGITS → number_of (decimal n) ≡ Some n
number-decimal n small = rw (decimal-is_number n small, digits_value-decimal numerals n (omega arith)) refl

-- ---- hexadecimal

pub digit_char-hex : (d : ℕ) → d < 16 → is_ascii_hexdigit (digit_char d) ≡ true
digit_char-hex d small = grind (arith, nat_tests)

-- a byte that is written is read
pub byte-read : (byte : ℕ) → byte < 2 ^ 8 → byte_of (byte_text byte) ≡ Some byte
byte-read byte small =
    let high : byte / 16 < 16 = omega arith in
    let low : byte % 16 < 16 = omega arith in
    let value : (0 * 16 + byte / 16) * 16 + byte % 16 ≡ byte = omega arith in
    rw (digit_char-hex (byte / 16) high, digit_char-hex (byte % 16) low, digit_value-digit_char (byte / 16) (omega arith), digit_value-digit_char (byte % 16) (omega arith), value) refl
