-- Names are ASCII, and the digits of a number write a number below 10 ^ MOST_DIGITS.
use Rattle.std.proofs.Common.{◌≡◌, ℕ, ◌<◌, ◌≤◌, ◌^◌, List, [], ◌∷◌, length, true, arith, rules, Result, Ok}
use Rattle.std.specs.Str.{IsAscii}
use Rattle.std.specs.Str.Parse.{ParsesUnsigned, digits_value}
use Rattle.std.specs.List.{list_all}
use Rattle.std.specs.Char.{is_ascii_alphabetic, is_ascii_digit}
use Rattle.std.proofs.lemmas.Str.Ascii.{IsAscii-nil, IsAscii-cons}
use Rattle.std.proofs.lemmas.Str.Parse.{IsNumeralModel, numerals_by_value, parse_gives, digits_value_short}
use Rattle.std.proofs.lemmas.Bool.Decides.{nat_tests}
use Rattle.hd_lex.specs.declared.word.TheConstants.{MOST_DIGITS}
use Rattle.std.proofs.lemmas.Bool.{and_parts}
use Rattle.hd_lex.specs.Byte.{is_name_byte}
use Rattle.hd_lex.specs.Word.{is_name, is_number}

-- the bytes of a name are ASCII
name_byte-ascii : (x : ℕ) → is_name_byte x ≡ true → x < 128
name_byte-ascii x e = grind (arith, nat_tests)

name_bytes-ascii : (bs : List ℕ) → list_all is_name_byte bs ≡ true → IsAscii bs
name_bytes-ascii [] e = IsAscii-nil
name_bytes-ascii (x ∷ xs) e = let p = and_parts _ _ e in IsAscii-cons x xs (name_byte-ascii x p.0) (name_bytes-ascii xs p.1)

letter-ascii : (x : ℕ) → is_ascii_alphabetic x ≡ true → x < 128
letter-ascii x e = grind (arith, nat_tests)

pub is_name-ascii : (bs : List ℕ) → is_name bs ≡ true → IsAscii bs
is_name-ascii [] e = absurd cc
is_name-ascii (x ∷ xs) e = let p = and_parts _ _ e in IsAscii-cons x xs (letter-ascii x p.0) (name_bytes-ascii xs p.1)

-- digits are ASCII
digit-ascii : (x : ℕ) → is_ascii_digit x ≡ true → x < 128
digit-ascii x e = grind (arith, nat_tests)

pub digits-ascii : (bs : List ℕ) → list_all is_ascii_digit bs ≡ true → IsAscii bs
digits-ascii [] e = IsAscii-nil
digits-ascii (x ∷ xs) e = let p = and_parts _ _ e in IsAscii-cons x xs (digit-ascii x p.0) (digits-ascii xs p.1)

-- the test of digits is that of std's numerals
numerals : IsNumeralModel (λ ds. list_all is_ascii_digit ds ≡ true) (digits_value 10)
numerals = numerals_by_value _ (search rules)

-- what a number is, in parts
pub record IsNumber (bs : List ℕ) : Type 0 where
  pub some : 0 < length bs
  pub few : length bs ≤ MOST_DIGITS
  pub digits : list_all is_ascii_digit bs ≡ true

pub number_parts : (bs : List ℕ) → is_number bs ≡ true → IsNumber bs
number_parts bs e = record {
  some = grind (arith, nat_tests);
  few = grind (arith, nat_tests);
  digits = (and_parts _ _ e).1;
}

-- a number is below 10 ^ MOST_DIGITS
pub number-small : (bs : List ℕ) → is_number bs ≡ true → digits_value 10 bs < 10 ^ MOST_DIGITS
number-small bs e = let p = number_parts bs e in digits_value_short numerals bs MOST_DIGITS p.digits p.few

-- a number is parsed
pub number-parses : (bs : List ℕ) {E : Type 0} (r : Result ℕ E) → ParsesUnsigned 64 10 bs r
    → is_number bs ≡ true → r ≡ Ok (digits_value 10 bs)
number-parses bs r h e =
    let p = number_parts bs e in
    parse_gives numerals 64 bs r h p.digits p.some (omega (arith, number-small bs e))
