-- The words of a line, and what single words say. All of it is a rule of this project.
use Rattle.std.specs.Prelude.{ℕ, List, length, filter, Bool, not, nat_le, ◌==◌, ◌&&◌, ◌||◌, Option, Some, None, if◌then◌else◌}
use Rattle.std.specs.Char.{is_ascii_digit, is_ascii_hexdigit}
use Rattle.std.specs.List.{list_all, slice_split}
use Rattle.std.specs.Str.Parse.{digits_value}
use Rattle.hd_world.specs.declared.schedule_number.TheConstants.{MOST_DIGITS}

-- space (32), tab (9) and carriage return (13)
abbrev pub is_blank : ℕ → Bool
is_blank byte = (byte == 32) || (byte == 9) || (byte == 13)

-- the part between two blanks is no word where nothing stands there
abbrev pub is_line_word : List ℕ → Bool
is_line_word part = not (length part == 0)

-- the words of a line, in order: what stands between its blanks
abbrev pub words_of : List ℕ → List (List ℕ)
words_of line = filter is_line_word (slice_split is_blank line)

-- 1 to 9 digits
abbrev pub is_number : List ℕ → Bool
is_number word = is_line_word word && nat_le (length word) MOST_DIGITS && list_all is_ascii_digit word

-- the number that a word writes in decimal, if it is one
abbrev pub number_of : List ℕ → Option ℕ
number_of word = if is_number word then Some (digits_value 10 word) else None

-- two hexadecimal digits, of either case
abbrev pub is_byte : List ℕ → Bool
is_byte word = (length word == 2) && list_all is_ascii_hexdigit word

-- the byte that a word writes in hexadecimal, if it is one
abbrev pub byte_of : List ℕ → Option ℕ
byte_of word = if is_byte word then Some (digits_value 16 word) else None
