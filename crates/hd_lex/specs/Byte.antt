-- What single bytes do.
-- "BNF" is the BNF of PDDL 2.1 (Fox and Long 2003, its appendix); "own" is a rule of this project.
use Rattle.std.specs.Prelude.{ℕ, Bool, true, false, ◌==◌, ◌||◌, not, if◌then◌else◌}
use Rattle.std.specs.Char.{is_ascii_alphabetic, is_ascii_digit}
use Rattle.hd_lex.specs.declared.byte.Class.{Class}
use Rattle.hd_lex.specs.declared.byte.Class.TheVariants.{Blank, Semicolon, Parenthesis, Word}

-- space (32), tab (9), carriage return (13) and line feed (10) are blanks; then ';' (59), '(' (40)
-- and ')' (41); all others are of words (own)
abbrev pub class_of : ℕ → Class
class_of byte =
    if (byte == 32) || (byte == 9) || (byte == 13) || (byte == 10) then Blank
    else (if byte == 59 then Semicolon
    else (if (byte == 40) || (byte == 41) then Parenthesis
    else Word))

-- whether the class is that of words (own)
abbrev pub is_word : Class → Bool
is_word Blank = false
is_word Semicolon = false
is_word Parenthesis = false
is_word Word = true

-- whether the byte is part of a word (own)
abbrev pub is_word_byte : ℕ → Bool
is_word_byte byte = is_word (class_of byte)

-- whether the byte goes on with a comment: all but line feed (own)
abbrev pub is_line_byte : ℕ → Bool
is_line_byte byte = not (byte == 10)

-- a letter, a digit, '-' (45) or '_' (95) (BNF)
abbrev pub is_name_byte : ℕ → Bool
is_name_byte byte = is_ascii_alphabetic byte || is_ascii_digit byte || (byte == 45) || (byte == 95)
