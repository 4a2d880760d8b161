-- How errors are printed.
use Rattle.std.specs.Prelude.{ℕ, List, ◌++◌, codes, decimal}
use Rattle.hd_lex.specs.declared.error.LexError.{LexError}
use Rattle.hd_lex.specs.declared.error.LexError.TheVariants.{BadByte, BadNumber, NameTooLong, NoMemory}

-- the printed form: the refusal's number, its name, and the place in decimal (a rule of this
-- project)
abbrev pub text_of : LexError → List ℕ
text_of (BadByte at) = codes "1 BadByte(" ++ decimal at ++ codes ")"
text_of (BadNumber at) = codes "2 BadNumber(" ++ decimal at ++ codes ")"
text_of (NameTooLong at) = codes "3 NameTooLong(" ++ decimal at ++ codes ")"
text_of NoMemory = codes "NoMemory"
