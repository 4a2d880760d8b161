-- How errors are printed, and what becomes of the lexer's ("own": a rule of this project).
use Rattle.std.specs.Prelude.{ℕ, List, ◌++◌, codes, decimal, string_bytes}
use Rattle.hd_lex.specs.LexError as lexer
use Rattle.hd_lex.specs.declared.error.LexError.{LexError}
use Rattle.hd_lex.specs.declared.error.LexError.TheVariants as faults
use Rattle.hd_forms.specs.declared.error.ReadError.{ReadError}
use Rattle.hd_forms.specs.declared.error.ReadError.TheVariants.{Lex, Unbalanced, Unexpected, Unsupported, TooDeep, NoMemory}

-- the printed form: the refusal's number, its name, and in parentheses its word, if it has one, and
-- its place in decimal (own)
abbrev pub text_of : ReadError → List ℕ
text_of (Lex fault) = lexer.text_of fault
text_of (Unbalanced at) = codes "4 Unbalanced(" ++ decimal at ++ codes ")"
text_of (Unexpected at) = codes "5 Unexpected(" ++ decimal at ++ codes ")"
text_of (Unsupported word at) = codes "6 Unsupported(" ++ string_bytes word ++ codes ", " ++ decimal at ++ codes ")"
text_of (TooDeep at) = codes "7 TooDeep(" ++ decimal at ++ codes ")"
text_of NoMemory = codes "NoMemory"

-- the lexer's faults are passed on as they are, and its lack of memory is the reader's (own)
abbrev pub of_lexer : LexError → ReadError
of_lexer faults.NoMemory = NoMemory
of_lexer (faults.BadByte at) = Lex (faults.BadByte at)
of_lexer (faults.BadNumber at) = Lex (faults.BadNumber at)
of_lexer (faults.NameTooLong at) = Lex (faults.NameTooLong at)
