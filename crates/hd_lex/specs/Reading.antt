-- What the private functions of this crate give, as functions (all own). Public contracts cite
-- `Word` and `Text` in their place.
use Rattle.std.specs.Prelude.{◌≡◌, ℕ, ◌+◌, List, [], ◌∷◌, ◌++◌, length, map, ◌==◌, ◌&&◌, nat_le, if◌then◌else◌, Option, Some, None, Result, Ok, Err, ℤ, pos, neg_ℤ}
use Rattle.std.specs.Char.{is_ascii_alphabetic, is_ascii_digit, to_ascii_lowercase}
use Rattle.std.specs.Str.Parse.{digits_value}
use Rattle.hd_base.specs.Results.{◌>>=◌}
use Rattle.hd_lex.specs.Text.{Placed, AreWords}
use Rattle.hd_lex.specs.Word.{is_name, begins_with_digit, is_number}
use Rattle.hd_lex.specs.declared.word.TheConstants.{LONGEST_NAME}
use Rattle.hd_lex.specs.declared.error.LexError.{LexError}
use Rattle.hd_lex.specs.declared.error.LexError.TheVariants.{BadByte, BadNumber, NameTooLong, NoMemory}
use Rattle.hd_lex.specs.declared.token.Token.{Token}
use Rattle.hd_lex.specs.declared.token.Word.{Word}
use Rattle.hd_lex.specs.declared.token.Word.TheVariants.{OpenParenthesis, CloseParenthesis, Name, Variable, Keyword, Number, SignedNumber}
use Rattle.hd_lex.specs.declared.token.Word.TheVariants as words
use Rattle.hd_lex.specs.declared.token.Operator.TheVariants.{Plus, Minus, Times, Divide, Less, LessOrEqual, Equal, GreaterOrEqual, Greater}

-- the error is lack of memory, which may befall any call, or the one that the meaning is
abbrev pub IsFailure : {A : Type 0} → LexError → Result A LexError → Type 0
IsFailure NoMemory meaning = Unit {0}
IsFailure (BadByte at) meaning = meaning ≡ Err (BadByte at)
IsFailure (BadNumber at) meaning = meaning ≡ Err (BadNumber at)
IsFailure (NameTooLong at) meaning = meaning ≡ Err (NameTooLong at)

-- the name that the bytes spell, or the fault at this place where they spell none
unfoldable pub name_of : ℕ → List ℕ → Result (List ℕ) LexError
name_of at bytes =
    if is_name bytes
    then (if nat_le (length bytes) LONGEST_NAME then Ok (map to_ascii_lowercase bytes) else Err (NameTooLong at))
    else Err (BadByte at)

-- the number that the digits write, or a fault where they are none
unfoldable pub number_of : ℕ → List ℕ → Result ℤ LexError
number_of at bytes = if is_number bytes then Ok (pos (digits_value 10 bytes)) else Err (BadNumber at)

-- the same number below zero
unfoldable pub negative_of : ℕ → List ℕ → Result ℤ LexError
negative_of at bytes = if is_number bytes then Ok (neg_ℤ (pos (digits_value 10 bytes))) else Err (BadNumber at)

-- the sign that these bytes are: ( ) + - * / < = > <= >=
abbrev pub sign_of : List ℕ → Option Word
sign_of [] = None
sign_of (x ∷ []) =
    if x == 40 then Some OpenParenthesis
    else (if x == 41 then Some CloseParenthesis
    else (if x == 43 then Some (words.Operator Plus)
    else (if x == 45 then Some (words.Operator Minus)
    else (if x == 42 then Some (words.Operator Times)
    else (if x == 47 then Some (words.Operator Divide)
    else (if x == 60 then Some (words.Operator Less)
    else (if x == 61 then Some (words.Operator Equal)
    else (if x == 62 then Some (words.Operator Greater)
    else None))))))))
sign_of (x ∷ y ∷ []) =
    if (x == 60) && (y == 61) then Some (words.Operator LessOrEqual)
    else (if (x == 62) && (y == 61) then Some (words.Operator GreaterOrEqual)
    else None)
sign_of (x ∷ y ∷ z ∷ rest) = None

-- the sign, or a fault if there is none
abbrev pub sign_or_fault : ℕ → Option Word → Result Word LexError
sign_or_fault at None = Err (BadByte at)
sign_or_fault at (Some word) = Ok word

-- a word made of what was read, or the same fault
abbrev pub word_by : {A : Type 0} → (A → Word) → Result A LexError → Result Word LexError
word_by make (Ok x) = Ok (make x)
word_by make (Err error) = Err error

-- what the word at this place is, or its fault
unfoldable pub word_of : ℕ → List ℕ → Result Word LexError
word_of at [] = Err (BadByte at)
word_of at (x ∷ xs) =
    if is_ascii_alphabetic x then word_by Name (name_of at (x ∷ xs))
    else (if x == 63 then word_by Variable (name_of at xs)
    else (if x == 58 then word_by Keyword (name_of at xs)
    else (if is_ascii_digit x then word_by Number (number_of at (x ∷ xs))
    else (if (x == 45) && begins_with_digit xs then word_by SignedNumber (negative_of at xs)
    else sign_or_fault at (sign_of (x ∷ xs))))))

-- the token of a word: its place, the place after it, and what it is
abbrev pub token_of : Placed → Result Token LexError
token_of w = word_of w.at w.bytes >>= λ word. Ok (record { from = w.at; to = w.at + length w.bytes; word = word })

-- the tokens of words, or the fault of the first bad one
unfoldable pub tokens_of : List Placed → Result (List Token) LexError
tokens_of [] = Ok []
tokens_of (w ∷ ws) = token_of w >>= λ token. tokens_of ws >>= λ tokens. Ok (token ∷ tokens)

-- the words of the text from this place on say this: their tokens, or the fault of the first bad
-- one
pub record Says (at : ℕ) (text : List ℕ) (said : Result (List Token) LexError) : Type 0 where
  pub words : List Placed
  pub are_words : AreWords at text words
  pub tokens : tokens_of words ≡ said

-- an error that a call may tell of the text from this place on: lack of memory, or the fault of the
-- first bad word
abbrev pub IsRefusal : ℕ → List ℕ → LexError → Type 0
IsRefusal at text NoMemory = Unit {0}
IsRefusal at text (BadByte place) = Says at text (Err (BadByte place))
IsRefusal at text (BadNumber place) = Says at text (Err (BadNumber place))
IsRefusal at text (NameTooLong place) = Says at text (Err (NameTooLong place))

-- a token or none, as a list
abbrev pub listed : Option Token → List Token
listed None = []
listed (Some token) = token ∷ []

-- tokens that were read, and then what the rest says
abbrev pub with_front : List Token → Result (List Token) LexError → Result (List Token) LexError
with_front front said = said >>= λ tokens. Ok (front ++ tokens)

-- these tokens were read up to where the rest begins: whatever words the rest has, the text says
-- these tokens and then theirs
abbrev pub IsReadTo : ℕ → List ℕ → List Token → ℕ → List ℕ → Type 0
IsReadTo at text front to rest =
    (words : List Placed) → AreWords to rest words → Says at text (with_front front (tokens_of words))
