-- The words of a text, where they stand, and the tokens or the fault that they give. All of it is a
-- rule of this project ("own"), after the BNF of PDDL 2.1 (Fox and Long 2003, its appendix), which
-- leaves open how a text is cut.
use Rattle.std.specs.Prelude.{◌≡◌, ℕ, ◌+◌, ◌<◌, ◌≤◌, List, [], ◌∷◌, ◌++◌, length, Bool, true, false, Option, Some, None, slice_range}
use Rattle.std.specs.List.{list_all, AllByRecursion, AllZip}
use Rattle.hd_lex.specs.Byte.{class_of, is_word_byte, is_line_byte}
use Rattle.hd_lex.specs.Word.{IsWord, IsBad}
use Rattle.hd_lex.specs.declared.byte.Class.TheVariants as classes
use Rattle.hd_lex.specs.declared.error.LexError.{LexError}
use Rattle.hd_lex.specs.declared.token.Token.{Token}
use Rattle.hd_lex.specs.declared.token.Word.{Word}

-- a word of a text: the place of its first byte, and its bytes (own)
pub record Placed : Type 0 where
  pub at : ℕ
  pub bytes : List ℕ

-- no byte that passes the test stands next: the text ends, or its next byte fails the test (own)
abbrev pub IsEnd : (ℕ → Bool) → List ℕ → Type 0
IsEnd test [] = Unit {0}
IsEnd test (next ∷ rest) = test next ≡ false

-- the text is a longest run of bytes that pass the test, and then the rest (own)
pub record IsRun (test : ℕ → Bool) (text run rest : List ℕ) : Type 0 where
  pub parts : text ≡ run ++ rest
  pub all : list_all test run ≡ true
  pub longest : IsEnd test rest

-- the text from this place on is blanks, comments and just these words, with nothing left over and
-- nothing twice (own)
pub data AreWords : ℕ → List ℕ → List Placed → Type 0 where
  -- the text ends
  nothing : {at : ℕ} → AreWords at [] []
  -- a blank, and what follows it
  blank : {at byte : ℕ} {rest : List ℕ} {words : List Placed}
      → class_of byte ≡ classes.Blank
      → AreWords (at + 1) rest words
      → AreWords at (byte ∷ rest) words
  -- a comment, which goes on to the end of its line, and what follows it
  comment : {at byte : ℕ} {text line rest : List ℕ} {words : List Placed}
      → class_of byte ≡ classes.Semicolon
      → IsRun is_line_byte text line rest
      → AreWords (at + 1 + length line) rest words
      → AreWords at (byte ∷ text) words
  -- a parenthesis, and what follows it
  parenthesis : {at byte : ℕ} {rest : List ℕ} {words : List Placed}
      → class_of byte ≡ classes.Parenthesis
      → AreWords (at + 1) rest words
      → AreWords at (byte ∷ rest) (record { at = at; bytes = byte ∷ [] } ∷ words)
  -- a longest run of other bytes, one or more, and what follows it
  word : {at : ℕ} {text bytes rest : List ℕ} {words : List Placed}
      → 0 < length bytes
      → IsRun is_word_byte text bytes rest
      → AreWords (at + length bytes) rest words
      → AreWords at text (record { at = at; bytes = bytes } ∷ words)

-- the token of a word: its place, the place after it, and what it is by the table (own)
pub record IsTokenOf (placed : Placed) (token : Token) : Type 0 where
  pub from : token.from ≡ placed.at
  pub to : token.to ≡ placed.at + length placed.bytes
  pub word : IsWord placed.bytes token.word

-- the tokens of a text: those of its words, one each, in order (own)
pub record AreTokens (text : List ℕ) (tokens : List Token) : Type 0 where
  pub words : List Placed
  pub are_words : AreWords 0 text words
  pub each : AllZip IsTokenOf words tokens

-- the word is in the table (own)
abbrev pub IsGood : Placed → Type 0
IsGood placed = (word : Word) × IsWord placed.bytes word

-- the fault of the first bad word: the words are good ones, a bad one with this fault, and any
-- others (own)
pub record IsFirstBadWord (words : List Placed) (error : LexError) : Type 0 where
  pub before : List Placed
  pub bad : Placed
  pub behind : List Placed
  pub parts : words ≡ before ++ (bad ∷ behind)
  pub good : AllByRecursion IsGood before
  pub fault : IsBad bad.at bad.bytes error

-- the text from this place on begins with this token, or with a blank or a comment if there is
-- none, and this rest follows at that place: whatever words the rest has, the text has them, and
-- before them the word of the token if there is one (own)
abbrev pub BeginsWithToken : ℕ → List ℕ → Option Token → ℕ → List ℕ → Type 0
BeginsWithToken at text None to rest = (words : List Placed) → AreWords to rest words → AreWords at text words
BeginsWithToken at text (Some token) to rest =
    (first : Placed) × IsTokenOf first token × ((words : List Placed) → AreWords to rest words → AreWords at text (first ∷ words))

-- the fault of a text that begins at this place: that of its first bad word (own)
pub record IsFaultFrom (at : ℕ) (text : List ℕ) (error : LexError) : Type 0 where
  pub words : List Placed
  pub are_words : AreWords at text words
  pub first : IsFirstBadWord words error

-- the fault of a whole text (own)
abbrev pub IsFault : List ℕ → LexError → Type 0
IsFault text error = IsFaultFrom 0 text error

-- each token begins where the one before ends or later, is one byte long or more, and the last ends
-- within the bound (own)
abbrev pub AreInOrder : ℕ → List Token → ℕ → Type 0
AreInOrder from [] bound = from ≤ bound
AreInOrder from (token ∷ tokens) bound =
    (from ≤ token.from) × (token.from < token.to) × AreInOrder token.to tokens bound

-- the bytes of the text from the token's first place up to its last are its word (own)
abbrev pub IsAtItsBytes : List ℕ → Token → Type 0
IsAtItsBytes text token = IsWord (slice_range text token.from token.to) token.word
