-- What is printed is read back.
use Rattle.std.proofs.Common.{◌≡◌, ℕ, ◌<◌, ◌^◌, List, [], ◌∷◌, ◌++◌, length, map, Bool, true, false, not, Some, None, Ok, refl, ap, ap₂, ◌∙◌, append_assoc, arith}
use Rattle.std.specs.Prelude.{◌/◌, ◌%◌, codes, decimal, filter, option_and_then}
use Rattle.std.specs.Char.{is_ascii_digit, is_ascii_hexdigit}
use Rattle.std.specs.List.{list_all, slice_split, onto_first, filter_map, position, position_or_len, AllByRecursion}
use Rattle.std.proofs.lemmas.Bool.{and_parts, and_from, not-true}
use Rattle.std.proofs.lemmas.Bool.Decides.{nat_tests}
use Rattle.std.proofs.lemmas.List.Folds.{list_all-append}
use Rattle.std.proofs.lemmas.List.Splits.{slice_split-cons_yes, slice_split-cons_no}
use Rattle.hd_world.specs.declared.schedule_line.Said.{Said}
use Rattle.hd_world.specs.declared.schedule_line.Said.TheVariants as said
use Rattle.hd_world.specs.declared.moves.Move.{Move}
use Rattle.hd_world.specs.declared.moves.Move.TheVariants.{Resume, Pop, Take, Expand, Commit, Redeem, Push, Offer, Load, Pull, Flush, Ack, Stop}
use Rattle.hd_world.specs.declared.moves.StopAt.{StopAt}
use Rattle.hd_world.specs.MoveText.{byte_text, stop_text, move_text, moves_text, IsShortNumber, IsShortStop, IsShort}
use Rattle.hd_world.specs.Schedule.{worker_move, move_of, begins_comment, move_or_bad, said_by, said_of, is_line_feed, all_said, is_bad, move_in, moves_or_line, schedule_of}
use Rattle.hd_world.specs.MoveWords.{is_blank, is_line_word, words_of}
use Rattle.hd_world.proofs.ScheduleLines.{all_good}
use Rattle.hd_world.proofs.ScheduleNumbers.{decimal-digits, decimal-word, number-decimal, digit_char-hex, byte-read}

-- ---- splitting

-- no part ends where no byte passes
split_none : (p : ℕ → Bool) (xs : List ℕ) → list_all (λ x. not (p x)) xs ≡ true → slice_split p xs ≡ xs ∷ []
split_none p [] plain = refl
split_none p (x ∷ xs) plain =
    let parts = and_parts (not (p x)) (list_all (λ y. not (p y)) xs) plain in
    let other : p x ≡ false = not-true (p x) parts.0 in
    slice_split-cons_no p x xs other ∙ ap (onto_first x) (split_none p xs parts.1)

-- the first part ends at the first byte that passes
split_first : (p : ℕ → Bool) (xs ys : List ℕ) (y : ℕ) → list_all (λ x. not (p x)) xs ≡ true → p y ≡ true
    → slice_split p (xs ++ (y ∷ ys)) ≡ xs ∷ slice_split p ys
split_first p [] ys y plain passes = slice_split-cons_yes p y ys passes
split_first p (x ∷ xs) ys y plain passes =
    let parts = and_parts (not (p x)) (list_all (λ z. not (p z)) xs) plain in
    let other : p x ≡ false = not-true (p x) parts.0 in
    slice_split-cons_no p x (xs ++ (y ∷ ys)) other ∙ ap (onto_first x) (split_first p xs ys y parts.1 passes)

-- ---- words

-- no blank
abbrev pub is_plain : ℕ → Bool
is_plain byte = not (is_blank byte)

-- a word, of bytes that are no blanks
record IsPlainWord (word : List ℕ) : Type 0 where
  pub some : is_line_word word ≡ true
  pub plain : list_all is_plain word ≡ true

kept_word : (word : List ℕ) (parts words : List (List ℕ)) → is_line_word word ≡ true → filter is_line_word parts ≡ words
    → filter is_line_word (word ∷ parts) ≡ word ∷ words
kept_word word parts words some rest = rw (some, rest) refl

word_alone : (word : List ℕ) → IsPlainWord word → words_of word ≡ word ∷ []
word_alone word is = ap (filter is_line_word) (split_none is_blank word is.plain) ∙ kept_word word [] [] is.some refl

word_first : (word rest : List ℕ) (words : List (List ℕ)) → IsPlainWord word → words_of rest ≡ words
    → words_of (word ++ (32 ∷ rest)) ≡ word ∷ words
word_first word rest words is more =
    ap (filter is_line_word) (split_first is_blank word rest 32 is.plain refl) ∙ kept_word word (slice_split is_blank rest) words is.some more

all_weaker : (p q : ℕ → Bool) → ((x : ℕ) → p x ≡ true → q x ≡ true) → (xs : List ℕ) → list_all p xs ≡ true → list_all q xs ≡ true
all_weaker p q weaker [] e = refl
all_weaker p q weaker (x ∷ xs) e =
    let parts = and_parts (p x) (list_all p xs) e in
    and_from _ _ (weaker x parts.0) (all_weaker p q weaker xs parts.1)

digit-plain : (x : ℕ) → is_ascii_digit x ≡ true → is_plain x ≡ true
digit-plain x e = grind (arith, nat_tests)

hex-plain : (x : ℕ) → is_ascii_hexdigit x ≡ true → is_plain x ≡ true
hex-plain x e = grind (arith, nat_tests)

number_word : (n : ℕ) → IsShortNumber n → IsPlainWord (decimal n)
number_word n short = record {
  some = decimal-word n short;
  plain = all_weaker is_ascii_digit is_plain digit-plain (decimal n) (decimal-digits n short);
}

bytes-hex : (byte : ℕ) → byte < 2 ^ 8 → list_all is_ascii_hexdigit (byte_text byte) ≡ true
bytes-hex byte small =
    and_from _ _ (digit_char-hex (byte / 16) (omega arith)) (and_from _ _ (digit_char-hex (byte % 16) (omega arith)) refl)

byte_word : (byte : ℕ) → byte < 2 ^ 8 → IsPlainWord (byte_text byte)
byte_word byte small = record {
  some = refl;
  plain = all_weaker is_ascii_hexdigit is_plain hex-plain (byte_text byte) (bytes-hex byte small);
}

-- ---- the words of moves

stop_words : (stop : StopAt) → IsShortStop stop → words_of (stop_text stop) ≡ decimal stop.call ∷ byte_text stop.byte ∷ []
stop_words stop is =
    word_first (decimal stop.call) (byte_text stop.byte) (byte_text stop.byte ∷ []) (number_word stop.call is.call)
    (word_alone (byte_text stop.byte) (byte_word stop.byte is.byte))

-- a line is what its words say
by_words : (line name : List ℕ) (args : List (List ℕ)) → begins_comment name ≡ false → words_of line ≡ name ∷ args
    → said_of line ≡ move_or_bad (move_of (name ∷ args))
unfolding said_of
by_words line name args silent words = ap said_by words ∙ rw silent refl

-- a name and a number
worker_said : (name : List ℕ) (n : ℕ) (move : Move) → IsPlainWord name → begins_comment name ≡ false → IsShortNumber n
    → worker_move name n ≡ Some move → said_of (name ++ (32 ∷ decimal n)) ≡ said.Move move
worker_said name n move is silent short move_is =
    let words = word_first name (decimal n) (decimal n ∷ []) is (word_alone (decimal n) (number_word n short)) in
    by_words (name ++ (32 ∷ decimal n)) name (decimal n ∷ []) silent words
    ∙ (ap (λ x. move_or_bad (option_and_then (worker_move name) x)) (number-decimal n short) ∙ ap move_or_bad move_is)

plain_name : (word : List ℕ) → is_line_word word ≡ true → list_all is_plain word ≡ true → IsPlainWord word
plain_name word some plain = record { some = some; plain = plain }

expand_said : (worker place : ℕ) → IsShortNumber worker → IsShortNumber place
    → said_of (move_text (Expand worker place)) ≡ said.Move (Expand worker place)
expand_said worker place short also =
    let last = word_alone (decimal place) (number_word place also) in
    let behind = word_first (decimal worker) (decimal place) (decimal place ∷ []) (number_word worker short) last in
    let words = word_first (codes "expand") (decimal worker ++ (32 ∷ decimal place)) (decimal worker ∷ decimal place ∷ [])
    (plain_name (codes "expand") refl refl) behind in
    by_words (move_text (Expand worker place)) (codes "expand") (decimal worker ∷ decimal place ∷ []) refl words
    ∙ rw (number-decimal worker short, number-decimal place also) refl

stop_said : (stop : StopAt) → IsShortStop stop → said_of (move_text (Stop stop)) ≡ said.Move (Stop stop)
stop_said stop is =
    let words = word_first (codes "stop") (stop_text stop) (decimal stop.call ∷ byte_text stop.byte ∷ [])
    (plain_name (codes "stop") refl refl) (stop_words stop is) in
    by_words (move_text (Stop stop)) (codes "stop") (decimal stop.call ∷ byte_text stop.byte ∷ []) refl words
    ∙ rw (number-decimal stop.call is.call, byte-read stop.byte is.byte) refl

stopped_said : (workers : ℕ) (stop : StopAt) → IsShortNumber workers → IsShortStop stop
    → said_of (move_text (Resume workers (Some stop))) ≡ said.Move (Resume workers (Some stop))
stopped_said workers stop short is =
    let behind = word_first (decimal workers) (stop_text stop) (decimal stop.call ∷ byte_text stop.byte ∷ [])
    (number_word workers short) (stop_words stop is) in
    let words = word_first (codes "resume") (decimal workers ++ (32 ∷ stop_text stop)) (decimal workers ∷ decimal stop.call ∷ byte_text stop.byte ∷ [])
    (plain_name (codes "resume") refl refl) behind in
    by_words (move_text (Resume workers (Some stop))) (codes "resume") (decimal workers ∷ decimal stop.call ∷ byte_text stop.byte ∷ []) refl words
    ∙ rw (number-decimal workers short, number-decimal stop.call is.call, byte-read stop.byte is.byte) refl

-- the line that a move is printed as says this move
pub move_read : (move : Move) → IsShort move → said_of (move_text move) ≡ said.Move move
unfolding said_of
move_read (Resume workers None) is = worker_said (codes "resume") workers (Resume workers None) (plain_name (codes "resume") refl refl) refl is refl
move_read (Resume workers (Some stop)) is = stopped_said workers stop is.0 is.1
move_read (Pop worker) is = worker_said (codes "pop") worker (Pop worker) (plain_name (codes "pop") refl refl) refl is refl
move_read (Take worker) is = worker_said (codes "take") worker (Take worker) (plain_name (codes "take") refl refl) refl is refl
move_read (Expand worker place) is = expand_said worker place is.0 is.1
move_read (Commit worker) is = worker_said (codes "commit") worker (Commit worker) (plain_name (codes "commit") refl refl) refl is refl
move_read (Redeem worker) is = worker_said (codes "redeem") worker (Redeem worker) (plain_name (codes "redeem") refl refl) refl is refl
move_read (Push worker) is = worker_said (codes "push") worker (Push worker) (plain_name (codes "push") refl refl) refl is refl
move_read (Offer worker) is = worker_said (codes "offer") worker (Offer worker) (plain_name (codes "offer") refl refl) refl is refl
move_read (Load worker) is = worker_said (codes "load") worker (Load worker) (plain_name (codes "load") refl refl) refl is refl
move_read Pull is = refl
move_read Flush is = refl
move_read Ack is = refl
move_read (Stop stop) is = stop_said stop is

-- ---- lines

-- no line feed
abbrev pub is_line_byte : ℕ → Bool
is_line_byte byte = not (is_line_feed byte)

digit-line : (x : ℕ) → is_ascii_digit x ≡ true → is_line_byte x ≡ true
digit-line x e = grind (arith, nat_tests)

hex-line : (x : ℕ) → is_ascii_hexdigit x ≡ true → is_line_byte x ≡ true
hex-line x e = grind (arith, nat_tests)

number-line : (n : ℕ) → IsShortNumber n → list_all is_line_byte (decimal n) ≡ true
number-line n short = all_weaker is_ascii_digit is_line_byte digit-line (decimal n) (decimal-digits n short)

-- a number, a space, and what follows
spaced-line : (n : ℕ) (rest : List ℕ) → IsShortNumber n → list_all is_line_byte rest ≡ true
    → list_all is_line_byte (decimal n ++ (32 ∷ rest)) ≡ true
spaced-line n rest short plain = list_all-append is_line_byte (decimal n) (32 ∷ rest) ∙ and_from _ _ (number-line n short) plain

stop-line : (stop : StopAt) → IsShortStop stop → list_all is_line_byte (stop_text stop) ≡ true
stop-line stop is =
    spaced-line stop.call (byte_text stop.byte) is.call
    (all_weaker is_ascii_hexdigit is_line_byte hex-line (byte_text stop.byte) (bytes-hex stop.byte is.byte))

move-line : (move : Move) → IsShort move → list_all is_line_byte (move_text move) ≡ true
move-line (Resume workers None) is = number-line workers is
move-line (Resume workers (Some stop)) is = spaced-line workers (stop_text stop) is.0 (stop-line stop is.1)
move-line (Pop worker) is = number-line worker is
move-line (Take worker) is = number-line worker is
move-line (Expand worker place) is = spaced-line worker (decimal place) is.0 (number-line place is.1)
move-line (Commit worker) is = number-line worker is
move-line (Redeem worker) is = number-line worker is
move-line (Push worker) is = number-line worker is
move-line (Offer worker) is = number-line worker is
move-line (Load worker) is = number-line worker is
move-line Pull is = refl
move-line Flush is = refl
move-line Ack is = refl
move-line (Stop stop) is = stop-line stop is

-- ---- a whole text

-- what the lines of moves say: the moves, and nothing after them
abbrev pub said_moves : List Move → List Said
said_moves moves = map (λ m. said.Move m) moves ++ (said.Silent ∷ [])

text_said : (moves : List Move) → AllByRecursion IsShort moves → all_said (moves_text moves) ≡ said_moves moves
unfolding said_of
text_said [] are = refl
text_said (m ∷ ms) are =
    let rest : List ℕ = moves_text ms in
    let lines : slice_split is_line_feed (moves_text (m ∷ ms)) ≡ move_text m ∷ slice_split is_line_feed rest =
    ap (slice_split is_line_feed) (append_assoc (move_text m) (10 ∷ []) rest)
    ∙ split_first is_line_feed (move_text m) rest 10 (move-line m are.0) refl in
    ap (map said_of) lines
    ∙ ap₂ (λ (x : Said) (xs : List Said). x ∷ xs) (move_read m are.0) (text_said ms are.1)

moves-good : (moves : List Move) → position_or_len is_bad (said_moves moves) ≡ length (said_moves moves)
moves-good [] = refl
moves-good (m ∷ ms) = let more = moves-good ms in omega (arith, more)

moves-in : (moves : List Move) → filter_map move_in (said_moves moves) ≡ moves
moves-in [] = refl
moves-in (m ∷ ms) = ap (λ l. m ∷ l) (moves-in ms)

-- the lines of moves are a schedule of just these
pub moves_read : (moves : List Move) → AllByRecursion IsShort moves → schedule_of (moves_text moves) ≡ Ok moves
moves_read moves are =
    ap (λ all. moves_or_line (position is_bad all) (filter_map move_in all)) (text_said moves are)
    ∙ (all_good (said_moves moves) (filter_map move_in (said_moves moves)) (moves-good moves)
    ∙ ap (λ l. Ok l) (moves-in moves))
