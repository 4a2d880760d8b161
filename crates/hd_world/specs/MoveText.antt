-- How moves are printed. (A rule of this project.)
use Rattle.std.specs.Prelude.{ℕ, ◌<◌, ◌/◌, ◌%◌, ◌^◌, List, [], ◌∷◌, ◌++◌, flat_map, Some, None, codes, decimal}
use Rattle.std.specs.Char.{digit_char}
use Rattle.hd_world.specs.declared.moves.Move.{Move}
use Rattle.hd_world.specs.declared.moves.Move.TheVariants.{Resume, Pop, Take, Expand, Commit, Redeem, Push, Offer, Load, Pull, Flush, Ack, Stop}
use Rattle.hd_world.specs.declared.moves.StopAt.{StopAt}
use Rattle.hd_world.specs.declared.schedule_number.TheConstants.{MOST_DIGITS}

-- a byte in two hexadecimal digits
abbrev pub byte_text : ℕ → List ℕ
byte_text byte = digit_char (byte / 16) ∷ digit_char (byte % 16) ∷ []

-- a stop: its call in decimal, and its byte
abbrev pub stop_text : StopAt → List ℕ
stop_text stop = decimal stop.call ++ (codes " " ++ byte_text stop.byte)

-- the line of a move, without its end: lower case, with single spaces
abbrev pub move_text : Move → List ℕ
move_text (Resume workers None) = codes "resume " ++ decimal workers
move_text (Resume workers (Some stop)) = codes "resume " ++ (decimal workers ++ (codes " " ++ stop_text stop))
move_text (Pop worker) = codes "pop " ++ decimal worker
move_text (Take worker) = codes "take " ++ decimal worker
move_text (Expand worker place) = codes "expand " ++ (decimal worker ++ (codes " " ++ decimal place))
move_text (Commit worker) = codes "commit " ++ decimal worker
move_text (Redeem worker) = codes "redeem " ++ decimal worker
move_text (Push worker) = codes "push " ++ decimal worker
move_text (Offer worker) = codes "offer " ++ decimal worker
move_text (Load worker) = codes "load " ++ decimal worker
move_text Pull = codes "pull"
move_text Flush = codes "flush"
move_text Ack = codes "ack"
move_text (Stop stop) = codes "stop " ++ stop_text stop

-- ---- moves that a text can say

-- a number of at most 9 digits
abbrev pub IsShortNumber : ℕ → Type 0
IsShortNumber n = n < 10 ^ MOST_DIGITS

-- the call's number is of at most 9 digits, and the byte is one
pub record IsShortStop (stop : StopAt) : Type 0 where
  pub call : IsShortNumber stop.call
  pub byte : stop.byte < 2 ^ 8

-- all numbers of the move are of at most 9 digits
abbrev pub IsShort : Move → Type 0
IsShort (Resume workers None) = IsShortNumber workers
IsShort (Resume workers (Some stop)) = IsShortNumber workers × IsShortStop stop
IsShort (Pop worker) = IsShortNumber worker
IsShort (Take worker) = IsShortNumber worker
IsShort (Expand worker place) = IsShortNumber worker × IsShortNumber place
IsShort (Commit worker) = IsShortNumber worker
IsShort (Redeem worker) = IsShortNumber worker
IsShort (Push worker) = IsShortNumber worker
IsShort (Offer worker) = IsShortNumber worker
IsShort (Load worker) = IsShortNumber worker
IsShort Pull = Unit {0}
IsShort Flush = Unit {0}
IsShort Ack = Unit {0}
IsShort (Stop stop) = IsShortStop stop

-- the lines of moves, each with a line feed (10) at its end
abbrev pub move_line : Move → List ℕ
move_line move = move_text move ++ (10 ∷ [])

-- the text of moves: the line of each, in order
abbrev pub moves_text : List Move → List ℕ
moves_text moves = flat_map move_line moves
