-- What a schedule says, line by line. All of it is a rule of this project.
use Rattle.std.specs.Prelude.{◌≡◌, ℕ, ◌+◌, List, [], ◌∷◌, map, position, Bool, true, false, ◌==◌, Option, Some, None, option_and_then, Result, Ok, Err, if◌then◌else◌, codes}
use Rattle.std.specs.List.{slice_split, filter_map}
use Rattle.std.specs.Option.{option_map}
use Rattle.std.specs.Str.{bytes_eq}
use Rattle.hd_world.specs.declared.schedule_line.Said.{Said}
use Rattle.hd_world.specs.declared.schedule_line.Said.TheVariants as said
use Rattle.hd_world.specs.declared.moves.Move.{Move}
use Rattle.hd_world.specs.declared.moves.Move.TheVariants.{Resume, Pop, Take, Expand, Commit, Redeem, Push, Offer, Load, Pull, Flush, Ack, Stop}
use Rattle.hd_world.specs.declared.moves.StopAt.{StopAt}
use Rattle.hd_world.specs.declared.schedule_error.ScheduleError.{ScheduleError}
use Rattle.hd_world.specs.declared.schedule_error.ScheduleError.TheVariants.{BadLine, NoMemory}
use Rattle.hd_world.specs.MoveWords.{words_of, number_of, byte_of}

-- ---- the words of a move

-- a stop in the call of this number, after which each byte that is not sure reads this one
abbrev pub stop_at : ℕ → ℕ → StopAt
stop_at call byte = record { call = call; byte = byte }

-- a word alone
abbrev pub lone_move : List ℕ → Option Move
lone_move name =
    if bytes_eq name (codes "pull") then Some Pull
    else (if bytes_eq name (codes "flush") then Some Flush
    else (if bytes_eq name (codes "ack") then Some Ack
    else None))

-- a word and a worker's number, or for 'resume' the number of workers
abbrev pub worker_move : List ℕ → ℕ → Option Move
worker_move name worker =
    if bytes_eq name (codes "resume") then Some (Resume worker None)
    else (if bytes_eq name (codes "pop") then Some (Pop worker)
    else (if bytes_eq name (codes "take") then Some (Take worker)
    else (if bytes_eq name (codes "commit") then Some (Commit worker)
    else (if bytes_eq name (codes "redeem") then Some (Redeem worker)
    else (if bytes_eq name (codes "push") then Some (Push worker)
    else (if bytes_eq name (codes "offer") then Some (Offer worker)
    else (if bytes_eq name (codes "load") then Some (Load worker)
    else None)))))))

-- the stop that the number of a call and a byte say
abbrev pub stop_of : List ℕ → List ℕ → Option StopAt
stop_of call byte = option_and_then (λ c. option_map (stop_at c) (byte_of byte)) (number_of call)

-- the expansion of a worker at a place
abbrev pub expand_of : List ℕ → List ℕ → Option Move
expand_of worker place = option_and_then (λ w. option_map (λ k. Expand w k) (number_of place)) (number_of worker)

-- 'expand', a worker and a place; or 'stop', a call and a byte
abbrev pub pair_move : List ℕ → List ℕ → List ℕ → Option Move
pair_move name first second =
    if bytes_eq name (codes "expand") then expand_of first second
    else (if bytes_eq name (codes "stop") then option_map (λ stop. Stop stop) (stop_of first second)
    else None)

-- 'resume', a number of workers, a call and a byte
abbrev pub stopped_move : List ℕ → List ℕ → List ℕ → List ℕ → Option Move
stopped_move name workers call byte =
    if bytes_eq name (codes "resume")
    then option_and_then (λ w. option_map (λ stop. Resume w (Some stop)) (stop_of call byte)) (number_of workers)
    else None

-- the move that these words are, if they are one
abbrev pub move_of : List (List ℕ) → Option Move
move_of [] = None
move_of (name ∷ []) = lone_move name
move_of (name ∷ a ∷ []) = option_and_then (worker_move name) (number_of a)
move_of (name ∷ a ∷ b ∷ []) = pair_move name a b
move_of (name ∷ a ∷ b ∷ c ∷ []) = stopped_move name a b c
move_of (name ∷ a ∷ b ∷ c ∷ d ∷ more) = None

-- ---- a line

-- the word begins a comment: ';' (59) stands first
abbrev pub begins_comment : List ℕ → Bool
begins_comment [] = false
begins_comment (first ∷ rest) = first == 59

-- a move, or a bad line
abbrev pub move_or_bad : Option Move → Said
move_or_bad (Some move) = said.Move move
move_or_bad None = said.Bad

-- no words, or a comment from the first one on, say nothing; all others are a move, or bad
abbrev pub said_by : List (List ℕ) → Said
said_by [] = said.Silent
said_by (word ∷ words) = if begins_comment word then said.Silent else move_or_bad (move_of (word ∷ words))

-- what a line says
unfoldable pub said_of : List ℕ → Said
said_of line = said_by (words_of line)

-- ---- a text

-- the line feed (10)
abbrev pub is_line_feed : ℕ → Bool
is_line_feed byte = byte == 10

-- what the lines of a text say, in order. After its last line feed stands one more, which says
-- nothing where it is empty
abbrev pub all_said : List ℕ → List Said
all_said text = map said_of (slice_split is_line_feed text)

-- a line is bad: it has words that are no comment and no move
abbrev pub is_bad : Said → Bool
is_bad said.Silent = false
is_bad (said.Move move) = false
is_bad said.Bad = true

-- the move that a line says, if it says one
abbrev pub move_in : Said → Option Move
move_in said.Silent = None
move_in (said.Move move) = Some move
move_in said.Bad = None

-- the moves, or the number of the first bad line, counted from 1
abbrev pub moves_or_line : Option ℕ → List Move → Result (List Move) ℕ
moves_or_line None moves = Ok moves
moves_or_line (Some before) moves = Err (before + 1)

-- the moves of the lines of a text, or its first bad line
abbrev pub schedule_of : List ℕ → Result (List Move) ℕ
schedule_of text = moves_or_line (position is_bad (all_said text)) (filter_map move_in (all_said text))

-- the fault of a text: its first bad line; lack of memory is none
abbrev pub IsScheduleFault : List ℕ → ScheduleError → Type 0
IsScheduleFault text (BadLine line) = schedule_of text ≡ Err line
IsScheduleFault text NoMemory = ⊥
