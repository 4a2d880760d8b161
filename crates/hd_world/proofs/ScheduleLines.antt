-- What the lines of a text say, as far as they were read.
use Rattle.std.proofs.Common.{◌≡◌, ℕ, ◌+◌, ◌<◌, List, [], ◌∷◌, ◌++◌, length, take, drop, get_or, map, true, false, not, Some, None, Ok, Err, refl, sym, ap, ◌∙◌, arith}
use Rattle.std.specs.List.{position, position_or_len, filter_map, slice_split}
use Rattle.std.proofs.lemmas.Bool.Decides.{nat_tests}
use Rattle.std.proofs.lemmas.List.{append-nil, length-map, take_more, take_all, take-append-drop, length-take-le, get_or-map, at_drop_more}
use Rattle.std.proofs.lemmas.List.Elements.{filter_map-append}
use Rattle.std.proofs.lemmas.List.Folds.{prefix_len-append}
use Rattle.hd_world.specs.declared.schedule_line.Said.{Said}
use Rattle.hd_world.specs.declared.schedule_line.Said.TheVariants as said
use Rattle.hd_world.specs.declared.moves.Move.{Move}
use Rattle.hd_world.specs.Schedule.{said_of, is_line_feed, all_said, is_bad, move_in, moves_or_line, schedule_of}

-- the first n lines are not bad, and these are their moves
pub record IsReadTo (all : List Said) (n : ℕ) (moves : List Move) : Type 0 where
  pub good : position_or_len is_bad (take n all) ≡ n
  pub read : moves ≡ filter_map move_in (take n all)

pub read_start : (all : List Said) → IsReadTo all 0 []
read_start all = record { good = refl; read = refl }

-- one more that is not bad
good_more : (front : List Said) (n : ℕ) (s : Said) → position_or_len is_bad front ≡ n → length front ≡ n → is_bad s ≡ false
    → position_or_len is_bad (front ++ (s ∷ [])) ≡ n + 1
good_more front n s good len fine =
    let cut = prefix_len-append (λ x. not (is_bad x)) front (s ∷ []) in
    grind (arith, nat_tests)

-- the first bad one
good_until : (front rest : List Said) (n : ℕ) (s : Said) → position_or_len is_bad front ≡ n → length front ≡ n → is_bad s ≡ true
    → position_or_len is_bad (front ++ (s ∷ rest)) ≡ n
good_until front rest n s good len bad =
    let cut = prefix_len-append (λ x. not (is_bad x)) front (s ∷ rest) in
    grind (arith, nat_tests)

-- a line that is not bad adds its move, if it has one
pub read_more : (all : List Said) (n : ℕ) (old new : List Move) (s : Said) → IsReadTo all n old → n < length all
    → get_or all n s ≡ s → is_bad s ≡ false → new ≡ old ++ filter_map move_in (s ∷ []) → IsReadTo all (n + 1) new
read_more all n old new s so_far within at fine added =
    let more : take (n + 1) all ≡ take n all ++ (s ∷ []) = take_more all n s within ∙ ap (λ x. take n all ++ (x ∷ [])) at in
    let len : length (take n all) ≡ n = length-take-le n all (omega arith) in
    record {
      good = ap (position_or_len is_bad) more ∙ good_more (take n all) n s so_far.good len fine;
      read = added ∙ (ap (λ l. l ++ filter_map move_in (s ∷ [])) so_far.read
          ∙ (sym (filter_map-append move_in (take n all) (s ∷ [])) ∙ ap (filter_map move_in) (sym more)));
    }

-- no line is bad
pub all_good : (all : List Said) (moves : List Move) → position_or_len is_bad all ≡ length all
    → moves_or_line (position is_bad all) moves ≡ Ok moves
all_good all moves good =
    let none : position is_bad all ≡ None = grind (arith, nat_tests) in ap (λ x. moves_or_line x moves) none

-- this line is the first bad one
one_bad : (all : List Said) (moves : List Move) (n : ℕ) → position_or_len is_bad all ≡ n → n < length all
    → moves_or_line (position is_bad all) moves ≡ Err (n + 1)
one_bad all moves n bad within =
    let some : position is_bad all ≡ Some n = grind (arith, nat_tests) in ap (λ x. moves_or_line x moves) some

-- all lines are read
pub read_all : (all : List Said) (n : ℕ) (moves : List Move) → IsReadTo all n moves → n ≡ length all
    → moves_or_line (position is_bad all) (filter_map move_in all) ≡ Ok moves
read_all all n moves so_far is =
    let whole : take n all ≡ all = take_all n all (omega arith) in
    let good : position_or_len is_bad all ≡ length all = ap (position_or_len is_bad) (sym whole) ∙ (so_far.good ∙ is) in
    let read : moves ≡ filter_map move_in all = so_far.read ∙ ap (filter_map move_in) whole in
    all_good all (filter_map move_in all) good ∙ ap (λ l. Ok l) (sym read)

-- the next line is bad
pub read_bad : (all : List Said) (n : ℕ) (moves : List Move) (s : Said) → IsReadTo all n moves → n < length all
    → get_or all n s ≡ s → is_bad s ≡ true → moves_or_line (position is_bad all) (filter_map move_in all) ≡ Err (n + 1)
read_bad all n moves s so_far within at bad =
    let len : length (take n all) ≡ n = length-take-le n all (omega arith) in
    let parts : all ≡ take n all ++ (s ∷ drop (n + 1) all) =
    sym (take-append-drop n all) ∙ (at_drop_more (λ l. take n all ++ l) all n s within
    ∙ ap (λ x. take n all ++ (x ∷ drop (n + 1) all)) at) in
    let first : position_or_len is_bad all ≡ n =
    ap (position_or_len is_bad) parts ∙ good_until (take n all) (drop (n + 1) all) n s so_far.good len bad in
    one_bad all (filter_map move_in all) n first within

-- ---- the loop over lines

-- the line stands at this place of the list
abbrev pub IsAt : List (List ℕ) → ℕ → List ℕ → Type 0
IsAt lines n line = (n < length lines) × (line ≡ get_or lines n line)

said_within : (lines : List (List ℕ)) (n : ℕ) (line : List ℕ) → IsAt lines n line → n < length (map said_of lines)
said_within lines n line at = rw (length-map lines said_of) at.0

said_at : (lines : List (List ℕ)) (n : ℕ) (line : List ℕ) → IsAt lines n line
    → get_or (map said_of lines) n (said_of line) ≡ said_of line
said_at lines n line at = get_or-map said_of lines n line (said_of line) at.0 ∙ ap said_of (sym at.1)

-- a silent line
pub silent_read : (text : List ℕ) (n : ℕ) (moves : List Move) (line : List ℕ) → IsReadTo (all_said text) n moves
    → IsAt (slice_split is_line_feed text) n line → said_of line ≡ said.Silent → IsReadTo (all_said text) (n + 1) moves
silent_read text n moves line so_far at is =
    let lines : List (List ℕ) = slice_split is_line_feed text in
    let added : moves ≡ moves ++ filter_map move_in (said_of line ∷ []) =
    sym (append-nil moves) ∙ ap (λ s. moves ++ filter_map move_in (s ∷ [])) (sym is) in
    read_more (all_said text) n moves moves (said_of line) so_far (said_within lines n line at) (said_at lines n line at) (ap is_bad is) added

-- a line that is a move
pub move_read : (text : List ℕ) (n : ℕ) (old new : List Move) (line : List ℕ) (m : Move) → IsReadTo (all_said text) n old
    → IsAt (slice_split is_line_feed text) n line → said_of line ≡ said.Move m → new ≡ old ++ (m ∷ [])
    → IsReadTo (all_said text) (n + 1) new
move_read text n old new line m so_far at is pushed =
    let lines : List (List ℕ) = slice_split is_line_feed text in
    let added : new ≡ old ++ filter_map move_in (said_of line ∷ []) =
    pushed ∙ ap (λ s. old ++ filter_map move_in (s ∷ [])) (sym is) in
    read_more (all_said text) n old new (said_of line) so_far (said_within lines n line at) (said_at lines n line at) (ap is_bad is) added

-- a bad line
pub bad_read : (text : List ℕ) (n : ℕ) (moves : List Move) (line : List ℕ) → IsReadTo (all_said text) n moves
    → IsAt (slice_split is_line_feed text) n line → said_of line ≡ said.Bad → schedule_of text ≡ Err (n + 1)
bad_read text n moves line so_far at is =
    let lines : List (List ℕ) = slice_split is_line_feed text in
    read_bad (all_said text) n moves (said_of line) so_far (said_within lines n line at) (said_at lines n line at) (ap is_bad is)

-- no line is left
pub text_read : (text : List ℕ) (n : ℕ) (moves : List Move) → IsReadTo (all_said text) n moves
    → n ≡ length (slice_split is_line_feed text) → schedule_of text ≡ Ok moves
text_read text n moves so_far is =
    read_all (all_said text) n moves so_far (is ∙ sym (length-map (slice_split is_line_feed text) said_of))
