-- The moves of words are those of the table.
use Rattle.std.proofs.Common.{◌≡◌, ◌↔◌, ℕ, List, [], ◌∷◌, Bool, true, false, Option, Some, None, refl, sym, ap, subst}
use Rattle.std.specs.Prelude.{codes, if◌then◌else◌, option_and_then}
use Rattle.std.specs.Option.{option_map}
use Rattle.std.specs.Str.{bytes_eq}
use Rattle.std.proofs.lemmas.Option.{same_Some, none-some}
use Rattle.std.proofs.lemmas.Slice.Eq.{bytes_eq-Decides}
use Rattle.hd_world.specs.declared.moves.Move.{Move}
use Rattle.hd_world.specs.declared.moves.Move.TheVariants.{Resume, Pop, Take, Expand, Commit, Redeem, Push, Offer, Load, Pull, Flush, Ack, Stop}
use Rattle.hd_world.specs.declared.moves.StopAt.{StopAt}
use Rattle.hd_world.specs.Schedule.{stop_at, stop_of, lone_move, worker_move, expand_of, pair_move, stopped_move, move_of}
use Rattle.hd_world.specs.MoveTable as table
use Rattle.hd_world.specs.MoveTable.{IsMove}
use Rattle.hd_world.specs.MoveWords.{number_of, byte_of}

-- ---- what was chosen

-- one of two was chosen
chosen : {P : Type 0} (b : Bool) (this other : Option Move) (m : Move) → (b ≡ true → this ≡ Some m → P) → (other ≡ Some m → P)
    → (if b then this else other) ≡ Some m → P
chosen true this other m by_this by_other e = by_this refl e
chosen false this other m by_this by_other e = by_other e

-- there was a number
with_number : {P B : Type 0} (o : Option ℕ) (f : ℕ → Option B) (m : B) → ((n : ℕ) → o ≡ Some n → f n ≡ Some m → P)
    → option_and_then f o ≡ Some m → P
with_number None f m go e = absurd (none-some m e)
with_number (Some n) f m go e = go n refl e

with_last : {P A B : Type 0} (o : Option A) (f : A → B) (m : B) → ((n : A) → o ≡ Some n → f n ≡ m → P)
    → option_map f o ≡ Some m → P
with_last None f m go e = absurd (none-some m e)
with_last (Some n) f m go e = go n refl (same_Some (f n) m e)

-- a row of the table, for a name that is the row's
row : (name text : List ℕ) (args : List (List ℕ)) (x m : Move) → bytes_eq name text ≡ true → x ≡ m → IsMove (text ∷ args) x
    → IsMove (name ∷ args) m
row name text args x m is same at =
    let named : name ≡ text = (bytes_eq-Decides name text).0 is in
    subst (λ (n : List ℕ). IsMove (n ∷ args) m) (sym named) (subst (IsMove (text ∷ args)) same at)

-- the same, where the move was chosen
some_row : (name text : List ℕ) (args : List (List ℕ)) (x m : Move) → IsMove (text ∷ args) x → bytes_eq name text ≡ true
    → Some x ≡ Some m → IsMove (name ∷ args) m
some_row name text args x m at is e = row name text args x m is (same_Some x m e) at

-- ---- from words to the table

lone_row : (name : List ℕ) (m : Move) → lone_move name ≡ Some m → IsMove (name ∷ []) m
lone_row name m =
    chosen (bytes_eq name (codes "pull")) _ _ m (some_row name (codes "pull") [] Pull m table.pull)
    (chosen (bytes_eq name (codes "flush")) _ _ m (some_row name (codes "flush") [] Flush m table.flush)
    (chosen (bytes_eq name (codes "ack")) _ _ m (some_row name (codes "ack") [] Ack m table.ack)
    (λ e. absurd (none-some m e))))

worker_row : (name w : List ℕ) (m : Move) (n : ℕ) → number_of w ≡ Some n → worker_move name n ≡ Some m → IsMove (name ∷ w ∷ []) m
worker_row name w m n is =
    chosen (bytes_eq name (codes "resume")) _ _ m (some_row name (codes "resume") (w ∷ []) (Resume n None) m (table.resume is))
    (chosen (bytes_eq name (codes "pop")) _ _ m (some_row name (codes "pop") (w ∷ []) (Pop n) m (table.pop is))
    (chosen (bytes_eq name (codes "take")) _ _ m (some_row name (codes "take") (w ∷ []) (Take n) m (table.take is))
    (chosen (bytes_eq name (codes "commit")) _ _ m (some_row name (codes "commit") (w ∷ []) (Commit n) m (table.commit is))
    (chosen (bytes_eq name (codes "redeem")) _ _ m (some_row name (codes "redeem") (w ∷ []) (Redeem n) m (table.redeem is))
    (chosen (bytes_eq name (codes "push")) _ _ m (some_row name (codes "push") (w ∷ []) (Push n) m (table.push is))
    (chosen (bytes_eq name (codes "offer")) _ _ m (some_row name (codes "offer") (w ∷ []) (Offer n) m (table.offer is))
    (chosen (bytes_eq name (codes "load")) _ _ m (some_row name (codes "load") (w ∷ []) (Load n) m (table.load is))
    (λ e. absurd (none-some m e)))))))))

expand_row : (name a b : List ℕ) (m : Move) → bytes_eq name (codes "expand") ≡ true → expand_of a b ≡ Some m → IsMove (name ∷ a ∷ b ∷ []) m
expand_row name a b m named =
    with_number (number_of a) _ m (λ worker is.
    with_last (number_of b) _ m (λ place also same.
    row name (codes "expand") (a ∷ b ∷ []) (Expand worker place) m named same (table.expand is also)))

-- the words of a stop, in parts
record IsStop (a b : List ℕ) (stop : StopAt) : Type 0 where
  pub call : number_of a ≡ Some stop.call
  pub byte : byte_of b ≡ Some stop.byte

stop_parts : (a b : List ℕ) (stop : StopAt) → stop_of a b ≡ Some stop → IsStop a b stop
stop_parts a b stop =
    with_number (number_of a) _ stop (λ call is.
    with_last (byte_of b) (stop_at call) stop (λ byte also same.
    subst (IsStop a b) same (record { call = is; byte = also })))

stop_row : (name a b : List ℕ) (m : Move) → bytes_eq name (codes "stop") ≡ true → option_map (λ s. Stop s) (stop_of a b) ≡ Some m
    → IsMove (name ∷ a ∷ b ∷ []) m
stop_row name a b m named =
    with_last (stop_of a b) (λ s. Stop s) m (λ stop is same.
    let parts = stop_parts a b stop is in
    row name (codes "stop") (a ∷ b ∷ []) (Stop stop) m named same (table.stop parts.call parts.byte))

pair_row : (name a b : List ℕ) (m : Move) → pair_move name a b ≡ Some m → IsMove (name ∷ a ∷ b ∷ []) m
pair_row name a b m =
    chosen (bytes_eq name (codes "expand")) _ _ m (expand_row name a b m)
    (chosen (bytes_eq name (codes "stop")) _ _ m (stop_row name a b m)
    (λ e. absurd (none-some m e)))

resume_row : (name a b c : List ℕ) (m : Move) → bytes_eq name (codes "resume") ≡ true
    → option_and_then (λ w. option_map (λ stop. Resume w (Some stop)) (stop_of b c)) (number_of a) ≡ Some m → IsMove (name ∷ a ∷ b ∷ c ∷ []) m
resume_row name a b c m named =
    with_number (number_of a) _ m (λ workers is.
    with_last (stop_of b c) (λ s. Resume workers (Some s)) m (λ stop also same.
    let parts = stop_parts b c stop also in
    row name (codes "resume") (a ∷ b ∷ c ∷ []) (Resume workers (Some stop)) m named same (table.resume_until is parts.call parts.byte)))

stopped_row : (name a b c : List ℕ) (m : Move) → stopped_move name a b c ≡ Some m → IsMove (name ∷ a ∷ b ∷ c ∷ []) m
stopped_row name a b c m =
    chosen (bytes_eq name (codes "resume")) _ _ m (resume_row name a b c m) (λ e. absurd (none-some m e))

words_row : (words : List (List ℕ)) (m : Move) → move_of words ≡ Some m → IsMove words m
words_row [] m e = absurd (none-some m e)
words_row (name ∷ []) m e = lone_row name m e
words_row (name ∷ a ∷ []) m e = with_number (number_of a) (worker_move name) m (worker_row name a m) e
words_row (name ∷ a ∷ b ∷ []) m e = pair_row name a b m e
words_row (name ∷ a ∷ b ∷ c ∷ []) m e = stopped_row name a b c m e
words_row (name ∷ a ∷ b ∷ c ∷ d ∷ more) m e = absurd (none-some m e)

-- ---- and back

row_words : {words : List (List ℕ)} {m : Move} → IsMove words m → move_of words ≡ Some m
row_words (table.resume is) = ap (option_and_then (worker_move (codes "resume"))) is
row_words (table.resume_until is also last) = rw (is, also, last) refl
row_words (table.pop is) = ap (option_and_then (worker_move (codes "pop"))) is
row_words (table.take is) = ap (option_and_then (worker_move (codes "take"))) is
row_words (table.expand is also) = rw (is, also) refl
row_words (table.commit is) = ap (option_and_then (worker_move (codes "commit"))) is
row_words (table.redeem is) = ap (option_and_then (worker_move (codes "redeem"))) is
row_words (table.push is) = ap (option_and_then (worker_move (codes "push"))) is
row_words (table.offer is) = ap (option_and_then (worker_move (codes "offer"))) is
row_words (table.load is) = ap (option_and_then (worker_move (codes "load"))) is
row_words table.pull = refl
row_words table.flush = refl
row_words table.ack = refl
row_words (table.stop is also) = rw (is, also) refl

pub moves_tabled : (words : List (List ℕ)) (m : Move) → (move_of words ≡ Some m) ↔ IsMove words m
moves_tabled words m = (words_row words m, row_words)
