-- The table of moves: which words are which move. (A rule of this project.)
use Rattle.std.specs.Prelude.{◌≡◌, ℕ, List, [], ◌∷◌, Some, None, codes}
use Rattle.hd_world.specs.declared.moves.Move.{Move}
use Rattle.hd_world.specs.declared.moves.Move.TheVariants.{Resume, Pop, Take, Expand, Commit, Redeem, Push, Offer, Load, Pull, Flush, Ack, Stop}
use Rattle.hd_world.specs.Schedule.{stop_at}
use Rattle.hd_world.specs.MoveWords.{number_of, byte_of}

-- these words are this move
pub data IsMove : List (List ℕ) → Move → Type 0 where
  -- resume W
  resume : {w : List ℕ} {workers : ℕ} → number_of w ≡ Some workers → IsMove (codes "resume" ∷ w ∷ []) (Resume workers None)
  -- resume W C F
  resume_until : {w c f : List ℕ} {workers call byte : ℕ} → number_of w ≡ Some workers → number_of c ≡ Some call → byte_of f ≡ Some byte
      → IsMove (codes "resume" ∷ w ∷ c ∷ f ∷ []) (Resume workers (Some (stop_at call byte)))
  -- pop W
  pop : {w : List ℕ} {worker : ℕ} → number_of w ≡ Some worker → IsMove (codes "pop" ∷ w ∷ []) (Pop worker)
  -- take W
  take : {w : List ℕ} {worker : ℕ} → number_of w ≡ Some worker → IsMove (codes "take" ∷ w ∷ []) (Take worker)
  -- expand W K
  expand : {w k : List ℕ} {worker place : ℕ} → number_of w ≡ Some worker → number_of k ≡ Some place
      → IsMove (codes "expand" ∷ w ∷ k ∷ []) (Expand worker place)
  -- commit W
  commit : {w : List ℕ} {worker : ℕ} → number_of w ≡ Some worker → IsMove (codes "commit" ∷ w ∷ []) (Commit worker)
  -- redeem W
  redeem : {w : List ℕ} {worker : ℕ} → number_of w ≡ Some worker → IsMove (codes "redeem" ∷ w ∷ []) (Redeem worker)
  -- push W
  push : {w : List ℕ} {worker : ℕ} → number_of w ≡ Some worker → IsMove (codes "push" ∷ w ∷ []) (Push worker)
  -- offer W
  offer : {w : List ℕ} {worker : ℕ} → number_of w ≡ Some worker → IsMove (codes "offer" ∷ w ∷ []) (Offer worker)
  -- load W
  load : {w : List ℕ} {worker : ℕ} → number_of w ≡ Some worker → IsMove (codes "load" ∷ w ∷ []) (Load worker)
  -- pull
  pull : IsMove (codes "pull" ∷ []) Pull
  -- flush
  flush : IsMove (codes "flush" ∷ []) Flush
  -- ack
  ack : IsMove (codes "ack" ∷ []) Ack
  -- stop C F
  stop : {c f : List ℕ} {call byte : ℕ} → number_of c ≡ Some call → byte_of f ≡ Some byte
      → IsMove (codes "stop" ∷ c ∷ f ∷ []) (Stop (stop_at call byte))
