-- The lines of a task's actions, one more at a time.
use Rattle.std.proofs.Common.{◌≡◌, ℕ, ◌+◌, List, [], ◌∷◌, ◌++◌, append_assoc, ap, sym, ◌∙◌, arith}
use Rattle.std.specs.Prelude.{flat_map}
use Rattle.std.proofs.lemmas.Grind.{flat_map-append}
use Rattle.std.proofs.lemmas.List.{append-nil}
use Rattle.hd_base.proofs.Lists.{range_with_len_more}
use Rattle.hd_task.specs.declared.task.Task.{Task}
use Rattle.hd_task.specs.Effects.{numbers_below}
use Rattle.hplan.specs.TaskText.{numbered_line}

lines_more : (t : Task) (n : ℕ)
    → flat_map (numbered_line t) (numbers_below (n + 1)) ≡ flat_map (numbered_line t) (numbers_below n) ++ numbered_line t n
lines_more t n =
    ap (flat_map (numbered_line t)) (range_with_len_more 0 n n (omega arith))
    ∙ flat_map-append (numbered_line t) (numbers_below n) (n ∷ [])
    ∙ ap (λ xs. flat_map (numbered_line t) (numbers_below n) ++ xs) (append-nil (numbered_line t n))

-- after a text and the lines before it
pub behind_lines : (t : Task) (front before after : List ℕ) (n : ℕ)
    → before ≡ front ++ flat_map (numbered_line t) (numbers_below n) → after ≡ before ++ numbered_line t n
    → after ≡ front ++ flat_map (numbered_line t) (numbers_below (n + 1))
behind_lines t front before after n so_far more =
    let lines = flat_map (numbered_line t) (numbers_below n) in
    more
    ∙ ap (λ xs. xs ++ numbered_line t n) so_far
    ∙ append_assoc front lines (numbered_line t n)
    ∙ ap (λ xs. front ++ xs) (sym (lines_more t n))
