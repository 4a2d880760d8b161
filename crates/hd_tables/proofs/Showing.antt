-- What a table shows after a step.
use Rattle.std.proofs.Common.{◌≡◌, ℕ, ◌+◌, ◌<◌, min, Bool, false, List, [], ◌∷◌, ◌++◌, length, set, refl, ap, ◌∙◌, arith}
use Rattle.std.proofs.lemmas.List.{length_push}
use Rattle.hd_tables.specs.Chunks.{ChunksView}
use Rattle.hd_tables.specs.Bits.{BitsView}
use Rattle.hd_task.specs.declared.plan.Kid.{Kid}
use Rattle.hd_tables.specs.Kids.{KidsView, with_mark_at, with_new_entry, with_kid}
use Rattle.hd_tables.specs.Places.{kids_by, shown, AreKids}
use Rattle.hd_tables.proofs.Placing.{kids_entered, kids_posted}

same_view : {ks ks' : List Kid} {ms ms' : List Bool} {n n' e e' k k' : ℕ} → ks ≡ ks' → ms ≡ ms' → n ≡ n' → e ≡ e' → k ≡ k'
    → (let t : KidsView = record { kids = ks; marks = ms; entries = n; entry_room = e; kid_room = k } in t)
    ≡ record { kids = ks'; marks = ms'; entries = n'; entry_room = e'; kid_room = k' }
same_view p q r s t = λ i. record { kids = p i; marks = q i; entries = r i; entry_room = s i; kid_room = t i }

pub shown_entered : (firsts firsts' actions : ChunksView ℕ) (marks : BitsView) (first : ℕ) → first ≡ length actions.items
    → firsts'.items ≡ firsts.items ++ first ∷ [] → firsts'.room + 1 ≡ firsts.room → shown firsts' actions marks ≡ with_new_entry (shown firsts actions marks)
shown_entered firsts firsts' actions marks first is grown room =
    let items : firsts'.items ≡ firsts.items ++ length actions.items ∷ [] = grown ∙ ap (λ (n : ℕ). firsts.items ++ n ∷ []) is in
    same_view
    (ap (λ (fs : List ℕ). kids_by fs actions.items) items ∙ kids_entered firsts.items actions.items)
    refl
    (ap length items ∙ length_push firsts.items (length actions.items))
    (omega (arith, room))
    refl

pub shown_posted : (firsts actions actions' : ChunksView ℕ) (marks marks' : BitsView) (settled a : ℕ) → AreKids firsts.items actions.items marks.items settled
    → 0 < length firsts.items → actions'.items ≡ actions.items ++ a ∷ [] → actions'.room + 1 ≡ actions.room
    → marks'.items ≡ marks.items ++ false ∷ [] → marks'.room + 1 ≡ marks.room → shown firsts actions' marks' ≡ with_kid (shown firsts actions marks) a
shown_posted firsts actions actions' marks marks' settled a h some grown room marked space =
    same_view
    (ap (kids_by firsts.items) grown ∙ kids_posted firsts.items actions.items a some h.ends)
    marked
    refl
    refl
    (omega (arith, room, space))

pub shown_marked : (firsts actions : ChunksView ℕ) (marks marks' : BitsView) (k : ℕ) (b : Bool) → marks'.items ≡ set marks.items k b → marks'.room ≡ marks.room
    → shown firsts actions marks' ≡ with_mark_at (shown firsts actions marks) k b
shown_marked firsts actions marks marks' k b marked room = same_view refl marked refl refl (ap (min actions.room) room)
