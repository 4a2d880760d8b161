-- What a stop leaves after a sync, after one change, and after a failure.
use Rattle.std.proofs.Common.{◌≡◌, ℕ, ◌+◌, ◌<◌, ◌≤◌, List, [], ◌∷◌, length, take, get_or, max, min, Bool, true, false, not, refl, sym, ap, ◌∙◌, arith}
use Rattle.std.specs.Prelude.{◌&&◌, ◌||◌, nat_lt, ◌↔◌}
use Rattle.std.proofs.lemmas.Grind.{same_number_lists}
use Rattle.std.proofs.lemmas.Bool.{ltb-true}
use Rattle.std.proofs.lemmas.List.{length-take, get_or-take}
use Rattle.hd_store.specs.declared.change.DiskChange.{DiskChange}
use Rattle.hd_store.specs.declared.change.DiskChange.TheVariants.{Write, Cut, Sync, FailedSync}
use Rattle.hd_store.specs.Bytes.{is_in_range, IsPartOfWrite, IsPartOfCut}
use Rattle.hd_store.specs.Past.{Step, made_step, content_after, synced_after, is_written, least_after, greatest_after}
use Rattle.hd_store.specs.Stop.{MayLeave, IsAtRest, IsSynced, IsFilled, is_sure}

-- what a last sync, or a start, says of all that is kept of the past
record IsKnown (start : List ℕ) (steps : List Step) : Type 0 where
  synced : synced_after start steps ≡ content_after start steps
  clean : (place : ℕ) → is_written steps place ≡ false
  least : least_after start steps ≡ length (content_after start steps)
  greatest : greatest_after start steps ≡ length (content_after start steps)

known_by : (start : List ℕ) (before : List Step) (change : DiskChange) (now : List ℕ) → change ≡ Sync → IsKnown start (made_step change now ∷ before)
known_by start before (Write at count) now e = cc
known_by start before (Cut len) now e = cc
known_by start before Sync now e = record { synced = refl; clean = λ place. refl; least = refl; greatest = refl }
known_by start before FailedSync now e = cc

known : (start : List ℕ) (steps : List Step) → IsSynced steps → IsKnown start steps
known start [] is = record { synced = refl; clean = λ place. refl; least = refl; greatest = refl }
known start (s ∷ before) is = known_by start before s.change s.now is

first_false : (a b : Bool) → (a || b) ≡ false → a ≡ false
first_false true b e = e
first_false false b e = refl

second_false : (a b : Bool) → (a || b) ≡ false → b ≡ false
second_false true b e = cc
second_false false b e = e

pub at_rest : (start : List ℕ) (steps : List Step) → IsSynced steps → IsAtRest start steps
at_rest start steps is found left =
    let k = known start steps is in
    let same : length found ≡ length (content_after start steps) = omega (arith, left.long_enough, left.short_enough, k.least, k.greatest) in
    same_number_lists found (content_after start steps) same (λ place below.
    left.sure place below (omega (arith, same, ap length k.synced)) (k.clean place) ∙ ap (λ (xs : List ℕ). get_or xs place 0) k.synced)

pub rests : (start : List ℕ) (steps : List Step) → IsSynced steps → MayLeave start steps (content_after start steps)
rests start steps is =
    let k = known start steps is in
    record {
      long_enough = omega (arith, k.least);
      short_enough = omega (arith, k.greatest);
      sure = λ place below old clean. ap (λ (xs : List ℕ). get_or xs place 0) (sym k.synced);
    }

pub write_torn : (start : List ℕ) (steps : List Step) (at count : ℕ) (now found : List ℕ) → IsSynced steps
    → MayLeave start (made_step (Write at count) now ∷ steps) found ↔ IsPartOfWrite (content_after start steps) at count found
write_torn start steps at count now found is =
    let k = known start steps is in (
      λ left. record {
        no_shorter = omega (arith, left.long_enough, k.least);
        no_longer = omega (arith, left.short_enough, k.greatest);
        others = λ place below outside. left.sure place (omega (arith, left.long_enough, k.least)) (omega (arith, ap length k.synced))
            (ap (λ b. b || is_written steps place) outside ∙ k.clean place) ∙ ap (λ (xs : List ℕ). get_or xs place 0) k.synced;
      },
      λ part. record {
        long_enough = omega (arith, part.no_shorter, k.least);
        short_enough = omega (arith, part.no_longer, k.greatest);
        sure = λ place below old clean. part.others place (omega (arith, ap length k.synced)) (first_false _ _ clean)
            ∙ ap (λ (xs : List ℕ). get_or xs place 0) (sym k.synced);
      },
    )

pub cut_torn : (start : List ℕ) (steps : List Step) (len : ℕ) (now found : List ℕ) → IsSynced steps
    → MayLeave start (made_step (Cut len) now ∷ steps) found ↔ IsPartOfCut (content_after start steps) len found
cut_torn start steps len now found is =
    let k = known start steps is in (
      λ left.
          let kept = max len (length found) in
          let content = content_after start steps in
          let same : length found ≡ length (take kept content) =
          omega (arith, length-take kept content, left.long_enough, left.short_enough, k.least, k.greatest) in (
            kept,
            omega arith,
            same_number_lists found (take kept content) same (λ place below.
                left.sure place below (omega (arith, same, length-take kept content, ap length k.synced)) (k.clean place)
                ∙ ap (λ (xs : List ℕ). get_or xs place 0) k.synced
                ∙ sym (get_or-take kept content place 0 (omega (arith, same, length-take kept content)))),
          ),
      λ (kept, enough, is_front).
          let content = content_after start steps in
          let size : length found ≡ min kept (length content) = ap length is_front ∙ length-take kept content in
          record {
            long_enough = omega (arith, size, enough, k.least);
            short_enough = omega (arith, size, k.greatest);
            sure = λ place below old clean. ap (λ (xs : List ℕ). get_or xs place 0) is_front
                ∙ get_or-take kept content place 0 (omega (arith, size)) ∙ ap (λ (xs : List ℕ). get_or xs place 0) (sym k.synced);
          },
    )

pub write_widens : (start : List ℕ) (steps : List Step) (at count : ℕ) (now found : List ℕ)
    → MayLeave start steps found → MayLeave start (made_step (Write at count) now ∷ steps) found
write_widens start steps at count now found left = record {
  long_enough = left.long_enough;
  short_enough = omega (arith, left.short_enough);
  sure = λ place below old clean. left.sure place below old (second_false (is_in_range at count place) (is_written steps place) clean);
}

pub cut_widens : (start : List ℕ) (steps : List Step) (len : ℕ) (now found : List ℕ)
    → MayLeave start steps found → MayLeave start (made_step (Cut len) now ∷ steps) found
cut_widens start steps len now found left = record {
  long_enough = omega (arith, left.long_enough);
  short_enough = left.short_enough;
  sure = left.sure;
}

pub as_before : (start : List ℕ) (steps : List Step) (now found : List ℕ)
    → MayLeave start (made_step FailedSync now ∷ steps) found ↔ MayLeave start steps found
as_before start steps now found = (
  λ left. record { long_enough = left.long_enough; short_enough = left.short_enough; sure = left.sure },
  λ left. record { long_enough = left.long_enough; short_enough = left.short_enough; sure = left.sure },
)

both : (a b : Bool) → (a && b) ≡ true → (a ≡ true) × (b ≡ true)
both true b e = (refl, e)
both false b e = cc

not_true : (b : Bool) → not b ≡ true → b ≡ false
not_true true e = sym e
not_true false e = refl

same_byte : (start : List ℕ) (steps : List Step) (fill : ℕ) (one other : List ℕ) (place : ℕ)
    → IsFilled start steps fill one → IsFilled start steps fill other
    → place < length one → (sure : Bool) → is_sure start steps place ≡ sure → get_or one place 0 ≡ get_or other place 0
same_byte start steps fill one other place p q below false e =
    p.filled place below e ∙ sym (q.filled place (omega (arith, p.longest, q.longest)) e)
same_byte start steps fill one other place p q below true e =
    let synced = synced_after start steps in
    let parts = both (nat_lt place (length synced)) (not (is_written steps place)) e in
    let old : place < length synced = ltb-true place (length synced) parts.0 in
    let clean : is_written steps place ≡ false = not_true (is_written steps place) parts.1 in
    p.left.sure place below old clean ∙ sym (q.left.sure place (omega (arith, p.longest, q.longest)) old clean)

pub filled_once : (start : List ℕ) (steps : List Step) (fill : ℕ) (one other : List ℕ)
    → IsFilled start steps fill one → IsFilled start steps fill other → one ≡ other
filled_once start steps fill one other p q =
    same_number_lists one other (p.longest ∙ sym q.longest) (λ place below.
    same_byte start steps fill one other place p q below (is_sure start steps place) refl)
