-- The parents of entries that name a legal list.
use Rattle.std.proofs.Common.{◌≡◌, ℕ, ◌+◌, ◌<◌, ◌≤◌, ◌==◌, not, nat_lt, ◌&&◌, ◌||◌, Bool, true, false, cond, Option, Some, None, List, [], ◌∷◌, ◌++◌, map, length, refl, sym, arith, length-append}
use Rattle.std.specs.Prelude.{option_map}
use Rattle.std.specs.List.{list_all}
use Rattle.std.proofs.lemmas.Bool.{and_from, ltb-true, lt-ltb}
use Rattle.std.proofs.lemmas.Option.{none-some}
use Rattle.std.proofs.lemmas.List.{length-map}
use Rattle.hd_base.proofs.Options.{option_or_none}
use Rattle.hd_task.specs.declared.task.Task.{Task}
use Rattle.hd_task.specs.declared.plan.Kid.{Kid}
use Rattle.hd_task.specs.declared.plan.TheConstants.{ROOT_PARENT, ROOT_ACTION}
use Rattle.hd_tables.specs.Kids.{root, same_kid}
use Rattle.hd_image.specs.declared.entry.Entry.{Entry}
use Rattle.hd_journal.specs.Journal.{kid_of}
use Rattle.hd_entries.specs.declared.refusal.Refusal.{Refusal}
use Rattle.hd_entries.specs.declared.refusal.Refusal.TheVariants.{UnknownParent}
use Rattle.hd_entries.specs.Resuming.{fault_at, first_fault, AreLegal}
use Rattle.hd_certify.proofs.Refusing.{certified_kids}

-- a parent is the root's, or below a number
abbrev is_below : ℕ → Kid → Bool
is_below limit k = (k.parent == ROOT_PARENT) || nat_lt k.parent limit

unmapped : {X Y : Type 0} (f : X → Y) (o : Option X) → option_map f o ≡ None → o ≡ None
unmapped f None e = refl
unmapped f (Some x) e = absurd (none-some (f x) (sym e))

-- a successor that has no fault is the root, or its parent is an entry
known_by : (known : Bool) (rest : Option Refusal) → cond (not known) (Some UnknownParent) rest ≡ None → known ≡ true
known_by true rest e = refl
known_by false rest e = absurd (none-some UnknownParent (sym e))

below_by : (limit n : ℕ) (k : Kid) → n ≤ limit → (same_kid k root || nat_lt k.parent n) ≡ true → is_below limit k ≡ true
below_by limit n k few known =
    elim (k.parent == ROOT_PARENT) as (λ x. ((x && (k.action == ROOT_ACTION)) || nat_lt k.parent n) ≡ true → (x || nat_lt k.parent limit) ≡ true) [
      | true ↦ λ _. refl
      | false ↦ λ e. lt-ltb k.parent limit (omega (arith, ltb-true k.parent n e, few))
    ] known

all_below : (t : Task) (limit : ℕ) (before later : List Kid) → length before + length later ≤ limit → first_fault t before later ≡ None
    → list_all (is_below limit) later ≡ true
all_below t limit before [] few free = refl
all_below t limit before (k ∷ later) few free =
    let next = before ++ k ∷ [] in
    let parts = option_or_none (option_map (λ (r : Refusal). (length before, r)) (fault_at t before k)) (first_fault t next later) free in
    let none : fault_at t before k ≡ None = unmapped (λ (r : Refusal). (length before, r)) (fault_at t before k) parts.0 in
    let known = known_by (same_kid k root || nat_lt k.parent (length before)) _ none in
    and_from (is_below limit k) (list_all (is_below limit) later) (below_by limit (length before) k (omega (arith, few)) known)
    (all_below t limit next later (omega (arith, length-append before (k ∷ []), few)) parts.1)

pub numbered : (t : Task) (most limit : ℕ) (entries : List Entry) → length entries ≤ most → first_fault t [] (map kid_of entries) ≡ None
    → most ≤ limit → list_all (λ (kid : Kid). (kid.parent == ROOT_PARENT) || nat_lt kid.parent limit) (map kid_of entries) ≡ true
numbered t most limit entries le free few =
    all_below t limit [] (map kid_of entries) (omega (arith, le, few, length-map entries kid_of)) free

pub legal : (t : Task) (most : ℕ) (entries : List Entry) → most < ROOT_PARENT → length entries ≤ most
    → first_fault t [] (map kid_of entries) ≡ None → AreLegal t (map kid_of entries)
legal t most entries few le free = certified_kids t (map kid_of entries) (omega (arith, few, le, length-map entries kid_of)) free
