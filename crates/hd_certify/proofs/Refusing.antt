-- The first fault of entries, and the first faulty one.
use Rattle.std.proofs.Common.{◌≡◌, ℕ, suc, ◌+◌, ◌<◌, ◌≤◌, not, nat_lt, ◌||◌, Bool, true, false, cond, ◌⊎◌, inl, inr, Option, Some, None, List, [], ◌∷◌, ◌++◌, map, take, length, slice_get, refl, sym, ap, ◌∙◌, subst, arith, true≢false, length-append}
use Rattle.std.specs.Prelude.{option_map}
use Rattle.std.specs.Option.{option_or}
use Rattle.std.proofs.lemmas.Option.{none-some, same_Some}
use Rattle.std.proofs.lemmas.List.{length-map, length-take, take-map}
use Rattle.hd_task.specs.declared.task.Task.{Task}
use Rattle.hd_task.specs.declared.plan.Kid.{Kid}
use Rattle.hd_task.specs.declared.plan.TheConstants.{ROOT_PARENT}
use Rattle.hd_tables.specs.Kids.{root, same_kid}
use Rattle.hd_image.specs.declared.entry.Entry.{Entry}
use Rattle.hd_journal.specs.Journal.{kid_of}
use Rattle.hd_entries.specs.declared.refusal.Refusal.{Refusal}
use Rattle.hd_entries.specs.declared.refusal.Refusal.TheVariants.{UnknownParent, NotAKid, SettledBefore, StateDiffers, NotDominated, BelowBound, Full, NoMemory}
use Rattle.hd_entries.specs.Kids.{posted_by}
use Rattle.hd_entries.specs.Holding.{plans_at}
use Rattle.hd_entries.specs.Resuming.{has, fault_at, first_fault, AreLegal, IsFaultOf}
use Rattle.hd_entries.proofs.Again.{nothing_kept}
use Rattle.hd_entries.proofs.Faultless.{kept_from, legal_from, no_faults}
use Rattle.hd_certify.specs.declared.error.RecoverError.TheVariants as RecoverError
use Rattle.hd_certify.specs.Error.{IsRecoverRefusal}

-- ---- legal lists have no fault

pub certified_kids : (t : Task) (entries : List Kid) → length entries < ROOT_PARENT → first_fault t [] entries ≡ None → AreLegal t entries
certified_kids t entries short free = legal_from t entries (kept_from t entries [] (nothing_kept t) (omega (arith, short)) free)

faulty_kids : (t : Task) (entries : List Kid) (n : ℕ) (r : Refusal) → first_fault t [] entries ≡ Some (n, r) → AreLegal t entries → ⊥
faulty_kids t entries n r first legal = none-some (n, r) (sym (no_faults t entries [] legal.0 refl legal.1 legal.2) ∙ first)

-- ---- the first fault

-- what an entry may be refused for
abbrev is_of_entry : Refusal → Bool
is_of_entry UnknownParent = true
is_of_entry NotAKid = true
is_of_entry SettledBefore = true
is_of_entry StateDiffers = false
is_of_entry NotDominated = false
is_of_entry BelowBound = false
is_of_entry Full = false
is_of_entry NoMemory = false

kind : (known posted again : Bool) (r : Refusal) → cond (not known) (Some UnknownParent) (cond (not posted) (Some NotAKid) (cond again (Some SettledBefore) None)) ≡ Some r → is_of_entry r ≡ true
kind false posted again r e = ap is_of_entry (sym (same_Some UnknownParent r e))
kind true false again r e = ap is_of_entry (sym (same_Some NotAKid r e))
kind true true true r e = ap is_of_entry (sym (same_Some SettledBefore r e))
kind true true false r e = absurd (none-some r e)

-- where the first fault of entries stands, so many places after those before them
record IsFirst (t : Task) (before entries : List Kid) (n : ℕ) (r : Refusal) : Type 0 where
  place : ℕ
  number : length before + place ≡ n
  within : place < length entries
  of_entry : is_of_entry r ≡ true
  free_before : first_fault t before (take place entries) ≡ None
  fault_with : first_fault t before (take (suc place) entries) ≡ Some (n, r)

-- a refusal with the number of its entry
abbrev told_by : ℕ → Option Refusal → Option (ℕ × Refusal)
told_by n o = option_map (λ (r : Refusal). (n, r)) o

faulty : (t : Task) (before entries : List Kid) (n : ℕ) (r : Refusal) → first_fault t before entries ≡ Some (n, r) → IsFirst t before entries n r
faulty t before [] n r e = absurd (none-some (n, r) e)
faulty t before (k ∷ entries) n r e =
    let next = before ++ k ∷ [] in
    elim (fault_at t before k) as (λ o. fault_at t before k ≡ o → option_or (told_by (length before) o) (first_fault t next entries) ≡ Some (n, r) → IsFirst t before (k ∷ entries) n r) [
      | None ↦ λ is e.
          let later = faulty t next entries n r e in
          record {
            place = suc later.place;
            number = omega (arith, later.number, length-append before (k ∷ []));
            within = omega (arith, later.within);
            of_entry = later.of_entry;
            free_before = ap (λ (o : Option Refusal). option_or (told_by (length before) o) (first_fault t next (take later.place entries))) is ∙ later.free_before;
            fault_with = ap (λ (o : Option Refusal). option_or (told_by (length before) o) (first_fault t next (take (suc later.place) entries))) is ∙ later.fault_with;
          }
      | Some x ↦ λ is e.
          let same = same_Some (length before, x) (n, r) e in
          let why : x ≡ r = ap (λ (p : ℕ × Refusal). p.1) same in
          record {
            place = 0;
            number = omega (arith, ap (λ (p : ℕ × Refusal). p.0) same);
            within = omega arith;
            of_entry = kind (same_kid k root || nat_lt k.parent (length before)) (has (posted_by t (plans_at before)) k) (has before k) r (is ∙ ap Some why);
            free_before = refl;
            fault_with = ap (λ (o : Option Refusal). option_or (told_by (length before) o) (first_fault t next [])) is ∙ e;
          }
    ] refl e

-- ---- what is reported of it

-- a refusal that is about a successor
abbrev is_of_kid : Refusal → Bool
is_of_kid UnknownParent = true
is_of_kid NotAKid = true
is_of_kid SettledBefore = true
is_of_kid StateDiffers = true
is_of_kid NotDominated = true
is_of_kid BelowBound = true
is_of_kid Full = false
is_of_kid NoMemory = false

pub one_of_them : (r : Refusal) → ((r ≡ UnknownParent) ⊎ ((r ≡ NotAKid) ⊎ ((r ≡ SettledBefore) ⊎ ((r ≡ StateDiffers) ⊎ ((r ≡ NotDominated) ⊎ (r ≡ BelowBound)))))) → is_of_kid r ≡ true
one_of_them r (inl e) = ap is_of_kid e
one_of_them r (inr (inl e)) = ap is_of_kid e
one_of_them r (inr (inr (inl e))) = ap is_of_kid e
one_of_them r (inr (inr (inr (inl e)))) = ap is_of_kid e
one_of_them r (inr (inr (inr (inr (inl e))))) = ap is_of_kid e
one_of_them r (inr (inr (inr (inr (inr e))))) = ap is_of_kid e

module _ (t : Task) (most : ℕ) (few : most < ROOT_PARENT) (entries : List Entry) (n : ℕ) where
  abbrev kids : List Kid
  kids = map kid_of entries

  -- what is reported if there is a first fault
  record IsTold (r : Refusal) : Type 0 where
    le : length entries ≤ most
    first : first_fault t [] kids ≡ Some (n, r)

  told_of : (r : Refusal) → is_of_kid r ≡ true → IsFaultOf t most kids n r → IsTold r
  told_of r of_kid (inl full) = absurd (true≢false (sym of_kid ∙ ap is_of_kid full.1))
  told_of r of_kid (inr (le, inl none)) = absurd (true≢false (sym of_kid ∙ ap is_of_kid none))
  told_of r of_kid (inr (le, inr first)) = record { le = omega (arith, le, length-map entries kid_of); first = first }

  pub full_told : (r : Refusal) → r ≡ Full → IsFaultOf t most kids n r → IsRecoverRefusal t most entries RecoverError.Full
  full_told r is (inl full) = omega (arith, full.2, length-map entries kid_of)
  full_told r is (inr (le, inl none)) = absurd (cc)
  full_told r is (inr (le, inr first)) = absurd (true≢false (sym (faulty t [] kids n r first).of_entry ∙ ap is_of_entry is))

  pub memory_told : (r : Refusal) → r ≡ NoMemory → IsFaultOf t most kids n r → IsRecoverRefusal t most entries RecoverError.NoMemory
  memory_told r is (inl full) = absurd (cc)
  memory_told r is (inr (le, inl none)) = omega (arith, le, length-map entries kid_of)
  memory_told r is (inr (le, inr first)) = omega (arith, le, length-map entries kid_of)

  -- the entry that is reported is one of them
  pub entry_there : (r : Refusal) → is_of_kid r ≡ true → IsFaultOf t most kids n r → n < length entries
  entry_there r of_kid is =
      let at = faulty t [] kids n r (told_of r of_kid is).first in
      omega (arith, at.within, at.number, length-map entries kid_of)

  pub entry_told :
      (r : Refusal) (at : ℕ) → is_of_kid r ≡ true → option_map (λ (e : Entry). e.at) (slice_get entries n) ≡ Some at → IsFaultOf t most kids n r
      → IsRecoverRefusal t most entries (RecoverError.Damaged at)
  entry_told r at of_kid place is =
      let told = told_of r of_kid is in
      let first = faulty t [] kids n r told.first in
      let number : first.place ≡ n = omega (arith, first.number) in
      let le = told.le in
      let long = length-map entries kid_of in
      let within = first.within in
      let before : first_fault t [] (take n kids) ≡ None = subst (λ (m : ℕ). first_fault t [] (take m kids) ≡ None) number first.free_before in
      let more : suc first.place ≡ n + 1 = omega (arith, number) in
      let faulted : first_fault t [] (take (n + 1) kids) ≡ Some (n, r) = subst (λ (m : ℕ). first_fault t [] (take m kids) ≡ Some (n, r)) more first.fault_with in
      let short : length (take n kids) < ROOT_PARENT = omega (arith, few, le, long, length-take n kids) in (
        le,
        record {
          number = n;
          place = place;
          legal_before = subst (AreLegal t) (take-map kid_of n entries) (certified_kids t (take n kids) short before);
          faulty = λ legal. faulty_kids t (take (n + 1) kids) n r faulted (subst (AreLegal t) (sym (take-map kid_of (n + 1) entries)) legal);
          illegal = faulty_kids t kids n r told.first;
        },
      )
