-- What a stop leaves while a file is mended that an earlier stop left.
use Rattle.std.proofs.Common.{◌≡◌, ◌≢◌, inl, inr, ℕ, ◌+◌, ◌≤◌, ◌==◌, Bool, true, false, List, [], ◌∷◌, ◌++◌, length, take, Result, refl, sym, ap, ◌∙◌, subst, arith, if◌then◌else◌}
use Rattle.std.specs.List.{flat_map, AllByRecursion}
use Rattle.std.proofs.lemmas.Bool.{eqb-true, eqb-false}
use Rattle.hd_base.proofs.Lists.{AllByRecursion-push}
use Rattle.hd_task.specs.declared.plan.Kid.{Kid}
use Rattle.hd_image.specs.declared.version.Version.{Version}
use Rattle.hd_image.specs.declared.version.Version.TheVariants.{Two}
use Rattle.hd_image.specs.declared.header.TheConstants.{FIRST_GATE, DIGEST_LEN}
use Rattle.hd_image.specs.declared.contents.Found.{Found}
use Rattle.hd_image.specs.declared.contents.Found.TheVariants.{Unmade, HalfMade, Journal}
use Rattle.hd_image.specs.Image.{IsGroup, counted, opened, front}
use Rattle.hd_image.specs.Reading.{IsFound, IsHead, IsHalfMade, contents_of}
use Rattle.hd_image.specs.Stops.{IsBeforeOrAfter, IsMaking}
use Rattle.hd_image.proofs.Stopping.{length-front, joined}
use Rattle.hd_store.specs.declared.error.StoreError.{StoreError}
use Rattle.hd_store.specs.Bytes.{IsPartOfCut}
use Rattle.hd_store.specs.Device.{Device, content_of}
use Rattle.hd_journal.specs.Calls.{after_call, Ran, RanThrough, surely}
use Rattle.hd_journal.specs.Calls.Call.{Writing, Cutting, Syncing}
use Rattle.hd_journal.specs.Journal.{head_calls, gate_calls, cut_calls, open_calls, version_in}
use Rattle.hd_journal.specs.Moments.{LeavesSince, IsSettled}
use Rattle.hd_journal.proofs.Bytes.{cut_whole, cut_part}
use Rattle.hd_journal.proofs.Running.{led_on, split}
use Rattle.hd_journal.proofs.Passing.{sure_then, no_more}
use Rattle.hd_journal.proofs.Making.{head_bytes, head_len, opening_head, open_head_moments, fill_moments, create_moments}
use Rattle.hd_journal.proofs.Appending.{closed, opening, gate_moments}
use Rattle.hd_journal.proofs.Opening.{found_one, stands_found, unmade_opens, half_opens, journal_opens, Opens}

-- ---- a group that was being appended

cut_moments_by : (v : Version) (digest : List ℕ) (groups : List (List Kid)) (next : List Kid) (old new : Device) (behind : List ℕ) (at : ℕ)
    (is_none : Bool) (result : Result (Unit {0}) StoreError) → at ≡ length (front v digest groups) → IsSettled old
    → content_of old ≡ front v digest groups ++ 0 ∷ behind → Ran old (if is_none then [] else surely (Cutting (at + 1))) result new
    → LeavesSince (IsBeforeOrAfter v digest groups next) old new
cut_moments_by v digest groups next old new behind at true result place settled is ran =
    no_more (IsBeforeOrAfter v digest groups next) old result new settled (closed v digest groups next (content_of old) behind is) ran
cut_moments_by v digest groups next old new behind at false result place settled is ran =
    let P = IsBeforeOrAfter v digest groups next in
    let f = front v digest groups in
    let end = after_call (after_call old (Cutting (at + 1))) Syncing in
    let len : at + 1 ≡ length f + 1 = ap (λ (n : ℕ). n + 1) place in
    let done : content_of end ≡ f ++ 0 ∷ [] = ap (λ (c : List ℕ). take (at + 1) c) is ∙ cut_whole f behind 0 (at + 1) len in
    let holds : P (content_of end) = closed v digest groups next (content_of end) [] done in
    sure_then P old (Cutting (at + 1)) [] result new tt settled (closed v digest groups next (content_of old) behind is)
    (λ found part.
    let left = cut_part f behind 0 (at + 1) found len (subst (λ (c : List ℕ). IsPartOfCut c (at + 1) found) is part) in
    closed v digest groups next found left.0 left.1)
    holds (λ more. no_more P end result new refl holds more) ran

cut_moments : (v : Version) (digest : List ℕ) (groups : List (List Kid)) (next : List Kid) (old new : Device) (behind : List ℕ) (at : ℕ)
    (result : Result (Unit {0}) StoreError) → at ≡ length (front v digest groups) → IsSettled old
    → content_of old ≡ front v digest groups ++ 0 ∷ behind → Ran old (cut_calls (length behind) at) result new
    → LeavesSince (IsBeforeOrAfter v digest groups next) old new
cut_moments v digest groups next old new behind at result place settled is ran =
    cut_moments_by v digest groups next old new behind at (length behind == 0) result place settled is ran

-- the gate that was being opened, or closed again, is closed, and the group after it cut off
shut_moments : (v : Version) (digest : List ℕ) (groups : List (List Kid)) (next : List Kid) (old new : Device) (gate at : ℕ) (is_closed : Bool)
    (result : Result (Unit {0}) StoreError) → (gate == 0) ≡ is_closed → at ≡ length (front v digest groups) → IsSettled old
    → content_of old ≡ front v digest groups ++ gate ∷ (counted v next ++ 0 ∷ [])
    → Ran old (gate_calls is_closed at ++ cut_calls (length (counted v next ++ 0 ∷ [])) at) result new
    → LeavesSince (IsBeforeOrAfter v digest groups next) old new
shut_moments v digest groups next old new gate at true result e place settled is ran =
    cut_moments v digest groups next old new (counted v next ++ 0 ∷ []) at result place settled
    (is ∙ ap (λ (g : ℕ). front v digest groups ++ g ∷ (counted v next ++ 0 ∷ [])) (eqb-true gate 0 e)) ran
shut_moments v digest groups next old new gate at false result e place settled is ran =
    gate_moments v digest groups next old new at gate 0 (cut_calls (length (counted v next ++ 0 ∷ [])) at) result place settled is
    (λ mid sure stands left. cut_moments v digest groups next mid new (counted v next ++ 0 ∷ []) at result place sure stands left) ran

zero_not_one : ◌≢◌ {A = ℕ} 0 1
zero_not_one e = omega (arith, e)

opening_moments : (v : Version) (digest : List ℕ) (groups : List (List Kid)) (next : List Kid) (found : Found) (old new : Device) (gate : ℕ)
    (is_open : Bool) (result : Result (Unit {0}) StoreError) → (gate == 1) ≡ is_open → length digest ≡ DIGEST_LEN → IsSettled old
    → AllByRecursion (IsGroup v) groups → IsGroup v next
    → content_of old ≡ front v digest groups ++ gate ∷ (counted v next ++ 0 ∷ []) → IsFound digest (content_of old) found
    → Ran old (open_calls digest found) result new → LeavesSince (IsBeforeOrAfter v digest groups next) old new
opening_moments v digest groups next found old new gate true result e len settled sound group is found_is ran =
    let after = is ∙ (ap (λ (g : ℕ). front v digest groups ++ g ∷ (counted v next ++ 0 ∷ [])) (eqb-true gate 1 e) ∙ joined v digest groups next) in
    let told = stands_found v digest (groups ++ next ∷ []) 0 [] (content_of old) found len
    (AllByRecursion-push (IsGroup v) groups next sound group) zero_not_one after found_is in
    no_more (IsBeforeOrAfter v digest groups next) old result new settled (opening v digest groups next (content_of old) gate is)
    (subst (λ (f : Found). Ran old (open_calls digest f) result new) told ran)
opening_moments v digest groups next found old new gate false result e len settled sound group is found_is ran =
    let told = stands_found v digest groups gate (counted v next ++ 0 ∷ []) (content_of old) found len sound (eqb-false gate 1 e) is found_is in
    shut_moments v digest groups next old new gate (FIRST_GATE + length (flat_map (opened v) groups)) (gate == 0) result refl
    (sym (length-front v digest groups len)) settled is (subst (λ (f : Found). Ran old (open_calls digest f) result new) told ran)

pub open_moments : (v : Version) (digest : List ℕ) (groups : List (List Kid)) (next : List Kid) (found : Found) (old new : Device)
    (result : Result (Unit {0}) StoreError) → length digest ≡ DIGEST_LEN → IsSettled old
    → AllByRecursion (IsGroup v) groups → IsGroup v next → IsBeforeOrAfter v digest groups next (content_of old)
    → IsFound digest (content_of old) found
    → Ran old (open_calls digest found) result new → LeavesSince (IsBeforeOrAfter v digest groups next) old new
open_moments v digest groups next found old new result len settled sound group left found_is ran =
    elim left [
      | inl shut ↦
          let told = stands_found v digest groups 0 shut.behind (content_of old) found len sound zero_not_one shut.whole found_is in
          cut_moments v digest groups next old new shut.behind (FIRST_GATE + length (flat_map (opened v) groups)) result
          (sym (length-front v digest groups len)) settled shut.whole
          (subst (λ (f : Found). Ran old (open_calls digest f) result new) told ran)
      | inr half ↦
          opening_moments v digest groups next found old new half.gate (half.gate == 1) result refl len settled sound group half.whole found_is ran
    ]

-- ---- a header that was being made

-- what is found where a header was being made
data IsFoundMaking (digest content : List ℕ) (found : Found) : Type 0 where
  Nothing : length content ≤ 1 → found ≡ Unmade → IsFoundMaking digest content found
  Half : IsHalfMade content → found ≡ HalfMade → IsFoundMaking digest content found
  Whole : (gate : ℕ) → content ≡ gate ∷ head_bytes digest → found ≡ Journal (contents_of Two gate [] 0 []) → IsFoundMaking digest content found

is_head : (gate : ℕ) (is_open : Bool) → (gate == 1) ≡ is_open → gate ≢ 0 → IsHead gate 1
is_head gate true e other = inl (eqb-true gate 1 e, omega arith)
is_head gate false e other = inr (other, eqb-false gate 1 e, refl)

head_found : (digest content : List ℕ) (found : Found) (gate : ℕ) (is_closed : Bool) → (gate == 0) ≡ is_closed → length digest ≡ DIGEST_LEN
    → content ≡ gate ∷ head_bytes digest → IsFound digest content found → IsFoundMaking digest content found
head_found digest content found gate true e len is found_is =
    let size = head_len digest len in
    let half : IsHalfMade content = record {
      rest = head_bytes digest;
      closed = is ∙ ap (λ (g : ℕ). g ∷ head_bytes digest) (eqb-true gate 0 e);
      some = omega (arith, size);
      short = omega (arith, size);
    } in
    Half half (found_one digest content found HalfMade found_is half)
head_found digest content found gate false e len is found_is =
    Whole gate is (found_one digest content found (Journal (contents_of Two gate [] 0 [])) found_is (record {
      head = gate;
      v = Two;
      groups = [];
      gate = 0;
      behind = [];
      headed = record { whole = is; digest_len = len; gate = is_head gate (gate == 1) refl (eqb-false gate 0 e) };
      sound = tt;
      ends = zero_not_one;
      told = refl;
    }))

making_found : (digest content : List ℕ) (found : Found) → length digest ≡ DIGEST_LEN → IsMaking Two digest content → IsFound digest content found
    → IsFoundMaking digest content found
making_found digest content found len making found_is =
    elim making [
      | inl short ↦ Nothing short (found_one digest content found Unmade found_is short)
      | inr more ↦ elim more [
        | inl half ↦ Half half (found_one digest content found HalfMade found_is half)
        | inr head ↦ head_found digest content found head.gate (head.gate == 0) refl len head.whole found_is
      ]
    ]

head_moments : (digest : List ℕ) (old new : Device) (gate : ℕ) (is_open : Bool) (result : Result (Unit {0}) StoreError) → IsSettled old
    → content_of old ≡ gate ∷ head_bytes digest → Ran old (head_calls is_open ++ []) result new → LeavesSince (IsMaking Two digest) old new
head_moments digest old new gate true result settled is ran =
    no_more (IsMaking Two digest) old result new settled (opening_head digest (content_of old) gate is) ran
head_moments digest old new gate false result settled is ran = open_head_moments digest old new gate result settled is ran

pub making_moments : (digest : List ℕ) (found : Found) (old new : Device) (result : Result (Unit {0}) StoreError) → length digest ≡ DIGEST_LEN
    → IsSettled old → IsMaking Two digest (content_of old) → IsFound digest (content_of old) found
    → Ran old (open_calls digest found) result new → LeavesSince (IsMaking Two digest) old new
making_moments digest found old new result len settled making found_is ran =
    elim (making_found digest (content_of old) found len making found_is) [
      | Nothing short told ↦
          create_moments digest old new result len settled short (subst (λ (f : Found). Ran old (open_calls digest f) result new) told ran)
      | Half half told ↦
          fill_moments digest old new half.rest result len settled half.closed half.short
          (subst (λ (f : Found). Ran old (open_calls digest f) result new) told ran)
      | Whole gate is told ↦
          head_moments digest old new gate (gate == 1) result settled is
          (subst (λ (f : Found). Ran old (open_calls digest f) result new) told ran)
    ]

-- a journal without entries is opened then
pub making_opens : (digest : List ℕ) (found : Found) (old new : Device) → length digest ≡ DIGEST_LEN
    → IsMaking Two digest (content_of old) → IsFound digest (content_of old) found
    → RanThrough old (open_calls digest found) new → (version_in found ≡ Two) × Opens digest found [] new
making_opens digest found old new len making found_is ran =
    elim (making_found digest (content_of old) found len making found_is) [
      | Nothing short told ↦
          let one = unmade_opens digest old new len short (subst (λ (f : Found). RanThrough old (open_calls digest f) new) told ran) in
          (ap version_in told, subst (λ (f : Found). Opens digest f [] new) (sym told) one)
      | Half half told ↦
          let one = half_opens digest old new len half (subst (λ (f : Found). RanThrough old (open_calls digest f) new) told ran) in
          (ap version_in told, subst (λ (f : Found). Opens digest f [] new) (sym told) one)
      | Whole gate is told ↦ (
        ap version_in told,
        subst (λ (f : Found). Opens digest f [] new) (sym told)
            (journal_opens Two digest [] gate 0 [] old new len tt is (subst (λ (f : Found). RanThrough old (open_calls digest f) new) told ran)),
      )
    ]

-- ---- nothing is pending then

head_settled : (old new : Device) (is_open : Bool) → IsSettled old → RanThrough old (head_calls is_open) new → IsSettled new
head_settled old new true settled ran = subst IsSettled (sym ran.1) settled
head_settled old new false settled ran = subst IsSettled (sym (led_on old new (surely (Writing 0 (1 ∷ []))) ran)) refl

gate_settled : (old new : Device) (is_closed : Bool) (at : ℕ) → IsSettled old → RanThrough old (gate_calls is_closed at) new → IsSettled new
gate_settled old new true at settled ran = subst IsSettled (sym ran.1) settled
gate_settled old new false at settled ran = subst IsSettled (sym (led_on old new (surely (Writing at (0 ∷ []))) ran)) refl

cut_settled : (old new : Device) (is_none : Bool) (at : ℕ) → IsSettled old
    → RanThrough old (if is_none then [] else surely (Cutting (at + 1))) new → IsSettled new
cut_settled old new true at settled ran = subst IsSettled (sym ran.1) settled
cut_settled old new false at settled ran = subst IsSettled (sym (led_on old new (surely (Cutting (at + 1))) ran)) refl

pub open_settled : (digest : List ℕ) (found : Found) (old new : Device) → IsSettled old → RanThrough old (open_calls digest found) new
    → IsSettled new
open_settled digest Unmade old new settled ran = subst IsSettled (sym (led_on old new (open_calls digest Unmade) ran)) refl
open_settled digest HalfMade old new settled ran = subst IsSettled (sym (led_on old new (open_calls digest HalfMade) ran)) refl
open_settled digest (Journal found) old new settled ran =
    let at = found.last_gate in
    let one = split old new (head_calls found.header_open) (gate_calls found.gate_closed at ++ cut_calls found.behind at) ran in
    let two = split one.0 new (gate_calls found.gate_closed at) (cut_calls found.behind at) one.2 in
    cut_settled two.0 new (found.behind == 0) at
    (gate_settled one.0 two.0 found.gate_closed at (head_settled old one.0 found.header_open settled one.1) two.1) two.2
