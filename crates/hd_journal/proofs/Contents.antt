-- What stands on a device in the end, where calls were made one after the other, also where one of
-- them failed.
use Rattle.std.proofs.Common.{◌≡◌, inl, inr, ℕ, ◌+◌, ◌≤◌, List, [], ◌∷◌, ◌++◌, length, Result, Ok, Err, refl, sym, ap, ◌∙◌, subst, append_assoc, arith}
use Rattle.std.proofs.lemmas.List.{length-append}
use Rattle.hd_task.specs.declared.plan.Kid.{Kid}
use Rattle.hd_image.specs.declared.version.Version.{Version}
use Rattle.hd_image.specs.declared.version.Version.TheVariants.{Two}
use Rattle.hd_image.specs.declared.header.TheConstants.{FIRST_GATE, DIGEST_LEN}
use Rattle.hd_image.specs.Image.{counted, front}
use Rattle.hd_image.specs.Stops.{IsBeforeOrAfter, IsMaking}
use Rattle.hd_store.specs.declared.change.DiskChange.{DiskChange}
use Rattle.hd_store.specs.declared.change.DiskChange.TheVariants.{Write, Cut, FailedSync}
use Rattle.hd_store.specs.declared.error.StoreError.{StoreError}
use Rattle.hd_store.specs.declared.error.StoreError.TheVariants.{NoMemory, Failed}
use Rattle.hd_store.specs.Bytes.{written_over, IsPartOfWrite, IsPartOfCut}
use Rattle.hd_store.specs.Calls.{BreaksOff}
use Rattle.hd_store.specs.Device.{Device, content_of}
use Rattle.hd_journal.specs.Calls.{Call, content_by, after_call, Ran, Ends, Breaks, surely}
use Rattle.hd_journal.specs.Calls.Call.{Writing, Cutting, Syncing}
use Rattle.hd_journal.specs.Journal.{append_calls, create_calls, fill_calls}
use Rattle.hd_journal.proofs.Appending.{closed, opening}
use Rattle.hd_journal.proofs.Bytes.{over_end, over_one, over_rest, over_all, part_end, part_one, part_rest}
use Rattle.hd_journal.proofs.Making.{head_bytes, head_len, opening_head}
use Rattle.hd_journal.proofs.Passing.{IsPart, IsStroke}

-- ---- one change

broke : (P : List ℕ → Type 0) (old new : Device) (change : DiskChange) (Part : List ℕ → Type 0) → P (content_of old)
    → ((now : List ℕ) → Part now → P now) → BreaksOff old change Part new → P (content_of new)
broke P old new change Part holds part breaks =
    elim breaks [
      | inl closed ↦ subst (λ (d : Device). P (content_of d)) (sym closed.1) holds
      | inr begun ↦ subst (λ (d : Device). P (content_of d)) (sym begun.1.2) (part begun.1.0 begun.1.1)
    ]

broke_call : (P : List ℕ → Type 0) (old : Device) (call : Call) (new : Device) → IsStroke call → P (content_of old)
    → ((found : List ℕ) → IsPart call (content_of old) found → P found) → Breaks old call new → P (content_of new)
broke_call P old (Writing at bytes) new is holds part breaks =
    broke P old new (Write at (length bytes)) (IsPartOfWrite (content_of old) at (length bytes)) holds part breaks
broke_call P old (Cutting len) new is holds part breaks = broke P old new (Cut len) (IsPartOfCut (content_of old) len) holds part breaks
broke_call P old Syncing new is holds part breaks = absurd is

ended_call : (P : List ℕ → Type 0) (old : Device) (call : Call) (result : Result (Unit {0}) StoreError) (new : Device) → IsStroke call
    → P (content_of old) → ((found : List ℕ) → IsPart call (content_of old) found → P found) → Ends old call result new → P (content_of new)
ended_call P old call (Ok done) new is holds part ends = absurd ends
ended_call P old call (Err Failed) new is holds part ends = broke_call P old call new is holds part ends.1
ended_call P old call (Err NoMemory) new is holds part ends = subst (λ (d : Device). P (content_of d)) (sym ends.1) holds

ended_sync : (P : List ℕ → Type 0) (old : Device) (result : Result (Unit {0}) StoreError) (new : Device) → P (content_of old)
    → Ends old Syncing result new → P (content_of new)
ended_sync P old (Ok done) new holds ends = absurd ends
ended_sync P old (Err Failed) new holds ends =
    broke P old new FailedSync (λ now. now ≡ content_of old) holds (λ now same. subst P (sym same) holds) ends.1
ended_sync P old (Err NoMemory) new holds ends = absurd ends.0

-- a change that is made sure of, and what follows it
sure_then : (P : List ℕ → Type 0) (old : Device) (call : Call) (rest : List Call) (result : Result (Unit {0}) StoreError) (new : Device)
    → IsStroke call → P (content_of old)
    → ((found : List ℕ) → IsPart call (content_of old) found → P found) → P (content_by call (content_of old))
    → (Ran (after_call (after_call old call) Syncing) rest result new → P (content_of new))
    → Ran old (call ∷ Syncing ∷ rest) result new → P (content_of new)
sure_then P old call rest result new is holds part done more ran =
    elim ran [
      | inr ends ↦ ended_call P old call result new is holds part ends
      | inl w ↦ elim w.1 [
        | inr ends ↦ ended_sync P (after_call old call) result new done ends
        | inl v ↦ more v.1
      ]
    ]

no_more : (P : List ℕ → Type 0) (old : Device) (result : Result (Unit {0}) StoreError) (new : Device) → P (content_of old)
    → Ran old [] result new → P (content_of new)
no_more P old result new holds ran = subst (λ (d : Device). P (content_of d)) (sym ran.1) holds

-- ---- a group that is appended

gate_len : (f : List ℕ) (gate : ℕ) → gate ≡ length f → gate + 1 ≡ length (f ++ 0 ∷ [])
gate_len f gate e = let both = length-append f (0 ∷ []) in omega (arith, both, e)

written : (content f bytes : List ℕ) (gate : ℕ) → content ≡ f ++ 0 ∷ [] → gate ≡ length f
    → written_over content (gate + 1) bytes ≡ f ++ 0 ∷ bytes
written content f bytes gate is e =
    ap (λ (c : List ℕ). written_over c (gate + 1) bytes) is
    ∙ (over_end (f ++ 0 ∷ []) bytes (gate + 1) (gate_len f gate e) ∙ append_assoc f (0 ∷ []) bytes)

opens_gate : (v : Version) (digest : List ℕ) (groups : List (List Kid)) (next : List Kid) (old new : Device) (at : ℕ)
    (result : Result (Unit {0}) StoreError) → at ≡ length (front v digest groups)
    → content_of old ≡ front v digest groups ++ 0 ∷ (counted v next ++ 0 ∷ [])
    → Ran old (surely (Writing at (1 ∷ []))) result new → IsBeforeOrAfter v digest groups next (content_of new)
opens_gate v digest groups next old new at result e is ran =
    let P = IsBeforeOrAfter v digest groups next in
    let f = front v digest groups in
    let bytes = counted v next ++ 0 ∷ [] in
    let end = after_call (after_call old (Writing at (1 ∷ []))) Syncing in
    let done : content_of end ≡ f ++ 1 ∷ bytes =
    ap (λ (c : List ℕ). written_over c at (1 ∷ [])) is ∙ over_one f bytes 0 1 at e in
    let holds : P (content_of end) = opening v digest groups next (content_of end) 1 done in
    sure_then P old (Writing at (1 ∷ [])) [] result new tt (opening v digest groups next (content_of old) 0 is)
    (λ found part.
    let one = part_one f bytes 0 at found e (subst (λ (c : List ℕ). IsPartOfWrite c at 1 found) is part) in
    opening v digest groups next found one.0 one.1)
    holds (λ more. no_more P end result new holds more) ran

pub append_ends : (v : Version) (digest : List ℕ) (groups : List (List Kid)) (next : List Kid) (old new : Device) (gate : ℕ)
    (result : Result (Unit {0}) StoreError) → gate ≡ length (front v digest groups)
    → content_of old ≡ front v digest groups ++ 0 ∷ []
    → Ran old (append_calls v gate next) result new → IsBeforeOrAfter v digest groups next (content_of new)
append_ends v digest groups next old new gate result e is ran =
    let P = IsBeforeOrAfter v digest groups next in
    let f = front v digest groups in
    let bytes = counted v next ++ 0 ∷ [] in
    let mid = after_call (after_call old (Writing (gate + 1) bytes)) Syncing in
    let done : content_of mid ≡ f ++ 0 ∷ bytes = written (content_of old) f bytes gate is e in
    sure_then P old (Writing (gate + 1) bytes) (surely (Writing gate (1 ∷ []))) result new tt
    (closed v digest groups next (content_of old) [] is)
    (λ found part.
    let end = part_end (f ++ 0 ∷ []) (gate + 1) (length bytes) found (gate_len f gate e)
    (subst (λ (c : List ℕ). IsPartOfWrite c (gate + 1) (length bytes) found) is part) in
    closed v digest groups next found end.0 (end.1 ∙ append_assoc f (0 ∷ []) end.0))
    (opening v digest groups next (content_of mid) 0 done)
    (λ more. opens_gate v digest groups next mid new gate result e done more) ran

-- ---- a header that is made

half_or_less : (digest rest : List ℕ) → length rest ≤ FIRST_GATE → IsMaking Two digest (0 ∷ rest)
half_or_less digest [] short = inl (omega arith)
half_or_less digest (x ∷ rest) short = inr (inl (record { rest = x ∷ rest; closed = refl; some = omega arith; short = short }))

part_filled : (digest found : List ℕ) → length digest ≡ DIGEST_LEN
    → IsPartOfWrite (0 ∷ []) 1 (length (head_bytes digest)) found → IsMaking Two digest found
part_filled digest found len part =
    let is = part_rest [] (length (head_bytes digest)) found (omega arith) part in
    subst (IsMaking Two digest) (sym is.1) (half_or_less digest is.0 (omega (arith, is.2, head_len digest len)))

opens_head : (digest : List ℕ) (old new : Device) (result : Result (Unit {0}) StoreError)
    → content_of old ≡ 0 ∷ head_bytes digest → Ran old (surely (Writing 0 (1 ∷ []))) result new → IsMaking Two digest (content_of new)
opens_head digest old new result is ran =
    let P = IsMaking Two digest in
    let hs = head_bytes digest in
    let end = after_call (after_call old (Writing 0 (1 ∷ []))) Syncing in
    let done : content_of end ≡ 1 ∷ hs =
    ap (λ (c : List ℕ). written_over c 0 (1 ∷ [])) is ∙ over_one [] hs 0 1 0 refl in
    let holds : P (content_of end) = opening_head digest (content_of end) 1 done in
    sure_then P old (Writing 0 (1 ∷ [])) [] result new tt (opening_head digest (content_of old) 0 is)
    (λ found part.
    let at_zero = part_one [] hs 0 0 found refl (subst (λ (c : List ℕ). IsPartOfWrite c 0 1 found) is part) in
    opening_head digest found at_zero.0 at_zero.1)
    holds (λ more. no_more P end result new holds more) ran

fills : (digest : List ℕ) (old new : Device) (result : Result (Unit {0}) StoreError) → length digest ≡ DIGEST_LEN
    → content_of old ≡ 0 ∷ [] → Ran old (fill_calls digest) result new → IsMaking Two digest (content_of new)
fills digest old new result len is ran =
    let P = IsMaking Two digest in
    let hs = head_bytes digest in
    let mid = after_call (after_call old (Writing 1 hs)) Syncing in
    let done : content_of mid ≡ 0 ∷ hs =
    ap (λ (c : List ℕ). written_over c 1 hs) is ∙ over_rest 0 [] hs (omega arith) in
    sure_then P old (Writing 1 hs) (surely (Writing 0 (1 ∷ []))) result new tt
    (subst P (sym is) (half_or_less digest [] (omega arith)))
    (λ found part. part_filled digest found len (subst (λ (c : List ℕ). IsPartOfWrite c 1 (length hs) found) is part))
    (opening_head digest (content_of mid) 0 done) (λ more. opens_head digest mid new result done more) ran

pub create_ends : (digest : List ℕ) (old new : Device) (result : Result (Unit {0}) StoreError) → length digest ≡ DIGEST_LEN
    → length (content_of old) ≤ 1 → Ran old (create_calls digest) result new → IsMaking Two digest (content_of new)
create_ends digest old new result len short ran =
    let P = IsMaking Two digest in
    let mid = after_call (after_call old (Writing 0 (0 ∷ []))) Syncing in
    let done : content_of mid ≡ 0 ∷ [] = over_all (content_of old) 0 short in
    sure_then P old (Writing 0 (0 ∷ [])) (fill_calls digest) result new tt (inl short)
    (λ found part. inl (omega (arith, part.no_longer, short)))
    (subst P (sym done) (half_or_less digest [] (omega arith)))
    (λ more. fills digest mid new result len done more) ran
