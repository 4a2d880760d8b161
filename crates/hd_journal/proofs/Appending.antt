-- Groups that are appended.
use Rattle.std.proofs.Common.{◌≡◌, inl, inr, ℕ, ◌+◌, List, [], ◌∷◌, ◌++◌, length, Result, refl, ap, ◌∙◌, subst, append_assoc, arith}
use Rattle.std.proofs.lemmas.List.{length-append}
use Rattle.hd_task.specs.declared.plan.Kid.{Kid}
use Rattle.hd_image.specs.declared.version.Version.{Version}
use Rattle.hd_image.specs.Image.{counted, front}
use Rattle.hd_image.specs.Stops.{IsBeforeOrAfter}
use Rattle.hd_store.specs.declared.error.StoreError.{StoreError}
use Rattle.hd_store.specs.Bytes.{written_over, IsPartOfWrite}
use Rattle.hd_store.specs.Device.{Device, content_of}
use Rattle.hd_journal.specs.Calls.{Call, after_call, Ran, RanThrough, surely}
use Rattle.hd_journal.specs.Calls.Call.{Writing, Syncing}
use Rattle.hd_journal.specs.Journal.{append_calls}
use Rattle.hd_journal.specs.Moments.{LeavesSince, IsSettled}
use Rattle.hd_journal.proofs.Bytes.{over_end, over_one, part_end, part_one}
use Rattle.hd_journal.proofs.Running.{led_on}
use Rattle.hd_journal.proofs.Passing.{sure_then, no_more}

-- bytes are written after a gate, which is opened then
abbrev pub behind_calls : ℕ → List ℕ → List Call
behind_calls gate bytes = surely (Writing (gate + 1) bytes) ++ surely (Writing gate (1 ∷ []))

-- ---- what stands there then

gate_len : (f : List ℕ) (gate : ℕ) → gate ≡ length f → gate + 1 ≡ length (f ++ 0 ∷ [])
gate_len f gate e = let both = length-append f (0 ∷ []) in omega (arith, both, e)

written : (content f bytes : List ℕ) (gate : ℕ) → content ≡ f ++ 0 ∷ [] → gate ≡ length f
    → written_over content (gate + 1) bytes ≡ f ++ 0 ∷ bytes
written content f bytes gate is e =
    ap (λ (c : List ℕ). written_over c (gate + 1) bytes) is
    ∙ (over_end (f ++ 0 ∷ []) bytes (gate + 1) (gate_len f gate e) ∙ append_assoc f (0 ∷ []) bytes)

pub behind_content : (old new : Device) (f bytes : List ℕ) (gate : ℕ) → content_of old ≡ f ++ 0 ∷ [] → gate ≡ length f
    → RanThrough old (behind_calls gate bytes) new → content_of new ≡ f ++ 1 ∷ bytes
behind_content old new f bytes gate is e ran =
    ap content_of (led_on old new (behind_calls gate bytes) ran)
    ∙ (ap (λ (c : List ℕ). written_over c gate (1 ∷ [])) (written (content_of old) f bytes gate is e) ∙ over_one f bytes 0 1 gate e)

-- ---- what a stop leaves meanwhile

pub closed : (v : Version) (digest : List ℕ) (groups : List (List Kid)) (next : List Kid) (content behind : List ℕ)
    → content ≡ front v digest groups ++ 0 ∷ behind → IsBeforeOrAfter v digest groups next content
closed v digest groups next content behind whole = inl (record { behind = behind; whole = whole })

pub opening : (v : Version) (digest : List ℕ) (groups : List (List Kid)) (next : List Kid) (content : List ℕ) (gate : ℕ)
    → content ≡ front v digest groups ++ gate ∷ (counted v next ++ 0 ∷ []) → IsBeforeOrAfter v digest groups next content
opening v digest groups next content gate whole = inr (record { gate = gate; whole = whole })

-- the gate before the next group is written, to whatever it reads
pub gate_moments : (v : Version) (digest : List ℕ) (groups : List (List Kid)) (next : List Kid) (old new : Device) (at gate byte : ℕ)
    (rest : List Call) (result : Result (Unit {0}) StoreError) → at ≡ length (front v digest groups) → IsSettled old
    → content_of old ≡ front v digest groups ++ gate ∷ (counted v next ++ 0 ∷ [])
    → ((mid : Device) → IsSettled mid → content_of mid ≡ front v digest groups ++ byte ∷ (counted v next ++ 0 ∷ []) → Ran mid rest result new
    → LeavesSince (IsBeforeOrAfter v digest groups next) mid new)
    → Ran old (Writing at (byte ∷ []) ∷ Syncing ∷ rest) result new → LeavesSince (IsBeforeOrAfter v digest groups next) old new
gate_moments v digest groups next old new at gate byte rest result e settled is more ran =
    let P = IsBeforeOrAfter v digest groups next in
    let f = front v digest groups in
    let bytes = counted v next ++ 0 ∷ [] in
    let end = after_call (after_call old (Writing at (byte ∷ []))) Syncing in
    let done : content_of end ≡ f ++ byte ∷ bytes =
    ap (λ (c : List ℕ). written_over c at (byte ∷ [])) is ∙ over_one f bytes gate byte at e in
    sure_then P old (Writing at (byte ∷ [])) rest result new tt settled (opening v digest groups next (content_of old) gate is)
    (λ found part.
    let one = part_one f bytes gate at found e (subst (λ (c : List ℕ). IsPartOfWrite c at 1 found) is part) in
    opening v digest groups next found one.0 one.1)
    (opening v digest groups next (content_of end) byte done) (λ left. more end refl done left) ran

pub append_moments : (v : Version) (digest : List ℕ) (groups : List (List Kid)) (next : List Kid) (old new : Device) (gate : ℕ)
    (result : Result (Unit {0}) StoreError) → gate ≡ length (front v digest groups) → IsSettled old
    → content_of old ≡ front v digest groups ++ 0 ∷ []
    → Ran old (append_calls v gate next) result new → LeavesSince (IsBeforeOrAfter v digest groups next) old new
append_moments v digest groups next old new gate result e settled is ran =
    let P = IsBeforeOrAfter v digest groups next in
    let f = front v digest groups in
    let bytes = counted v next ++ 0 ∷ [] in
    let mid = after_call (after_call old (Writing (gate + 1) bytes)) Syncing in
    let done : content_of mid ≡ f ++ 0 ∷ bytes = written (content_of old) f bytes gate is e in
    sure_then P old (Writing (gate + 1) bytes) (surely (Writing gate (1 ∷ []))) result new tt settled
    (closed v digest groups next (content_of old) [] is)
    (λ found part.
    let end = part_end (f ++ 0 ∷ []) (gate + 1) (length bytes) found (gate_len f gate e)
    (subst (λ (c : List ℕ). IsPartOfWrite c (gate + 1) (length bytes) found) is part) in
    closed v digest groups next found end.0 (end.1 ∙ append_assoc f (0 ∷ []) end.0))
    (opening v digest groups next (content_of mid) 0 done)
    (λ left. gate_moments v digest groups next mid new gate 0 1 [] result e refl done
    (λ end sure stands nothing. no_more P end result new sure (opening v digest groups next (content_of end) 1 stands) nothing) left) ran
