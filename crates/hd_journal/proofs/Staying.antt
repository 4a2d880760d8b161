-- Mending a journal that is found makes no store grow.
use Rattle.std.proofs.Common.{◌≡◌, ◌⊎◌, inl, inr, ℕ, ◌+◌, ◌<◌, ◌≤◌, ◌==◌, Bool, true, false, List, [], ◌∷◌, ◌++◌, length, take, drop, Result, Ok, Err, refl, sym, ap, ◌∙◌, arith, if◌then◌else◌}
use Rattle.std.specs.List.{flat_map}
use Rattle.std.proofs.lemmas.List.{length-append, length-take-le, length-drop}
use Rattle.hd_image.specs.declared.version.Version.{Version}
use Rattle.hd_image.specs.declared.header.TheConstants.{FIRST_GATE, DIGEST_LEN}
use Rattle.hd_image.specs.declared.contents.Contents.{Contents}
use Rattle.hd_image.specs.declared.contents.Found.TheVariants.{Journal}
use Rattle.hd_image.specs.Image.{header, opened}
use Rattle.hd_image.specs.Reading.{IsFound, IsJournal}
use Rattle.hd_store.specs.declared.error.StoreError.TheVariants.{NoMemory}
use Rattle.hd_store.specs.Bytes.{written_over}
use Rattle.hd_store.specs.Device.{Device, content_of}
use Rattle.hd_journal.specs.Calls.{Call, after_call, Ran, surely}
use Rattle.hd_journal.specs.Calls.Call.{Writing, Cutting, Syncing}
use Rattle.hd_journal.specs.Journal.{cut_calls, gate_calls, head_calls, mend_calls, open_calls}

-- a byte that is written within the length leaves it
over_within : (content : List ℕ) (at byte : ℕ) → at + 1 ≤ length content → length (written_over content at (byte ∷ [])) ≡ length content
over_within content at byte within =
    let back = drop (at + 1) content in
    let whole = length-append (take at content ++ byte ∷ []) back in
    let first = length-append (take at content) (byte ∷ []) in
    let front = length-take-le at content (omega (arith, within)) in
    let rest = length-drop (at + 1) content in
    omega (arith, whole, first, front, rest, within)

-- a byte is written within the length and made sure of
one_byte : (old new : Device) (at byte : ℕ) (rest : List Call) → at + 1 ≤ length (content_of old)
    → ((mid : Device) → length (content_of mid) ≡ length (content_of old) → Ran mid rest (Err NoMemory) new → ⊥)
    → Ran old (Writing at (byte ∷ []) ∷ Syncing ∷ rest) (Err NoMemory) new → ⊥
one_byte old new at byte rest within more ran =
    elim ran [
      | inr ends ↦ let longer : length (content_of old) < at + 1 = ends.0 in omega (arith, longer, within)
      | inl w ↦ elim w.1 [
        | inr ends ↦ ends.0
        | inl v ↦
            more (after_call (after_call old (Writing at (byte ∷ []))) Syncing) (over_within (content_of old) at byte within) v.1
      ]
    ]

cut_grows_not : (old new : Device) (is_none : Bool) (at : ℕ) → Ran old (if is_none then [] else surely (Cutting (at + 1))) (Err NoMemory) new → ⊥
cut_grows_not old new true at ran = ran.0
cut_grows_not old new false at ran =
    elim ran [
      | inr ends ↦ ends.0
      | inl w ↦ elim w.1 [ inr ends ↦ ends.0 | inl v ↦ v.1.0 ]
    ]

gate_grows_not : (old new : Device) (is_closed : Bool) (at behind : ℕ) → at + 1 ≤ length (content_of old)
    → Ran old (gate_calls is_closed at ++ cut_calls behind at) (Err NoMemory) new → ⊥
gate_grows_not old new true at behind within ran = cut_grows_not old new (behind == 0) at ran
gate_grows_not old new false at behind within ran =
    one_byte old new at 0 (cut_calls behind at) within (λ mid same more. cut_grows_not mid new (behind == 0) at more) ran

head_grows_not : (old new : Device) (is_open is_closed : Bool) (at behind : ℕ) → at + 1 ≤ length (content_of old)
    → Ran old (head_calls is_open ++ (gate_calls is_closed at ++ cut_calls behind at)) (Err NoMemory) new → ⊥
head_grows_not old new true is_closed at behind within ran = gate_grows_not old new is_closed at behind within ran
head_grows_not old new false is_closed at behind within ran =
    one_byte old new 0 1 (gate_calls is_closed at ++ cut_calls behind at) (omega (arith, within))
    (λ mid same more. gate_grows_not mid new is_closed at behind (omega (arith, same, within)) more) ran

-- the last gate stands within the length
gate_within : (digest content : List ℕ) (found : Contents) → IsJournal digest content found → found.last_gate + 1 ≤ length content
gate_within digest content found is =
    let groups = flat_map (opened is.v) is.groups in
    let whole : length content ≡ length (is.head ∷ header is.v digest ++ (groups ++ is.gate ∷ is.behind)) = ap length is.headed.whole in
    let outer = length-append digest (groups ++ is.gate ∷ is.behind) in
    let inner = length-append groups (is.gate ∷ is.behind) in
    let place : found.last_gate ≡ FIRST_GATE + length groups = ap (λ (f : Contents). f.last_gate) is.told in
    omega (arith, whole, outer, inner, place, is.headed.digest_len)

pub mending_grows_not : (digest : List ℕ) (old new : Device) (found : Contents) → IsFound digest (content_of old) (Journal found)
    → Ran old (open_calls digest (Journal found)) (Err NoMemory) new → ⊥
mending_grows_not digest old new found is ran =
    head_grows_not old new found.header_open found.gate_closed found.last_gate found.behind
    (gate_within digest (content_of old) found is) ran
