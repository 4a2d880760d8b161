-- What stands in a file while it is mended, or its header is made, also after a call that failed.
use Rattle.std.proofs.Common.{◌≡◌, ◌⊎◌, inl, inr, ℕ, suc, ◌+◌, ◌<◌, ◌≤◌, ◌-◌, ◌==◌, Bool, true, false, List, [], ◌∷◌, ◌++◌, length, take, drop, get_or, append_assoc, Result, Ok, Err, refl, sym, ap, ◌∙◌, subst, arith, if◌then◌else◌}
use Rattle.std.specs.Prelude.{◌&&◌, nat_le, nat_lt}
use Rattle.std.specs.List.{flat_map}
use Rattle.std.proofs.lemmas.Bool.{cases_lt, le-leb, lt-leb, lt-ltb}
use Rattle.std.proofs.lemmas.List.{length-append, length-drop, length-take, get_or-append_right, get_or-drop, get_or-take, get_or_append_left}
use Rattle.hd_image.specs.declared.contents.Contents.{Contents}
use Rattle.hd_image.specs.declared.contents.Found.TheVariants.{Journal}
use Rattle.hd_image.specs.declared.version.Version.TheVariants.{Two}
use Rattle.hd_image.specs.declared.header.TheConstants.{DIGEST_LEN, FIRST_GATE}
use Rattle.hd_image.specs.Stops.{IsMaking}
use Rattle.hd_image.specs.Image.{header, opened}
use Rattle.hd_image.specs.Reading.{IsFound, IsJournal}
use Rattle.hd_store.specs.declared.change.DiskChange.{DiskChange}
use Rattle.hd_store.specs.declared.change.DiskChange.TheVariants.{Write, Cut, FailedSync}
use Rattle.hd_store.specs.declared.error.StoreError.{StoreError}
use Rattle.hd_store.specs.declared.error.StoreError.TheVariants.{NoMemory, Failed}
use Rattle.hd_store.specs.Bytes.{written_over, is_in_range, IsPartOfWrite, IsPartOfCut}
use Rattle.hd_store.specs.Calls.{BreaksOff}
use Rattle.hd_store.specs.Device.{Device, content_of}
use Rattle.hd_journal.specs.Calls.{Call, content_by, after_call, Ran, Ends, Breaks, surely}
use Rattle.hd_journal.specs.Calls.Call.{Writing, Cutting, Syncing}
use Rattle.hd_journal.specs.Journal.{cut_calls, fill_calls, gate_calls, head_calls, mend_calls}
use Rattle.hd_journal.proofs.Bytes.{over_one, over_rest, part_one, part_rest}
use Rattle.hd_journal.proofs.Making.{head_bytes, head_len, opening_head}
use Rattle.hd_journal.proofs.Passing.{IsPart}
use Rattle.hplan.specs.Kept.{StandsBetween, first_changed, first_kept}

-- a place before a range, or behind it, is not in it
before_range : (at count place : ℕ) → place < at → is_in_range at count place ≡ false
before_range at count place below = ap (λ b. b && nat_lt place (at + count)) (lt-leb at place below)

and_false : (b : Bool) → (b && false) ≡ false
and_false true = refl
and_false false = refl

behind_range : (at count place : ℕ) → at + count ≤ place → is_in_range at count place ≡ false
behind_range at count place behind =
    ap (λ b. nat_le at place && b) (lt-leb (suc place) (at + count) (omega (arith, behind))) ∙ and_false (nat_le at place)

-- a change within so many bytes leaves alone what stands from one place on, before another
abbrev LeavesAlone : ℕ → ℕ → ℕ → Call → Type 0
LeavesAlone whole from upto (Writing at bytes) = (at + length bytes ≤ whole) × ((upto ≤ at) ⊎ (at + length bytes ≤ from))
LeavesAlone whole from upto (Cutting len) = upto ≤ len
LeavesAlone whole from upto Syncing = Unit {0}

abbrev AllLeaveAlone : ℕ → ℕ → ℕ → List Call → Type 0
AllLeaveAlone whole from upto [] = Unit {0}
AllLeaveAlone whole from upto (call ∷ calls) = LeavesAlone whole from upto call × AllLeaveAlone whole from upto calls

-- the whole of a write is a part of it
in_range : (at count place : ℕ) → at ≤ place → place < at + count → is_in_range at count place ≡ true
in_range at count place from below =
    ap (λ b. b && nat_lt place (at + count)) (le-leb at place from) ∙ lt-ltb place (at + count) below

outside : (content bytes : List ℕ) (at place : ℕ) → place < length content → is_in_range at (length bytes) place ≡ false
    → get_or (written_over content at bytes) place 0 ≡ get_or content place 0
outside content bytes at place below out =
    let rest = drop (at + length bytes) content in
    ap (λ xs. get_or xs place 0) (append_assoc (take at content) bytes rest)
    ∙ elim (cases_lt place at) [
      | inl before ↦
          get_or_append_left (take at content) (bytes ++ rest) 0 place (omega (arith, before, below, length-take at content))
          ∙ get_or-take at content place 0 before
      | inr from ↦ elim (cases_lt place (at + length bytes)) [
        | inl within ↦ let no : true ≡ false = sym (in_range at (length bytes) place from within) ∙ out in absurd (cc)
        | inr behind ↦
            let front : length (take at content) ≡ at = omega (arith, length-take at content, from, below) in
            get_or-append_right (take at content) (bytes ++ rest) at place 0 front from
            ∙ (get_or-append_right bytes rest (length bytes) (place - at) 0 refl (omega (arith, behind, from))
            ∙ (get_or-drop (at + length bytes) content (place - at - length bytes) 0
            ∙ ap (λ n. get_or content n 0) (omega (arith, behind, from))))
      ]
    ]

whole_write : (content bytes : List ℕ) (at : ℕ) → IsPartOfWrite content at (length bytes) (written_over content at bytes)
whole_write content bytes at =
    let rest = drop (at + length bytes) content in
    let all = ap length (append_assoc (take at content) bytes rest) ∙ length-append (take at content) (bytes ++ rest) in
    let behind = length-append bytes rest in
    let front = length-take at content in
    let back = length-drop (at + length bytes) content in
    record {
      no_shorter = omega (arith, all, behind, front, back);
      no_longer = omega (arith, all, behind, front, back);
      others = λ place below out. outside content bytes at place below out;
    }

whole_part : (call : Call) (content : List ℕ) → IsPart call content (content_by call content)
whole_part (Writing at bytes) content = whole_write content bytes at
whole_part (Cutting len) content = (len, omega arith, refl)
whole_part Syncing content = refl

-- ---- calls of which one may fail

module _ (P : List ℕ → Type 0) where
  broke : (old new : Device) (change : DiskChange) (Part : List ℕ → Type 0) → P (content_of old) → ((now : List ℕ) → Part now → P now)
      → BreaksOff old change Part new → P (content_of new)
  broke old new change Part holds part breaks =
      elim breaks [
        | inl closed ↦ subst (λ (d : Device). P (content_of d)) (sym closed.1) holds
        | inr begun ↦ subst (λ (d : Device). P (content_of d)) (sym begun.1.2) (part begun.1.0 begun.1.1)
      ]

  broke_call : (old new : Device) (call : Call) → P (content_of old) → ((found : List ℕ) → IsPart call (content_of old) found → P found)
      → Breaks old call new → P (content_of new)
  broke_call old new (Writing at bytes) holds part breaks =
      broke old new (Write at (length bytes)) (IsPartOfWrite (content_of old) at (length bytes)) holds part breaks
  broke_call old new (Cutting len) holds part breaks = broke old new (Cut len) (IsPartOfCut (content_of old) len) holds part breaks
  broke_call old new Syncing holds part breaks = broke old new FailedSync (λ now. now ≡ content_of old) holds part breaks

  ended : (old new : Device) (call : Call) (result : Result (Unit {0}) StoreError) → P (content_of old)
      → ((found : List ℕ) → IsPart call (content_of old) found → P found) → Ends old call result new → P (content_of new)
  ended old new call (Ok done) holds part ends = absurd ends
  ended old new call (Err Failed) holds part ends = broke_call old new call holds part ends.1
  ended old new call (Err NoMemory) holds part ends = subst (λ (d : Device). P (content_of d)) (sym ends.1) holds

  -- what holds before a call, and of each part of it, and after all that follow it
  ran_then : (old new : Device) (call : Call) (rest : List Call) (result : Result (Unit {0}) StoreError) → P (content_of old)
      → ((found : List ℕ) → IsPart call (content_of old) found → P found) → (Ran (after_call old call) rest result new → P (content_of new))
      → Ran old (call ∷ rest) result new → P (content_of new)
  ran_then old new call rest result holds part more ran = elim ran [ inr ends ↦ ended old new call result holds part ends | inl w ↦ more w.1 ]

  -- a call that changes nothing that a read gives
  synced_then : (old new : Device) (rest : List Call) (result : Result (Unit {0}) StoreError) → P (content_of old)
      → (Ran (after_call old Syncing) rest result new → P (content_of new)) → Ran old (Syncing ∷ rest) result new → P (content_of new)
  synced_then old new rest result holds more ran =
      ran_then old new Syncing rest result holds (λ found same. subst P (sym same) holds) more ran

-- ---- what is left alone

module _ (from upto : ℕ) (before : List ℕ) where
  abbrev Stands : List ℕ → Type 0
  Stands after = StandsBetween from upto before after

  out_of : (at count place : ℕ) → from ≤ place → place < upto → (upto ≤ at) ⊎ (at + count ≤ from) → is_in_range at count place ≡ false
  out_of at count place after below (inl alone) = before_range at count place (omega (arith, alone, below))
  out_of at count place after below (inr alone) = behind_range at count place (omega (arith, alone, after))

  part_stands : (call : Call) (content found : List ℕ) → LeavesAlone (length before) from upto call → Stands content → IsPart call content found
      → Stands found
  part_stands (Writing at bytes) content found alone s part = record {
    there = omega (arith, s.there, part.no_shorter);
    no_longer = omega (arith, s.no_longer, part.no_longer, alone.0);
    same = λ place after below.
        part.others place (omega (arith, below, s.there)) (out_of at (length bytes) place after below alone.1)
        ∙ s.same place after below;
  }
  part_stands (Cutting len) content found alone s part =
      subst Stands (sym part.2) (record {
        there = omega (arith, length-take part.0 content, s.there, alone, part.1);
        no_longer = omega (arith, length-take part.0 content, s.no_longer);
        same = λ place after below.
            get_or-take part.0 content place 0 (omega (arith, below, alone, part.1)) ∙ s.same place after below;
      })
  part_stands Syncing content found alone s part = subst Stands (sym part) s

  ran_stands : (calls : List Call) (old new : Device) (result : Result (Unit {0}) StoreError) → AllLeaveAlone (length before) from upto calls
      → Stands (content_of old) → Ran old calls result new → Stands (content_of new)
  ran_stands [] old new result alone stands ran = subst (λ (d : Device). Stands (content_of d)) (sym ran.1) stands
  ran_stands (call ∷ calls) old new result alone stands ran =
      ran_then Stands old new call calls result stands (λ found part. part_stands call (content_of old) found alone.0 stands part)
      (λ more.
      ran_stands calls (after_call old call) new result alone.1
      (part_stands call (content_of old) (content_by call (content_of old)) alone.0 stands (whole_part call (content_of old))) more) ran

-- ---- a journal that is mended

cut_alone : (whole from upto gate : ℕ) (is_none : Bool) → upto ≤ gate + 1
    → AllLeaveAlone whole from upto (if is_none then [] else surely (Cutting (gate + 1)))
cut_alone whole from upto gate true below = tt
cut_alone whole from upto gate false below = (below, (tt, tt))

gate_alone : (whole from gate behind : ℕ) (is_closed : Bool) → gate + 1 ≤ whole
    → AllLeaveAlone whole from (if is_closed then gate + 1 else gate) (gate_calls is_closed gate ++ cut_calls behind gate)
gate_alone whole from gate behind true within = cut_alone whole from (gate + 1) gate (behind == 0) (omega arith)
gate_alone whole from gate behind false within =
    ((within, inl (omega arith)), (tt, cut_alone whole from gate gate (behind == 0) (omega arith)))

mend_alone : (whole gate behind : ℕ) (is_open is_closed : Bool) → gate + 1 ≤ whole
    → AllLeaveAlone whole (first_kept is_open) (if is_closed then gate + 1 else gate)
    (head_calls is_open ++ (gate_calls is_closed gate ++ cut_calls behind gate))
mend_alone whole gate behind true is_closed within = gate_alone whole 0 gate behind is_closed within
mend_alone whole gate behind false is_closed within =
    ((omega (arith, within), inr (omega arith)), (tt, gate_alone whole 1 gate behind is_closed within))

-- the last gate stands within the content
gate_within : (digest content : List ℕ) (found : Contents) → IsJournal digest content found → found.last_gate + 1 ≤ length content
gate_within digest content found is =
    let groups = flat_map (opened is.v) is.groups in
    let whole : length content ≡ length (is.head ∷ header is.v digest ++ (groups ++ is.gate ∷ is.behind)) = ap length is.headed.whole in
    let outer = length-append digest (groups ++ is.gate ∷ is.behind) in
    let inner = length-append groups (is.gate ∷ is.behind) in
    let place : found.last_gate ≡ FIRST_GATE + length groups = ap (λ (f : Contents). f.last_gate) is.told in
    omega (arith, whole, outer, inner, place, is.headed.digest_len)

changed_within : (gate : ℕ) (is_closed : Bool) (content : List ℕ) → gate + 1 ≤ length content → (if is_closed then gate + 1 else gate) ≤ length content
changed_within gate true content within = within
changed_within gate false content within = omega (arith, within)

pub mended_stands : (digest : List ℕ) (old new : Device) (found : Contents) (result : Result (Unit {0}) StoreError)
    → IsFound digest (content_of old) (Journal found) → Ran old (mend_calls found) result new
    → StandsBetween (first_kept found.header_open) (first_changed found) (content_of old) (content_of new)
mended_stands digest old new found result is ran =
    let within = gate_within digest (content_of old) found is in
    ran_stands (first_kept found.header_open) (first_changed found) (content_of old) (mend_calls found) old new result
    (mend_alone (length (content_of old)) found.last_gate found.behind found.header_open found.gate_closed within)
    (record {
      there = changed_within found.last_gate found.gate_closed (content_of old) within;
      no_longer = omega arith;
      same = λ place after below. refl;
    }) ran

-- ---- a header that is still to be made

half_or_less : (digest rest : List ℕ) → length rest ≤ FIRST_GATE → IsMaking Two digest (0 ∷ rest)
half_or_less digest [] short = inl (omega arith)
half_or_less digest (x ∷ rest) short = inr (inl (record { rest = x ∷ rest; closed = refl; some = omega arith; short = short }))

part_filled : (digest rest found : List ℕ) → length digest ≡ DIGEST_LEN → length rest ≤ FIRST_GATE
    → IsPartOfWrite (0 ∷ rest) 1 (length (head_bytes digest)) found → IsMaking Two digest found
part_filled digest rest found len short part =
    let is = part_rest rest (length (head_bytes digest)) found (omega (arith, short, head_len digest len)) part in
    subst (IsMaking Two digest) (sym is.1) (half_or_less digest is.0 (omega (arith, is.2, head_len digest len)))

-- a header that was being made is being made still, or is made
pub still_made : (digest rest : List ℕ) (old new : Device) (result : Result (Unit {0}) StoreError) → length digest ≡ DIGEST_LEN
    → content_of old ≡ 0 ∷ rest → length rest ≤ FIRST_GATE → Ran old (fill_calls digest) result new → IsMaking Two digest (content_of new)
still_made digest rest old new result len is short ran =
    let P = IsMaking Two digest in
    let hs = head_bytes digest in
    let mid = after_call old (Writing 1 hs) in
    let sure = after_call mid Syncing in
    let end = after_call sure (Writing 0 (1 ∷ [])) in
    let done : content_of mid ≡ 0 ∷ hs =
    ap (λ (c : List ℕ). written_over c 1 hs) is ∙ over_rest 0 rest hs (omega (arith, short, head_len digest len)) in
    let made : content_of end ≡ 1 ∷ hs = ap (λ (c : List ℕ). written_over c 0 (1 ∷ [])) done ∙ over_one [] hs 0 1 0 refl in
    ran_then P old new (Writing 1 hs) (Syncing ∷ surely (Writing 0 (1 ∷ []))) result (subst P (sym is) (half_or_less digest rest short))
    (λ found part. part_filled digest rest found len short (subst (λ (c : List ℕ). IsPartOfWrite c 1 (length hs) found) is part))
    (λ first.
    synced_then P mid new (surely (Writing 0 (1 ∷ []))) result (opening_head digest (content_of mid) 0 done) (λ second.
    ran_then P sure new (Writing 0 (1 ∷ [])) (Syncing ∷ []) result (opening_head digest (content_of sure) 0 done)
    (λ found part.
    let one = part_one [] hs 0 0 found refl (subst (λ (c : List ℕ). IsPartOfWrite c 0 1 found) done part) in
    opening_head digest found one.0 one.1)
    (λ third.
    synced_then P end new [] result (opening_head digest (content_of end) 1 made) (λ last.
    subst (λ (d : Device). P (content_of d)) (sym last.1) (opening_head digest (content_of end) 1 made)) third) second) first) ran
