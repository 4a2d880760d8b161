-- Headers that are made.
use Rattle.std.proofs.Common.{◌≡◌, inl, inr, ℕ, ◌≤◌, List, [], ◌∷◌, ◌++◌, length, Result, refl, sym, ap, ◌∙◌, subst, arith}
use Rattle.std.proofs.lemmas.List.{length-append}
use Rattle.hd_image.specs.declared.version.Version.TheVariants.{Two}
use Rattle.hd_image.specs.declared.header.TheConstants.{FIRST_GATE, DIGEST_LEN}
use Rattle.hd_image.specs.Image.{header, image}
use Rattle.hd_image.specs.Stops.{IsMaking}
use Rattle.hd_image.proofs.Stopping.{made}
use Rattle.hd_store.specs.declared.error.StoreError.{StoreError}
use Rattle.hd_store.specs.Bytes.{written_over, IsPartOfWrite}
use Rattle.hd_store.specs.Device.{Device, content_of}
use Rattle.hd_journal.specs.Calls.{after_call, Ran, RanThrough, surely}
use Rattle.hd_journal.specs.Calls.Call.{Writing, Syncing}
use Rattle.hd_journal.specs.Journal.{create_calls, fill_calls}
use Rattle.hd_journal.specs.Moments.{LeavesSince, IsSettled}
use Rattle.hd_journal.proofs.Bytes.{over_one, over_rest, over_all, part_one, part_rest}
use Rattle.hd_journal.proofs.Running.{led_on}
use Rattle.hd_journal.proofs.Passing.{sure_then, no_more}

-- a header without its gate, and the first group's gate, closed
abbrev pub head_bytes : List ℕ → List ℕ
head_bytes digest = header Two digest ++ 0 ∷ []

pub head_len : (digest : List ℕ) → length digest ≡ DIGEST_LEN → length (head_bytes digest) ≡ FIRST_GATE
head_len digest len = let both = length-append digest (0 ∷ []) in omega (arith, both, len)

-- ---- what stands there then

filled : (content rest hs : List ℕ) → content ≡ 0 ∷ rest → length rest ≤ length hs
    → written_over (written_over content 1 hs) 0 (1 ∷ []) ≡ 1 ∷ hs
filled content rest hs is short =
    ap (λ (c : List ℕ). written_over (written_over c 1 hs) 0 (1 ∷ [])) is
    ∙ (ap (λ (c : List ℕ). written_over c 0 (1 ∷ [])) (over_rest 0 rest hs short) ∙ over_one [] hs 0 1 0 refl)

pub fill_content : (digest : List ℕ) (old new : Device) (rest : List ℕ) → length digest ≡ DIGEST_LEN → content_of old ≡ 0 ∷ rest
    → length rest ≤ FIRST_GATE → RanThrough old (fill_calls digest) new → content_of new ≡ image Two digest []
fill_content digest old new rest len is short ran =
    ap content_of (led_on old new (fill_calls digest) ran)
    ∙ (filled (content_of old) rest (head_bytes digest) is (omega (arith, short, head_len digest len)) ∙ made Two digest)

pub create_content : (digest : List ℕ) (old new : Device) → length digest ≡ DIGEST_LEN → length (content_of old) ≤ 1
    → RanThrough old (create_calls digest) new → content_of new ≡ image Two digest []
create_content digest old new len short ran =
    ap content_of (led_on old new (create_calls digest) ran)
    ∙ (filled (written_over (content_of old) 0 (0 ∷ [])) [] (head_bytes digest) (over_all (content_of old) 0 short)
    (omega (arith, head_len digest len)) ∙ made Two digest)

-- ---- what a stop leaves meanwhile

half_or_less : (digest rest : List ℕ) → length rest ≤ FIRST_GATE → IsMaking Two digest (0 ∷ rest)
half_or_less digest [] short = inl (omega arith)
half_or_less digest (x ∷ rest) short = inr (inl (record { rest = x ∷ rest; closed = refl; some = omega arith; short = short }))

pub opening_head : (digest content : List ℕ) (gate : ℕ) → content ≡ gate ∷ head_bytes digest → IsMaking Two digest content
opening_head digest content gate whole = inr (inr (record { gate = gate; whole = whole }))

part_filled : (digest rest found : List ℕ) → length digest ≡ DIGEST_LEN → length rest ≤ FIRST_GATE
    → IsPartOfWrite (0 ∷ rest) 1 (length (head_bytes digest)) found → IsMaking Two digest found
part_filled digest rest found len short part =
    let is = part_rest rest (length (head_bytes digest)) found (omega (arith, short, head_len digest len)) part in
    subst (IsMaking Two digest) (sym is.1) (half_or_less digest is.0 (omega (arith, is.2, head_len digest len)))

-- the header's gate is opened
pub open_head_moments : (digest : List ℕ) (old new : Device) (gate : ℕ) (result : Result (Unit {0}) StoreError) → IsSettled old
    → content_of old ≡ gate ∷ head_bytes digest → Ran old (surely (Writing 0 (1 ∷ []))) result new → LeavesSince (IsMaking Two digest) old new
open_head_moments digest old new gate result settled is ran =
    let P = IsMaking Two digest in
    let hs = head_bytes digest in
    let end = after_call (after_call old (Writing 0 (1 ∷ []))) Syncing in
    let done : content_of end ≡ 1 ∷ hs =
    ap (λ (c : List ℕ). written_over c 0 (1 ∷ [])) is ∙ over_one [] hs gate 1 0 refl in
    let holds : P (content_of end) = opening_head digest (content_of end) 1 done in
    sure_then P old (Writing 0 (1 ∷ [])) [] result new tt settled (opening_head digest (content_of old) gate is)
    (λ found part.
    let at_zero = part_one [] hs gate 0 found refl (subst (λ (c : List ℕ). IsPartOfWrite c 0 1 found) is part) in
    opening_head digest found at_zero.0 at_zero.1)
    holds (λ more. no_more P end result new refl holds more) ran

pub fill_moments : (digest : List ℕ) (old new : Device) (rest : List ℕ) (result : Result (Unit {0}) StoreError) → length digest ≡ DIGEST_LEN
    → IsSettled old → content_of old ≡ 0 ∷ rest → length rest ≤ FIRST_GATE → Ran old (fill_calls digest) result new
    → LeavesSince (IsMaking Two digest) old new
fill_moments digest old new rest result len settled is short ran =
    let P = IsMaking Two digest in
    let hs = head_bytes digest in
    let mid = after_call (after_call old (Writing 1 hs)) Syncing in
    let done : content_of mid ≡ 0 ∷ hs =
    ap (λ (c : List ℕ). written_over c 1 hs) is ∙ over_rest 0 rest hs (omega (arith, short, head_len digest len)) in
    sure_then P old (Writing 1 hs) (surely (Writing 0 (1 ∷ []))) result new tt settled
    (subst P (sym is) (half_or_less digest rest short))
    (λ found part. part_filled digest rest found len short (subst (λ (c : List ℕ). IsPartOfWrite c 1 (length hs) found) is part))
    (opening_head digest (content_of mid) 0 done) (λ more. open_head_moments digest mid new 0 result refl done more) ran

pub create_moments : (digest : List ℕ) (old new : Device) (result : Result (Unit {0}) StoreError) → length digest ≡ DIGEST_LEN
    → IsSettled old → length (content_of old) ≤ 1 → Ran old (create_calls digest) result new → LeavesSince (IsMaking Two digest) old new
create_moments digest old new result len settled short ran =
    let P = IsMaking Two digest in
    let mid = after_call (after_call old (Writing 0 (0 ∷ []))) Syncing in
    let done : content_of mid ≡ 0 ∷ [] = over_all (content_of old) 0 short in
    sure_then P old (Writing 0 (0 ∷ [])) (fill_calls digest) result new tt settled (inl short)
    (λ found part. inl (omega (arith, part.no_longer, short)))
    (subst P (sym done) (half_or_less digest [] (omega arith)))
    (λ more. fill_moments digest mid new [] result len refl done (omega arith) more) ran
