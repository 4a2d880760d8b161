-- What a stop leaves while a header of either version is opened that an earlier stop left.
use Rattle.std.proofs.Common.{◌≡◌, ◌≢◌, inl, inr, ℕ, ◌==◌, Bool, true, false, List, [], ◌∷◌, ◌++◌, length, Result, refl, ap, ◌∙◌, subst, arith}
use Rattle.std.proofs.lemmas.Bool.{eqb-true, eqb-false}
use Rattle.std.proofs.lemmas.List.{length-append}
use Rattle.hd_store.specs.declared.error.StoreError.{StoreError}
use Rattle.hd_store.specs.Bytes.{IsPartOfWrite, written_over}
use Rattle.hd_store.specs.Device.{Device, content_of}
use Rattle.hd_store.specs.Past.{Step}
use Rattle.hd_image.specs.declared.version.Version.{Version}
use Rattle.hd_image.specs.declared.version.Version.TheVariants.{Two}
use Rattle.hd_image.specs.declared.header.TheConstants.{FIRST_GATE, DIGEST_LEN}
use Rattle.hd_image.specs.declared.contents.Found.{Found}
use Rattle.hd_image.specs.declared.contents.Found.TheVariants.{HalfMade, Journal}
use Rattle.hd_image.specs.Image.{header}
use Rattle.hd_image.specs.Reading.{IsFound, IsHead, IsHalfMade, contents_of}
use Rattle.hd_image.specs.Stops.{IsMaking}
use Rattle.hd_journal.specs.Calls.{after_call, Ran}
use Rattle.hd_journal.specs.Calls.Call.{Writing, Syncing}
use Rattle.hd_journal.specs.Journal.{head_calls, open_calls}
use Rattle.hd_journal.specs.Moments.{LeavesAlong, LeavesSince, IsSettled}
use Rattle.hd_journal.proofs.Again.{making_moments}
use Rattle.hd_journal.proofs.Bytes.{over_one, part_one}
use Rattle.hd_journal.proofs.Making.{fill_moments}
use Rattle.hd_journal.proofs.Opening.{found_one}
use Rattle.hd_journal.proofs.Passing.{sure_then, no_more}
use Rattle.hd_world.specs.Left.{IsHeaderLeft}

-- ---- what holds of all that is left

weaker_along : (P Q : List ℕ → Type 0) (start : List ℕ) (since before : List Step) → ((content : List ℕ) → P content → Q content)
    → LeavesAlong P start since before → LeavesAlong Q start since before
weaker_along P Q start [] before h a = λ content left. h content (a content left)
weaker_along P Q start (s ∷ since) before h a = (λ content left. h content (a.0 content left), weaker_along P Q start since before h a.1)

weaker_since : (P Q : List ℕ → Type 0) (old new : Device) → ((content : List ℕ) → P content → Q content) → LeavesSince P old new → LeavesSince Q old new
weaker_since P Q old new h l = record {
  since = l.since;
  start = l.start;
  steps = l.steps;
  each = weaker_along P Q old.start l.since old.steps h l.each;
}

module _ (v : Version) (digest : List ℕ) (len : length digest ≡ DIGEST_LEN) where
  abbrev P : List ℕ → Type 0
  P content = IsHeaderLeft v digest content

  -- the header without its gate, and the first group's gate, closed
  abbrev hs : List ℕ
  hs = header v digest ++ 0 ∷ []

  hs_len : length hs ≡ FIRST_GATE
  hs_len = let both = length-append digest (0 ∷ []) in omega (arith, both, len)

  stands : (content : List ℕ) (gate : ℕ) → content ≡ gate ∷ hs → P content
  stands content gate whole = inr (record { gate = gate; whole = whole })

  zero_not_one : ◌≢◌ {A = ℕ} 0 1
  zero_not_one e = omega (arith, e)

  -- its gate is opened
  opened : (old new : Device) (gate : ℕ) (is_open : Bool) (result : Result (Unit {0}) StoreError) → IsSettled old
      → content_of old ≡ gate ∷ hs → Ran old (head_calls is_open ++ []) result new → LeavesSince P old new
  opened old new gate true result settled is ran = no_more P old result new settled (stands (content_of old) gate is) ran
  opened old new gate false result settled is ran =
      let end = after_call (after_call old (Writing 0 (1 ∷ []))) Syncing in
      let done : content_of end ≡ 1 ∷ hs =
      ap (λ (c : List ℕ). written_over c 0 (1 ∷ [])) is ∙ over_one [] hs gate 1 0 refl in
      let holds : P (content_of end) = stands (content_of end) 1 done in
      sure_then P old (Writing 0 (1 ∷ [])) [] result new tt settled (stands (content_of old) gate is)
      (λ found part.
      let at_zero = part_one [] hs gate 0 found refl (subst (λ (c : List ℕ). IsPartOfWrite c 0 1 found) is part) in
      stands found at_zero.0 at_zero.1)
      holds (λ more. no_more P end result new refl holds more) ran

  is_head : (gate : ℕ) (is_open : Bool) → (gate == 1) ≡ is_open → gate ≢ 0 → IsHead gate 1
  is_head gate true e other = inl (eqb-true gate 1 e, omega arith)
  is_head gate false e other = inr (other, eqb-false gate 1 e, refl)

  mended : (found : Found) (old new : Device) (gate : ℕ) (is_closed : Bool) (result : Result (Unit {0}) StoreError) → (gate == 0) ≡ is_closed → IsSettled old
      → content_of old ≡ gate ∷ hs → IsFound digest (content_of old) found → Ran old (open_calls digest found) result new → LeavesSince P old new
  mended found old new gate true result e settled is found_is ran =
      let closed : content_of old ≡ 0 ∷ hs = is ∙ ap (λ (g : ℕ). g ∷ hs) (eqb-true gate 0 e) in
      let half : IsHalfMade (content_of old) = record { rest = hs; closed = closed; some = omega (arith, hs_len); short = omega (arith, hs_len) } in
      let told = found_one digest (content_of old) found HalfMade found_is half in
      weaker_since (IsMaking Two digest) P old new (λ content making. inl making)
      (fill_moments digest old new hs result len settled closed (omega (arith, hs_len)) (subst (λ (f : Found). Ran old (open_calls digest f) result new) told ran))
  mended found old new gate false result e settled is found_is ran =
      let told = found_one digest (content_of old) found (Journal (contents_of v gate [] 0 [])) found_is (record {
        head = gate;
        v = v;
        groups = [];
        gate = 0;
        behind = [];
        headed = record { whole = is; digest_len = len; gate = is_head gate (gate == 1) refl (eqb-false gate 0 e) };
        sound = tt;
        ends = zero_not_one;
        told = refl;
      }) in
      opened old new gate (gate == 1) result settled is (subst (λ (f : Found). Ran old (open_calls digest f) result new) told ran)

  pub header_moments : (found : Found) (old new : Device) (result : Result (Unit {0}) StoreError) → IsSettled old
      → P (content_of old) → IsFound digest (content_of old) found → Ran old (open_calls digest found) result new → LeavesSince P old new
  header_moments found old new result settled left found_is ran =
      elim left [
        | inl making ↦
            weaker_since (IsMaking Two digest) P old new (λ content making. inl making)
            (making_moments digest found old new result len settled making found_is ran)
        | inr opening ↦ mended found old new opening.gate (opening.gate == 0) result refl settled opening.whole found_is ran
      ]
