-- What is found in a file, and what mending makes of it.
use Rattle.std.proofs.Common.{◌≡◌, ◌≢◌, ℕ, suc, ◌+◌, ◌≤◌, ◌==◌, Bool, true, false, List, [], ◌∷◌, ◌++◌, length, take, Result, Ok, Err, refl, sym, ap, ◌∙◌, subst, append_assoc, arith, if◌then◌else◌}
use Rattle.std.specs.List.{flat_map, AllByRecursion}
use Rattle.std.proofs.lemmas.Bool.{eqb-true}
use Rattle.hd_task.specs.declared.plan.Kid.{Kid}
use Rattle.hd_image.specs.declared.version.Version.{Version}
use Rattle.hd_image.specs.declared.version.Version.TheVariants.{Two}
use Rattle.hd_image.specs.declared.header.TheConstants.{FIRST_GATE, DIGEST_LEN}
use Rattle.hd_image.specs.declared.contents.Contents.{Contents}
use Rattle.hd_image.specs.declared.contents.Found.{Found}
use Rattle.hd_image.specs.declared.contents.Found.TheVariants.{Unmade, HalfMade, Journal}
use Rattle.hd_image.specs.declared.error.ImageError.{ImageError}
use Rattle.hd_image.specs.declared.error.ImageError.TheVariants.{NoMemory}
use Rattle.hd_image.specs.Image.{IsGroup, opened, header, front, image, entries_in}
use Rattle.hd_image.specs.Reading.{IsFound, IsHalfMade, contents_of}
use Rattle.hd_image.proofs.Stopping.{is_journal, length-front}
use Rattle.hd_image.proofs.Ways.{one_answer}
use Rattle.hd_store.specs.Bytes.{written_over}
use Rattle.hd_store.specs.Device.{Device, content_of}
use Rattle.hd_journal.specs.Calls.{RanThrough, surely}
use Rattle.hd_journal.specs.Calls.Call.{Writing, Cutting}
use Rattle.hd_journal.specs.Journal.{head_calls, gate_calls, cut_calls, mend_calls, open_calls, version_in, found_in, gate_in}
use Rattle.hd_journal.proofs.Bytes.{over_one, cut_whole}
use Rattle.hd_journal.proofs.Running.{led_on, split}
use Rattle.hd_journal.proofs.Making.{create_content, fill_content}

-- ---- a file is found in one way

abbrev found_of : Result Found ImageError → Found
found_of (Ok found) = found
found_of (Err error) = Unmade

ok_not : (found : Found) → ◌≢◌ {A = Result Found ImageError} (Ok found) (Err NoMemory)
ok_not found e = cc

pub found_one : (digest content : List ℕ) (one other : Found) → IsFound digest content one → IsFound digest content other → one ≡ other
found_one digest content one other a b = ap found_of (one_answer digest content (Ok one) (Ok other) (ok_not one) (ok_not other) a b)

pub stands_found : (v : Version) (digest : List ℕ) (groups : List (List Kid)) (gate : ℕ) (behind content : List ℕ) (found : Found)
    → length digest ≡ DIGEST_LEN → AllByRecursion (IsGroup v) groups → gate ≢ 1 → content ≡ front v digest groups ++ gate ∷ behind
    → IsFound digest content found → found ≡ Journal (contents_of v 1 groups gate behind)
stands_found v digest groups gate behind content found len sound ends whole is =
    found_one digest content found (Journal (contents_of v 1 groups gate behind)) is
    (is_journal v digest groups gate behind content len sound ends whole)

-- ---- mended

head_mended : (old new : Device) (head : ℕ) (rest : List ℕ) (is_open : Bool) → (head == 1) ≡ is_open → content_of old ≡ head ∷ rest
    → RanThrough old (head_calls is_open) new → content_of new ≡ 1 ∷ rest
head_mended old new head rest true e is ran =
    ap content_of ran.1 ∙ (is ∙ ap (λ (h : ℕ). h ∷ rest) (eqb-true head 1 e))
head_mended old new head rest false e is ran =
    ap content_of (led_on old new (surely (Writing 0 (1 ∷ []))) ran)
    ∙ (ap (λ (c : List ℕ). written_over c 0 (1 ∷ [])) is ∙ over_one [] rest head 1 0 refl)

gate_mended : (old new : Device) (f behind : List ℕ) (gate at : ℕ) (is_closed : Bool) → (gate == 0) ≡ is_closed
    → content_of old ≡ f ++ gate ∷ behind → at ≡ length f → RanThrough old (gate_calls is_closed at) new → content_of new ≡ f ++ 0 ∷ behind
gate_mended old new f behind gate at true e is place ran =
    ap content_of ran.1 ∙ (is ∙ ap (λ (g : ℕ). f ++ g ∷ behind) (eqb-true gate 0 e))
gate_mended old new f behind gate at false e is place ran =
    ap content_of (led_on old new (surely (Writing at (0 ∷ []))) ran)
    ∙ (ap (λ (c : List ℕ). written_over c at (0 ∷ [])) is ∙ over_one f behind gate 0 at place)

some_not : (n : ℕ) → suc n ≢ 0
some_not n e = omega (arith, e)

cut_mended_by : (old new : Device) (f behind : List ℕ) (at : ℕ) (is_none : Bool) → (length behind == 0) ≡ is_none
    → content_of old ≡ f ++ 0 ∷ behind → at ≡ length f → RanThrough old (if is_none then [] else surely (Cutting (at + 1))) new
    → content_of new ≡ f ++ 0 ∷ []
cut_mended_by old new f [] at true e is place ran = ap content_of ran.1 ∙ is
cut_mended_by old new f (x ∷ behind) at true e is place ran = absurd (some_not (length behind) (eqb-true (length (x ∷ behind)) 0 e))
cut_mended_by old new f behind at false e is place ran =
    ap content_of (led_on old new (surely (Cutting (at + 1))) ran)
    ∙ (ap (λ (c : List ℕ). take (at + 1) c) is ∙ cut_whole f behind 0 (at + 1) (ap (λ (n : ℕ). n + 1) place))

cut_mended : (old new : Device) (f behind : List ℕ) (at : ℕ) → content_of old ≡ f ++ 0 ∷ behind → at ≡ length f
    → RanThrough old (cut_calls (length behind) at) new → content_of new ≡ f ++ 0 ∷ []
cut_mended old new f behind at is place ran = cut_mended_by old new f behind at (length behind == 0) refl is place ran

-- the header's gate is open, the last gate closed, and nothing stands after it
pub mend_content : (v : Version) (digest : List ℕ) (groups : List (List Kid)) (head gate : ℕ) (behind : List ℕ) (old new : Device)
    → length digest ≡ DIGEST_LEN → content_of old ≡ head ∷ header v digest ++ (flat_map (opened v) groups ++ gate ∷ behind)
    → RanThrough old (mend_calls (contents_of v head groups gate behind)) new → content_of new ≡ image v digest groups
mend_content v digest groups head gate behind old new len is ran =
    let f = front v digest groups in
    let at = FIRST_GATE + length (flat_map (opened v) groups) in
    let place : at ≡ length f = sym (length-front v digest groups len) in
    let one = split old new (head_calls (head == 1)) (gate_calls (gate == 0) at ++ cut_calls (length behind) at) ran in
    let two = split one.0 new (gate_calls (gate == 0) at) (cut_calls (length behind) at) one.2 in
    let headed : content_of one.0 ≡ 1 ∷ (header v digest ++ (flat_map (opened v) groups ++ gate ∷ behind)) =
    head_mended old one.0 head (header v digest ++ (flat_map (opened v) groups ++ gate ∷ behind)) (head == 1) refl is one.1 in
    let fronted : content_of one.0 ≡ f ++ gate ∷ behind =
    headed ∙ ap (λ (xs : List ℕ). 1 ∷ header v xs) (sym (append_assoc digest (flat_map (opened v) groups) (gate ∷ behind))) in
    let closed : content_of two.0 ≡ f ++ 0 ∷ behind =
    gate_mended one.0 two.0 f behind gate at (gate == 0) refl fronted place two.1 in
    cut_mended two.0 new f behind at closed place two.2

-- ---- opened

-- what was found and mended is the journal of these groups
pub record Opens (digest : List ℕ) (found : Found) (groups : List (List Kid)) (new : Device) : Type 0 where
  pub sound : AllByRecursion (IsGroup (version_in found)) groups
  pub content : content_of new ≡ image (version_in found) digest groups
  pub entries : found_in found ≡ entries_in (version_in found) FIRST_GATE groups
  pub gate : gate_in found ≡ length (front (version_in found) digest groups)

no_groups_len : (digest : List ℕ) → length digest ≡ DIGEST_LEN → FIRST_GATE ≡ length (front Two digest [])
no_groups_len digest len = let whole = length-front Two digest [] len in omega (arith, whole)

pub journal_opens : (v : Version) (digest : List ℕ) (groups : List (List Kid)) (head gate : ℕ) (behind : List ℕ) (old new : Device)
    → length digest ≡ DIGEST_LEN → AllByRecursion (IsGroup v) groups
    → content_of old ≡ head ∷ header v digest ++ (flat_map (opened v) groups ++ gate ∷ behind)
    → RanThrough old (mend_calls (contents_of v head groups gate behind)) new
    → Opens digest (Journal (contents_of v head groups gate behind)) groups new
journal_opens v digest groups head gate behind old new len sound is ran = record {
  sound = sound;
  content = mend_content v digest groups head gate behind old new len is ran;
  entries = refl;
  gate = sym (length-front v digest groups len);
}

pub unmade_opens : (digest : List ℕ) (old new : Device) → length digest ≡ DIGEST_LEN → length (content_of old) ≤ 1
    → RanThrough old (open_calls digest Unmade) new → Opens digest Unmade [] new
unmade_opens digest old new len is ran = record {
  sound = tt;
  content = create_content digest old new len is ran;
  entries = refl;
  gate = no_groups_len digest len;
}

pub half_opens : (digest : List ℕ) (old new : Device) → length digest ≡ DIGEST_LEN → IsHalfMade (content_of old)
    → RanThrough old (open_calls digest HalfMade) new → Opens digest HalfMade [] new
half_opens digest old new len is ran = record {
  sound = tt;
  content = fill_content digest old new is.rest len is.closed is.short ran;
  entries = refl;
  gate = no_groups_len digest len;
}

pub opens : (digest : List ℕ) (found : Found) (old new : Device) → length digest ≡ DIGEST_LEN → IsFound digest (content_of old) found
    → RanThrough old (open_calls digest found) new → (groups : List (List Kid)) × Opens digest found groups new
opens digest Unmade old new len is ran = ([], unmade_opens digest old new len is ran)
opens digest HalfMade old new len is ran = ([], half_opens digest old new len is ran)
opens digest (Journal found) old new len is ran = (
  is.groups,
  subst (λ (f : Contents). Opens digest (Journal f) is.groups new) (sym is.told)
      (journal_opens is.v digest is.groups is.head is.gate is.behind old new len is.sound is.headed.whole
      (subst (λ (f : Contents). RanThrough old (mend_calls f) new) is.told ran)),
)

-- where these groups stand, just they are opened
pub stands_opens : (v : Version) (digest : List ℕ) (groups : List (List Kid)) (gate : ℕ) (behind : List ℕ) (found : Found) (old new : Device)
    → length digest ≡ DIGEST_LEN → AllByRecursion (IsGroup v) groups → gate ≢ 1
    → content_of old ≡ front v digest groups ++ gate ∷ behind → IsFound digest (content_of old) found
    → RanThrough old (open_calls digest found) new → (version_in found ≡ v) × Opens digest found groups new
stands_opens v digest groups gate behind found old new len sound ends whole is ran =
    let told = stands_found v digest groups gate behind (content_of old) found len sound ends whole is in
    let headed = whole ∙ ap (λ (xs : List ℕ). 1 ∷ header v xs) (append_assoc digest (flat_map (opened v) groups) (gate ∷ behind)) in (
      ap version_in told,
      subst (λ (f : Found). Opens digest f groups new) (sym told)
          (journal_opens v digest groups 1 gate behind old new len sound headed (subst (λ (f : Found). RanThrough old (open_calls digest f) new) told ran)),
    )
