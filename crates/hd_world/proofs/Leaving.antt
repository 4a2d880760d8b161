-- What a stop within a call leaves, while a group is appended and while a file is opened.
use Rattle.std.proofs.Common.{◌≡◌, ◌≢◌, ℕ, ◌+◌, ◌==◌, Bool, true, false, List, [], ◌∷◌, ◌++◌, length, take, Ok, refl, sym, ap, ◌∙◌, subst, arith, if◌then◌else◌}
use Rattle.std.specs.List.{flat_map, AllByRecursion}
use Rattle.hd_task.specs.declared.plan.Kid.{Kid}
use Rattle.hd_store.specs.Bytes.{IsPartOfCut}
use Rattle.hd_store.specs.Device.{Device, content_of}
use Rattle.hd_image.specs.declared.version.Version.{Version}
use Rattle.hd_image.specs.declared.header.TheConstants.{FIRST_GATE, DIGEST_LEN}
use Rattle.hd_image.specs.declared.contents.Found.{Found}
use Rattle.hd_image.specs.Image.{IsGroup, opened, front}
use Rattle.hd_image.specs.Reading.{IsFound}
use Rattle.hd_image.specs.Stops.{IsGateClosed, IsBeforeOrAfter}
use Rattle.hd_image.proofs.Stopping.{length-front}
use Rattle.hd_journal.specs.Calls.{Call, after_call, after_calls, RanThrough, surely}
use Rattle.hd_journal.specs.Calls.Call.{Cutting, Syncing}
use Rattle.hd_journal.specs.Journal.{append_calls, open_calls}
use Rattle.hd_journal.specs.Moments.{LeavesSince, IsSettled}
use Rattle.hd_journal.proofs.Again.{open_moments, making_moments}
use Rattle.hd_journal.proofs.Appending.{append_moments}
use Rattle.hd_journal.proofs.Bytes.{cut_whole, cut_part}
use Rattle.hd_journal.proofs.Opening.{stands_found}
use Rattle.hd_journal.proofs.Passing.{sure_then, no_more}
use Rattle.hd_world.specs.Stops.{File, at_rest, journal_bytes, stopped_in, Opens}
use Rattle.hd_world.specs.Left.{Doing, Making, Standing, Appending, HasGroups, IsLeft, StopMayLeave}
use Rattle.hd_world.proofs.Within.{rest_ran, leaves_in}

-- ---- while a group is appended

pub append_stop : (digest : List ℕ) (f : File) (next : List Kid) (c : ℕ) (content : List ℕ)
    → StopMayLeave (stopped_in (at_rest (journal_bytes digest f)) (append_calls f.version (length (front f.version digest f.groups)) next) c) content
    → IsLeft digest (Appending f next) content
append_stop digest f next c content left =
    let v = f.version in
    let gate = length (front v digest f.groups) in
    let calls = append_calls v gate next in
    let whole = journal_bytes digest f in
    leaves_in (IsBeforeOrAfter v digest f.groups next) whole calls c
    (append_moments v digest f.groups next (at_rest whole) (after_calls (at_rest whole) calls) gate (Ok tt) refl tt refl (rest_ran whole calls))
    content left

-- ---- while a file is opened in which the last gate is closed

zero_not_one : ◌≢◌ {A = ℕ} 0 1
zero_not_one e = omega (arith, e)

shut : (v : Version) (digest : List ℕ) (groups : List (List Kid)) (content behind : List ℕ)
    → content ≡ front v digest groups ++ 0 ∷ behind → IsGateClosed v digest groups content
shut v digest groups content behind whole = record { behind = behind; whole = whole }

cut_closed_by : (v : Version) (digest : List ℕ) (groups : List (List Kid)) (old new : Device) (behind : List ℕ) (at : ℕ) (is_none : Bool)
    → at ≡ length (front v digest groups) → IsSettled old → content_of old ≡ front v digest groups ++ 0 ∷ behind
    → RanThrough old (if is_none then [] else surely (Cutting (at + 1))) new → LeavesSince (IsGateClosed v digest groups) old new
cut_closed_by v digest groups old new behind at true place settled is ran =
    no_more (IsGateClosed v digest groups) old (Ok tt) new settled (shut v digest groups (content_of old) behind is) ran
cut_closed_by v digest groups old new behind at false place settled is ran =
    let P = IsGateClosed v digest groups in
    let f = front v digest groups in
    let end = after_call (after_call old (Cutting (at + 1))) Syncing in
    let len : at + 1 ≡ length f + 1 = ap (λ (n : ℕ). n + 1) place in
    let done : content_of end ≡ f ++ 0 ∷ [] = ap (λ (c : List ℕ). take (at + 1) c) is ∙ cut_whole f behind 0 (at + 1) len in
    let holds : P (content_of end) = shut v digest groups (content_of end) [] done in
    sure_then P old (Cutting (at + 1)) [] (Ok tt) new tt settled (shut v digest groups (content_of old) behind is)
    (λ found part.
    let left = cut_part f behind 0 (at + 1) found len (subst (λ (c : List ℕ). IsPartOfCut c (at + 1) found) is part) in
    shut v digest groups found left.0 left.1)
    holds (λ more. no_more P end (Ok tt) new refl holds more) ran

closed_moments : (v : Version) (digest : List ℕ) (groups : List (List Kid)) (found : Found) (old new : Device) → length digest ≡ DIGEST_LEN
    → IsSettled old → AllByRecursion (IsGroup v) groups → IsGateClosed v digest groups (content_of old) → IsFound digest (content_of old) found
    → RanThrough old (open_calls digest found) new → LeavesSince (IsGateClosed v digest groups) old new
closed_moments v digest groups found old new len settled sound is found_is ran =
    let told = stands_found v digest groups 0 is.behind (content_of old) found len sound zero_not_one is.whole found_is in
    cut_closed_by v digest groups old new is.behind (FIRST_GATE + length (flat_map (opened v) groups)) (length is.behind == 0)
    (sym (length-front v digest groups len)) settled is.whole (subst (λ (f : Found). RanThrough old (open_calls digest f) new) told ran)

-- ---- while a file is opened that stops left

found_moments : (digest : List ℕ) (doing : Doing) (content : List ℕ) (found : Found) (new : Device) → length digest ≡ DIGEST_LEN
    → HasGroups doing → IsLeft digest doing content → IsFound digest content found → RanThrough (at_rest content) (open_calls digest found) new
    → LeavesSince (IsLeft digest doing) (at_rest content) new
found_moments digest Making content found new len sound left is ran = making_moments digest found (at_rest content) new (Ok tt) len tt left is ran
found_moments digest (Standing f) content found new len sound left is ran =
    closed_moments f.version digest f.groups found (at_rest content) new len tt sound left is ran
found_moments digest (Appending f next) content found new len sound left is ran =
    open_moments f.version digest f.groups next found (at_rest content) new (Ok tt) len tt sound.0 sound.1 left is ran

pub open_stop : (digest : List ℕ) (doing : Doing) (content : List ℕ) (calls : List Call) (f : File) (c : ℕ) (left : List ℕ)
    → length digest ≡ DIGEST_LEN → HasGroups doing → IsLeft digest doing content → Opens digest content calls f
    → StopMayLeave (stopped_in (at_rest content) calls c) left → IsLeft digest doing left
open_stop digest doing content calls f c left len sound before o stop =
    let made = open_calls digest o.found in
    leaves_in (IsLeft digest doing) content made c
    (found_moments digest doing content o.found (after_calls (at_rest content) made) len sound before o.is (rest_ran content made)) left
    (subst (λ (cs : List Call). StopMayLeave (stopped_in (at_rest content) cs c) left) o.mend stop)
