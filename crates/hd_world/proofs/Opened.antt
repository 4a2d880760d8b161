-- What stops left is opened, in one way; nothing is said against it; and what the calls that open
-- it make of it.
use Rattle.std.proofs.Common.{◌≡◌, ◌≢◌, inl, inr, ℕ, List, [], ◌∷◌, ◌++◌, length, refl, sym, ap, ap₂, ◌∙◌, subst, arith}
use Rattle.std.specs.List.{AllByRecursion}
use Rattle.hd_task.specs.declared.plan.Kid.{Kid}
use Rattle.hd_store.specs.Device.{Device, content_of}
use Rattle.hd_image.specs.declared.version.Version.{Version}
use Rattle.hd_image.specs.declared.version.Version.TheVariants.{Two}
use Rattle.hd_image.specs.declared.header.TheConstants.{FIRST_GATE, DIGEST_LEN}
use Rattle.hd_image.specs.declared.contents.Found.{Found}
use Rattle.hd_image.specs.declared.contents.Found.TheVariants.{Unmade, HalfMade, Journal}
use Rattle.hd_image.specs.declared.error.ImageError.{ImageError}
use Rattle.hd_image.specs.declared.error.ImageError.TheVariants.{NoMemory}
use Rattle.hd_image.specs.Image.{IsGroup, counted, front, image, entries_in}
use Rattle.hd_image.specs.Reading.{IsFound, IsRefused, contents_of}
use Rattle.hd_image.specs.Stops.{IsMaking}
use Rattle.hd_image.proofs.Stopping.{is_journal, joined, making_none}
use Rattle.hd_journal.specs.Answers.{StandsIn}
use Rattle.hd_journal.specs.Calls.{Call, after_calls}
use Rattle.hd_journal.specs.Journal.{append_calls, open_calls, version_in, found_in}
use Rattle.hd_journal.specs.Moments.{IsSettled}
use Rattle.hd_journal.proofs.Again.{open_settled}
use Rattle.hd_journal.proofs.Appending.{behind_content}
use Rattle.hd_journal.proofs.Opening.{found_one, opens}
use Rattle.hd_journal.proofs.Standing.{stop_stands, stands_not_refused, making_not_refused}
use Rattle.hd_world.specs.Stops.{File, first_file, at_rest, journal_bytes, with_appended, Opens}
use Rattle.hd_world.specs.Left.{Doing, Making, Standing, Appending, HasGroups, IsLeft, IsFoundAfter}
use Rattle.hd_world.proofs.Placing.{groups_same}
use Rattle.hd_world.proofs.Within.{rest_ran}

-- ---- a content is opened in one way

abbrev file_of : Version → List (List Kid) → File
file_of v groups = record { version = v; groups = groups }

one_file : (v w : Version) (gs hs : List (List Kid)) → v ≡ w → AllByRecursion (IsGroup v) gs → AllByRecursion (IsGroup w) hs
    → entries_in v FIRST_GATE gs ≡ entries_in w FIRST_GATE hs → file_of v gs ≡ file_of w hs
one_file v w gs hs same g h e =
    ap₂ file_of same
    (groups_same v FIRST_GATE gs hs g (subst (λ (u : Version). AllByRecursion (IsGroup u) hs) (sym same) h)
    (e ∙ ap (λ (u : Version). entries_in u FIRST_GATE hs) (sym same)))

module _ (digest content : List ℕ) (calls calls' : List Call) (f f' : File) (a : Opens digest content calls f) (b : Opens digest content calls' f') where
  same_found : a.found ≡ b.found
  same_found = found_one digest content a.found b.found a.is b.is

  pub same_calls : calls ≡ calls'
  same_calls = a.mend ∙ (ap (open_calls digest) same_found ∙ sym b.mend)

  pub same_file : f ≡ f'
  same_file =
      one_file f.version f'.version f.groups f'.groups (a.version ∙ (ap version_in same_found ∙ sym b.version)) a.sound b.sound
      (sym a.entries ∙ (ap found_in same_found ∙ b.entries))

-- ---- what stops left is opened

stands_opened : (v : Version) (digest : List ℕ) (groups : List (List Kid)) (content : List ℕ) → length digest ≡ DIGEST_LEN
    → StandsIn v digest groups content → (calls : List Call) × Opens digest content calls (file_of v groups)
stands_opened v digest groups content len s =
    let found : Found = Journal (contents_of v 1 groups s.gate s.behind) in (
      open_calls digest found,
      record {
        found = found;
        is = is_journal v digest groups s.gate s.behind content len s.sound s.ends s.whole;
        mend = refl;
        version = refl;
        sound = s.sound;
        entries = refl;
      },
    )

none_opened : (digest content : List ℕ) (found : Found) → IsFound digest content found → version_in found ≡ Two → found_in found ≡ []
    → (calls : List Call) × Opens digest content calls first_file
none_opened digest content found is version none = (
  open_calls digest found,
  record { found = found; is = is; mend = refl; version = sym version; sound = tt; entries = none },
)

-- a journal that may be found is opened
pub record IsOpened (digest content : List ℕ) (doing : Doing) : Type 0 where
  pub file : File
  pub calls : List Call
  pub after : IsFoundAfter doing file
  pub is : Opens digest content calls file

making_opened : (digest content : List ℕ) → length digest ≡ DIGEST_LEN → IsMaking Two digest content → IsOpened digest content Making
making_opened digest content len making =
    elim (making_none Two digest content len making) [
      | inl unmade ↦
          let o = none_opened digest content Unmade unmade refl refl in record { file = first_file; calls = o.0; after = refl; is = o.1 }
      | inr more ↦ elim more [
        | inl half ↦
            let o = none_opened digest content HalfMade half refl refl in record { file = first_file; calls = o.0; after = refl; is = o.1 }
        | inr none ↦
            let o = none_opened digest content (Journal (contents_of Two none.head [] none.gate none.behind)) none.found refl refl in
            record { file = first_file; calls = o.0; after = refl; is = o.1 }
      ]
    ]

zero_not_one : ◌≢◌ {A = ℕ} 0 1
zero_not_one e = omega (arith, e)

pub left_opened : (digest : List ℕ) (doing : Doing) (content : List ℕ) → length digest ≡ DIGEST_LEN → HasGroups doing → IsLeft digest doing content
    → IsOpened digest content doing
left_opened digest Making content len sound left = making_opened digest content len left
left_opened digest (Standing f) content len sound left =
    let o = stands_opened f.version digest f.groups content len
    (record { gate = 0; behind = left.behind; sound = sound; ends = zero_not_one; whole = left.whole }) in
    record { file = f; calls = o.0; after = refl; is = o.1 }
left_opened digest (Appending f next) content len sound left =
    elim (stop_stands f.version digest f.groups next content sound.0 sound.1 left) [
      | inl before ↦
          let o = stands_opened f.version digest f.groups content len before in record { file = f; calls = o.0; after = inl refl; is = o.1 }
      | inr behind ↦
          let o = stands_opened f.version digest (f.groups ++ next ∷ []) content len behind in
          record { file = with_appended next f; calls = o.0; after = inr refl; is = o.1 }
    ]

-- what is opened is such a journal
pub left_found : (digest : List ℕ) (doing : Doing) (content : List ℕ) (calls : List Call) (f : File) → length digest ≡ DIGEST_LEN → HasGroups doing
    → IsLeft digest doing content → Opens digest content calls f → IsFoundAfter doing f
left_found digest doing content calls f len sound left o =
    let one = left_opened digest doing content len sound left in
    subst (IsFoundAfter doing) (same_file digest content one.calls calls one.file f one.is o) one.after

-- ---- nothing is said against it

pub left_not_refused : (digest : List ℕ) (doing : Doing) (content : List ℕ) (error : ImageError) → length digest ≡ DIGEST_LEN → HasGroups doing
    → IsLeft digest doing content → IsRefused digest content error → error ≡ NoMemory
left_not_refused digest Making content error len sound left refused = making_not_refused Two digest content error len left refused
left_not_refused digest (Standing f) content error len sound left refused =
    stands_not_refused f.version digest f.groups content error len
    (record { gate = 0; behind = left.behind; sound = sound; ends = zero_not_one; whole = left.whole }) refused
left_not_refused digest (Appending f next) content error len sound left refused =
    elim (stop_stands f.version digest f.groups next content sound.0 sound.1 left) [
      | inl before ↦ stands_not_refused f.version digest f.groups content error len before refused
      | inr behind ↦ stands_not_refused f.version digest (f.groups ++ next ∷ []) content error len behind refused
    ]

-- ---- what calls make of it

pub appended_content : (digest : List ℕ) (f : File) (next : List Kid)
    → content_of (after_calls (at_rest (journal_bytes digest f)) (append_calls f.version (length (front f.version digest f.groups)) next))
    ≡ journal_bytes digest (with_appended next f)
appended_content digest f next =
    let v = f.version in
    let gate = length (front v digest f.groups) in
    let whole = journal_bytes digest f in
    let calls = append_calls v gate next in
    behind_content (at_rest whole) (after_calls (at_rest whole) calls) (front v digest f.groups) (counted v next ++ 0 ∷ []) gate refl refl
    (rest_ran whole calls)
    ∙ joined v digest f.groups next

module _ (digest content : List ℕ) (calls : List Call) (f : File) (len : length digest ≡ DIGEST_LEN) (o : Opens digest content calls f) where
  abbrev made : List Call
  made = open_calls digest o.found

  abbrev end : Device
  end = after_calls (at_rest content) made

  made_content : content_of end ≡ journal_bytes digest f
  made_content =
      let one = opens digest o.found (at_rest content) end len o.is (rest_ran content made) in
      one.1.content
      ∙ ap (λ (g : File). image g.version digest g.groups)
      (one_file (version_in o.found) f.version one.0 f.groups (sym o.version) one.1.sound o.sound (sym one.1.entries ∙ o.entries))

  pub opened_content : content_of (after_calls (at_rest content) calls) ≡ journal_bytes digest f
  opened_content = ap (λ (cs : List Call). content_of (after_calls (at_rest content) cs)) o.mend ∙ made_content

  pub opened_settled : IsSettled (after_calls (at_rest content) calls)
  opened_settled =
      subst (λ (cs : List Call). IsSettled (after_calls (at_rest content) cs)) (sym o.mend)
      (open_settled digest o.found (at_rest content) end tt (rest_ran content made))
