-- What stood in a file whose search goes on.
use Rattle.std.proofs.Common.{◌≡◌, ◌≢◌, ℕ, List, [], ◌++◌, map, length, Result, Ok, Err, refl, sym, ap, ◌∙◌, subst}
use Rattle.std.proofs.lemmas.List.Concat.{flat_map-append}
use Rattle.hd_task.specs.declared.plan.Kid.{Kid}
use Rattle.hd_image.specs.declared.version.Version.{Version}
use Rattle.hd_image.specs.declared.entry.Entry.{Entry}
use Rattle.hd_image.specs.declared.header.TheConstants.{FIRST_GATE, DIGEST_LEN}
use Rattle.hd_image.specs.declared.contents.Found.{Found}
use Rattle.hd_image.specs.declared.contents.Found.TheVariants.{Journal}
use Rattle.hd_image.specs.declared.error.ImageError.{ImageError}
use Rattle.hd_image.specs.declared.error.ImageError.TheVariants.{NotAJournal, OtherTask, Damaged, NoMemory}
use Rattle.hd_image.specs.Image.{entries_in}
use Rattle.hd_image.specs.Reading.{IsFound, IsRefused, contents_of}
use Rattle.hd_image.proofs.Stopping.{is_journal}
use Rattle.hd_image.proofs.Ways.{one_answer}
use Rattle.hd_journal.specs.Answers.{StandsIn}
use Rattle.hd_journal.specs.Journal.{kid_of, found_in}
use Rattle.hd_journal.specs.Copy.{kids_in}
use Rattle.hd_base.specs.Lists.{BeginsWith}
use Rattle.hplan.specs.declared.kept.Start.TheVariants.{Kept}
use Rattle.hplan.specs.Kept.{ContinuesContent, HoldsEntries}
use Rattle.hplan.proofs.Keeping.{kids_of_groups}

-- ---- a content that is found is not refused

-- the error of an answer that is one
abbrev error_by : Result Found ImageError → ImageError
error_by (Ok found) = NoMemory
error_by (Err error) = error

refused_found : (digest content : List ℕ) (found : Found) (error : ImageError) → error ≢ NoMemory → IsFound digest content found
    → IsRefused digest content error → ⊥
refused_found digest content found error other is refused =
    let no : ◌≡◌ {A = Result Found ImageError} (Ok found) (Err error) =
    one_answer digest content (Ok found) (Err error) (λ e. cc) (λ e. other (ap error_by e)) is refused
    in absurd (cc)

found_unrefused : (digest content : List ℕ) (found : Found) (error : ImageError) → IsFound digest content found → IsRefused digest content error
    → error ≡ NoMemory
found_unrefused digest content found NotAJournal is refused = absurd (refused_found digest content found NotAJournal (λ e. cc) is refused)
found_unrefused digest content found OtherTask is refused = absurd (refused_found digest content found OtherTask (λ e. cc) is refused)
found_unrefused digest content found (Damaged at) is refused = absurd (refused_found digest content found (Damaged at) (λ e. cc) is refused)
found_unrefused digest content found NoMemory is refused = refl

pub kept_unrefused : (digest : List ℕ) (kids : List Kid) (before after : List ℕ) (error : ImageError) → HoldsEntries Kept digest kids before after
    → IsRefused digest before error → error ≡ NoMemory
kept_unrefused digest kids before after error kept refused = found_unrefused digest before kept.began.found error kept.began.is_found refused

-- ---- the groups that stand in it

-- the entries of an answer
abbrev entries_by : Result Found ImageError → List Entry
entries_by (Ok found) = found_in found
entries_by (Err error) = []

-- what is found are their entries
entries_there : (digest content : List ℕ) (found : Found) (v : Version) (groups : List (List Kid)) → length digest ≡ DIGEST_LEN
    → IsFound digest content found → StandsIn v digest groups content → found_in found ≡ entries_in v FIRST_GATE groups
entries_there digest content found v groups len is stands =
    ap entries_by
    (one_answer digest content (Ok found) (Ok (Journal (contents_of v 1 groups stands.gate stands.behind))) (λ e. cc) (λ e. cc) is
    (is_journal v digest groups stands.gate stands.behind content len stands.sound stands.ends stands.whole))

kids_there : (digest content : List ℕ) (w v : Version) (all groups : List (List Kid)) → length digest ≡ DIGEST_LEN
    → ContinuesContent digest content w all → StandsIn v digest groups content → BeginsWith (kids_in all) (kids_in groups)
kids_there digest content w v all groups len goes stands =
    let first : kids_in goes.stood ≡ kids_in groups =
    sym (kids_of_groups w FIRST_GATE goes.stood)
    ∙ (ap (map kid_of) (sym goes.entries ∙ entries_there digest content goes.found v groups len goes.is_found stands)
    ∙ kids_of_groups v FIRST_GATE groups)
    in (
      kids_in goes.more,
      ap kids_in goes.begins
          ∙ (flat_map-append (λ (group : List Kid). group) goes.stood goes.more ∙ ap (λ (kids : List Kid). kids ++ kids_in goes.more) first),
    )

pub kept_begins : (digest : List ℕ) (kids : List Kid) (before after : List ℕ) (v : Version) (groups : List (List Kid)) → length digest ≡ DIGEST_LEN
    → HoldsEntries Kept digest kids before after → StandsIn v digest groups before → BeginsWith kids (kids_in groups)
kept_begins digest kids before after v groups len kept stands =
    subst (λ (all : List Kid). BeginsWith all (kids_in groups)) (sym kept.holds.entries)
    (kids_there digest before kept.holds.version v kept.holds.groups groups len kept.began stands)
