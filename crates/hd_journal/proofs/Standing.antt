-- What a stop leaves is the journal of groups, or a header that is to be made, and nothing is said
-- against it.
use Rattle.std.proofs.Common.{◌≡◌, ◌≢◌, ◌⊎◌, inl, inr, ℕ, ◌==◌, Bool, true, false, List, [], ◌∷◌, ◌++◌, length, Result, Ok, Err, refl, ap, ◌∙◌, arith}
use Rattle.std.specs.List.{AllByRecursion}
use Rattle.std.proofs.lemmas.Bool.{eqb-true, eqb-false}
use Rattle.hd_base.proofs.Lists.{AllByRecursion-push}
use Rattle.hd_task.specs.declared.plan.Kid.{Kid}
use Rattle.hd_image.specs.declared.version.Version.{Version}
use Rattle.hd_image.specs.declared.header.TheConstants.{DIGEST_LEN}
use Rattle.hd_image.specs.declared.contents.Found.{Found}
use Rattle.hd_image.specs.declared.contents.Found.TheVariants.{Unmade, HalfMade, Journal}
use Rattle.hd_image.specs.declared.error.ImageError.{ImageError}
use Rattle.hd_image.specs.declared.error.ImageError.TheVariants.{NotAJournal, OtherTask, Damaged, NoMemory}
use Rattle.hd_image.specs.Image.{IsGroup, counted, front}
use Rattle.hd_image.specs.Reading.{IsFound, IsRefused, contents_of}
use Rattle.hd_image.specs.Stops.{IsBeforeOrAfter, IsMaking}
use Rattle.hd_image.proofs.Stopping.{is_journal, joined, making_none}
use Rattle.hd_image.proofs.Ways.{one_answer}
use Rattle.hd_journal.specs.Answers.{StandsIn}

zero_not_one : ◌≢◌ {A = ℕ} 0 1
zero_not_one e = omega (arith, e)

opening_stands : (v : Version) (digest : List ℕ) (groups : List (List Kid)) (next : List Kid) (content : List ℕ) (gate : ℕ) (is_open : Bool)
    → (gate == 1) ≡ is_open → AllByRecursion (IsGroup v) groups → IsGroup v next
    → content ≡ front v digest groups ++ gate ∷ (counted v next ++ 0 ∷ [])
    → StandsIn v digest groups content ⊎ StandsIn v digest (groups ++ next ∷ []) content
opening_stands v digest groups next content gate true e sound group whole = inr (record {
  gate = 0;
  behind = [];
  sound = AllByRecursion-push (IsGroup v) groups next sound group;
  ends = zero_not_one;
  whole = whole ∙ (ap (λ (g : ℕ). front v digest groups ++ g ∷ (counted v next ++ 0 ∷ [])) (eqb-true gate 1 e) ∙ joined v digest groups next);
})
opening_stands v digest groups next content gate false e sound group whole = inl (record {
  gate = gate;
  behind = counted v next ++ 0 ∷ [];
  sound = sound;
  ends = eqb-false gate 1 e;
  whole = whole;
})

pub stop_stands : (v : Version) (digest : List ℕ) (groups : List (List Kid)) (next : List Kid) (content : List ℕ)
    → AllByRecursion (IsGroup v) groups → IsGroup v next → IsBeforeOrAfter v digest groups next content
    → StandsIn v digest groups content ⊎ StandsIn v digest (groups ++ next ∷ []) content
stop_stands v digest groups next content sound group left =
    elim left [
      | inl shut ↦ inl (record { gate = 0; behind = shut.behind; sound = sound; ends = zero_not_one; whole = shut.whole })
      | inr half ↦ opening_stands v digest groups next content half.gate (half.gate == 1) refl sound group half.whole
    ]

-- ---- nothing is said against it

ok_not : (found : Found) → ◌≢◌ {A = Result Found ImageError} (Ok found) (Err NoMemory)
ok_not found e = cc

clash : (found : Found) (error : ImageError) → ◌≢◌ {A = Result Found ImageError} (Ok found) (Err error)
clash found error e = cc

not_memory : (digest content : List ℕ) (found : Found) (error : ImageError) → ◌≢◌ {A = Result Found ImageError} (Err error) (Err NoMemory)
    → IsFound digest content found → IsRefused digest content error → error ≡ NoMemory
not_memory digest content found error other is refused =
    absurd (clash found error (one_answer digest content (Ok found) (Err error) (ok_not found) other is refused))

found_not_refused : (digest content : List ℕ) (found : Found) (error : ImageError) → IsFound digest content found → IsRefused digest content error
    → error ≡ NoMemory
found_not_refused digest content found NotAJournal is refused = not_memory digest content found NotAJournal (λ e. cc) is refused
found_not_refused digest content found OtherTask is refused = not_memory digest content found OtherTask (λ e. cc) is refused
found_not_refused digest content found (Damaged at) is refused = not_memory digest content found (Damaged at) (λ e. cc) is refused
found_not_refused digest content found NoMemory is refused = refl

pub stands_not_refused : (v : Version) (digest : List ℕ) (groups : List (List Kid)) (content : List ℕ) (error : ImageError)
    → length digest ≡ DIGEST_LEN → StandsIn v digest groups content → IsRefused digest content error → error ≡ NoMemory
stands_not_refused v digest groups content error len stands refused =
    found_not_refused digest content (Journal (contents_of v 1 groups stands.gate stands.behind)) error
    (is_journal v digest groups stands.gate stands.behind content len stands.sound stands.ends stands.whole) refused

pub making_not_refused : (v : Version) (digest content : List ℕ) (error : ImageError)
    → length digest ≡ DIGEST_LEN → IsMaking v digest content → IsRefused digest content error → error ≡ NoMemory
making_not_refused v digest content error len making refused =
    elim (making_none v digest content len making) [
      | inl unmade ↦ found_not_refused digest content Unmade error unmade refused
      | inr more ↦ elim more [
        | inl half ↦ found_not_refused digest content HalfMade error half refused
        | inr none ↦ found_not_refused digest content (Journal (contents_of v none.head [] none.gate none.behind)) error none.found refused
      ]
    ]
