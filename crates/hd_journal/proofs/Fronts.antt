-- What stands before the damage of a content, with a closed gate after it, is a journal of just
-- the groups there.
use Rattle.std.proofs.Common.{◌≡◌, ◌≢◌, inl, inr, ℕ, ◌+◌, ◌<◌, List, [], ◌∷◌, ◌++◌, length, take, Some, Ok, Err, refl, sym, ap, ◌∙◌, subst, append_assoc, arith}
use Rattle.std.specs.Prelude.{Result, IfOk, IfErr}
use Rattle.std.specs.List.{flat_map}
use Rattle.std.proofs.lemmas.List.{length-append, take_at}
use Rattle.hd_image.specs.declared.contents.Contents.{Contents}
use Rattle.hd_image.specs.declared.contents.Found.{Found}
use Rattle.hd_image.specs.declared.contents.Found.TheVariants.{Journal}
use Rattle.hd_image.specs.declared.error.ImageError.{ImageError}
use Rattle.hd_image.specs.declared.error.ImageError.TheVariants.{NotAJournal, OtherTask, Damaged, NoMemory}
use Rattle.hd_image.specs.Image.{opened, header}
use Rattle.hd_image.specs.Reading.{IsHead, IsDamaged, IsJournal, IsFound, IsRefused, contents_of}
use Rattle.hd_image.proofs.Ways.{one_answer}
use Rattle.hd_journal.specs.Salvage.{IsFoundUpTo, IsLost}

-- ---- the content before its damage

-- the bytes of its groups
abbrev groups_in : (digest content : List ℕ) (at : ℕ) → IsDamaged digest content at → List ℕ
groups_in digest content at d = flat_map (opened d.v) d.groups

-- its header and its groups
abbrev front_of : (digest content : List ℕ) (at : ℕ) → IsDamaged digest content at → List ℕ
front_of digest content at d = d.head ∷ header d.v (digest ++ groups_in digest content at d)

length-front : (digest content : List ℕ) (at : ℕ) (d : IsDamaged digest content at) → length (front_of digest content at d) ≡ at
length-front digest content at d =
    let parts = length-append digest (groups_in digest content at d) in
    let len = d.headed.digest_len in
    let place = d.place in
    omega (arith, parts, len, place)

split : (digest content : List ℕ) (at : ℕ) (d : IsDamaged digest content at) → content ≡ front_of digest content at d ++ 1 ∷ d.behind
split digest content at d =
    d.headed.whole ∙ ap (λ (xs : List ℕ). d.head ∷ header d.v xs) (sym (append_assoc digest (groups_in digest content at d) (1 ∷ d.behind)))

-- the damage is within the content
pub damaged_within : (digest content : List ℕ) (at : ℕ) → IsDamaged digest content at → at < length content
damaged_within digest content at d =
    let parts = ap length (split digest content at d) ∙ length-append (front_of digest content at d) (1 ∷ d.behind) in
    let size = length-front digest content at d in
    omega (arith, parts, size)

-- what is before it, with a closed gate
closed : (digest content : List ℕ) (at : ℕ) (d : IsDamaged digest content at)
    → take at content ++ 0 ∷ [] ≡ d.head ∷ header d.v digest ++ (flat_map (opened d.v) d.groups ++ 0 ∷ [])
closed digest content at d =
    ap (λ (xs : List ℕ). xs ++ 0 ∷ []) (ap (take at) (split digest content at d)
    ∙ take_at (front_of digest content at d) (1 ∷ d.behind) at (length-front digest content at d))
    ∙ ap (λ (xs : List ℕ). d.head ∷ header d.v xs) (append_assoc digest (groups_in digest content at d) (0 ∷ []))

-- the header's gate may be as it is there
gate_kept : (head : ℕ) (groups behind : List ℕ) → IsHead head (length (groups ++ 1 ∷ behind)) → IsHead head (length (groups ++ 0 ∷ []))
gate_kept head groups behind gate =
    let new = length-append groups (0 ∷ []) in
    let old = length-append groups (1 ∷ behind) in
    elim gate [
      | inl is ↦ inl (is.0, omega (arith, new))
      | inr is ↦ let one = is.2 in inr (is.0, is.1, omega (arith, new, old, one))
    ]

zero_not_one : ◌≢◌ {A = ℕ} 0 1
zero_not_one e = omega (arith, e)

pub front_read : (digest content : List ℕ) (at : ℕ) (d : IsDamaged digest content at)
    → IsJournal digest (take at content ++ 0 ∷ []) (contents_of d.v d.head d.groups 0 [])
front_read digest content at d = record {
  head = d.head;
  v = d.v;
  groups = d.groups;
  gate = 0;
  behind = [];
  headed = record {
    whole = closed digest content at d;
    digest_len = d.headed.digest_len;
    gate = gate_kept d.head (flat_map (opened d.v) d.groups) d.behind d.headed.gate;
  };
  sound = d.sound;
  ends = zero_not_one;
  told = refl;
}

-- ---- that is its only answer

abbrev front_found : (digest content : List ℕ) (at : ℕ) → IsDamaged digest content at → Found
front_found digest content at d = Journal (contents_of d.v d.head d.groups 0 [])

found_not : (found : Found) → ◌≢◌ {A = Result Found ImageError} (Ok found) (Err NoMemory)
found_not found e = cc

abbrev found_or : Found → Result Found ImageError → Found
found_or other (Ok found) = found
found_or other (Err error) = other

clash : (found : Found) (error : ImageError) → ◌≡◌ {A = Result Found ImageError} (Ok found) (Err error) → ⊥
clash found error e = cc

only_front : (digest content front : List ℕ) (at : ℕ) (d : IsDamaged digest content at) → front ≡ take at content ++ 0 ∷ [] → (found : Found)
    → IsFound digest front found → found ≡ front_found digest content at d
only_front digest content front at d is found read =
    let journal = front_found digest content at d in
    ap (found_or found) (one_answer digest (take at content ++ 0 ∷ []) (Ok found) (Ok journal) (found_not found) (found_not journal)
    (subst (λ (xs : List ℕ). IsFound digest xs found) is read) (front_read digest content at d))

not_refused : (digest content front : List ℕ) (at : ℕ) (d : IsDamaged digest content at) → front ≡ take at content ++ 0 ∷ [] → (error : ImageError)
    → ◌≢◌ {A = Result Found ImageError} (Err error) (Err NoMemory) → IsRefused digest front error → ⊥
not_refused digest content front at d is error other read =
    let journal = front_found digest content at d in
    clash journal error (one_answer digest (take at content ++ 0 ∷ []) (Ok journal) (Err error) (found_not journal) other
    (front_read digest content at d) (subst (λ (xs : List ℕ). IsRefused digest xs error) is read))

lost_front : (digest content front : List ℕ) (at : ℕ) (d : IsDamaged digest content at) → front ≡ take at content ++ 0 ∷ [] → (error : ImageError)
    → IsRefused digest front error → IsLost digest content error
lost_front digest content front at d is NotAJournal read = absurd (not_refused digest content front at d is NotAJournal (λ e. cc) read)
lost_front digest content front at d is OtherTask read = absurd (not_refused digest content front at d is OtherTask (λ e. cc) read)
lost_front digest content front at d is (Damaged place) read =
    absurd (not_refused digest content front at d is (Damaged place) (λ e. cc) read)
lost_front digest content front at d is NoMemory read = tt

-- ---- the answers

pub found_before : (digest content front : List ℕ) (at : ℕ) → IsDamaged digest content at → front ≡ take at content ++ 0 ∷ []
    → (r : Result Found ImageError) → IfOk r (IsFound digest front) → IfOk r (IsFoundUpTo digest content (Some at))
found_before digest content front at d is (Ok found) read = (d, only_front digest content front at d is found read)
found_before digest content front at d is (Err error) read = tt

pub lost_before : (digest content front : List ℕ) (at : ℕ) → IsDamaged digest content at → front ≡ take at content ++ 0 ∷ []
    → (r : Result Found ImageError) → IfErr r (IsRefused digest front) → IfErr r (IsLost digest content)
lost_before digest content front at d is (Ok found) read = tt
lost_before digest content front at d is (Err error) read = lost_front digest content front at d is error read
