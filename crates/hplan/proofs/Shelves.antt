-- Files in memory: the place of a name's first file, and what stands there.
use Rattle.std.proofs.Common.{◌≡◌, ◌≢◌, inl, inr, ◌≤◌, get_or, ℕ, zero, suc, ◌+◌, Bool, true, false, true≢false, Option, Some, None, List, [], ◌∷◌, ◌++◌, length, refl, sym, ap, ◌∙◌, subst, arith, ◌<◌}
use Rattle.std.specs.Prelude.{option_map, if◌then◌else◌, IfSome, String, string_bytes}
use Rattle.std.specs.List.{slice_get, slice_set}
use Rattle.std.specs.Str.{bytes_eq}
use Rattle.std.proofs.lemmas.List.{map-set}
use Rattle.std.proofs.lemmas.Slice.Eq.{bytes_eq-Decides}
use Rattle.std.proofs.lemmas.Option.{none-some, same_Some, slice_get-map, slice_get_cases, slice_get-get_or}
use Rattle.hd_store.specs.declared.memory.MemoryDisk.{MemoryDisk}
use Rattle.hd_store.specs.MemoryDisk.{device_of}
use Rattle.hd_store.specs.Device.{content_of}
use Rattle.hplan.specs.Places.{file_in, place_in, files_shown}

-- ---- names

pub same_bytes : (xs ys : List ℕ) → bytes_eq xs ys ≡ true → xs ≡ ys
same_bytes xs ys e = (bytes_eq-Decides xs ys).0 e

pub other_bytes : (xs ys : List ℕ) → bytes_eq xs ys ≡ false → xs ≢ ys
other_bytes xs ys e same = true≢false (sym ((bytes_eq-Decides xs ys).1 same) ∙ e)

bytes_eq-same : (xs : List ℕ) → bytes_eq xs xs ≡ true
bytes_eq-same xs = (bytes_eq-Decides xs xs).1 refl

-- ---- places that are counted on

abbrev counted_on : Option ℕ → Option ℕ
counted_on o = option_map (λ (place : ℕ). place + 1) o

not_first : (o : Option ℕ) → ¬ (counted_on o ≡ Some zero)
not_first None e = none-some zero e
not_first (Some k) e = let no : k + 1 ≡ zero = same_Some (k + 1) zero e in absurd (omega (arith, no))

one_less : (o : Option ℕ) (place : ℕ) → counted_on o ≡ Some (suc place) → o ≡ Some place
one_less None place e = absurd (none-some (suc place) e)
one_less (Some k) place e =
    let same : k + 1 ≡ suc place = same_Some (k + 1) (suc place) e in
    ap Some (omega (arith, same))

none_before : (o : Option ℕ) → counted_on o ≡ None → o ≡ None
none_before None e = refl
none_before (Some k) e = absurd (none-some (k + 1) (sym e))

-- ---- the first file of a name

module _ (name : List ℕ) where
  abbrev first_by : Bool → Option ℕ → Option ℕ
  first_by b later = if b then Some 0 else counted_on later

  abbrev file_by : Bool → List ℕ → Option (List ℕ) → Option (List ℕ)
  file_by b bytes later = if b then Some bytes else later

  -- a name that has no place has no file
  pub none_there : (fs : List (List ℕ × List ℕ)) → place_in fs name ≡ None → file_in fs name ≡ None
  none_there [] e = refl
  none_there (f ∷ fs) e =
      elim (bytes_eq f.0 name) as (λ b. first_by b (place_in fs name) ≡ None → file_by b f.1 (file_in fs name) ≡ None) [
        | true ↦ λ e. absurd (none-some 0 (sym e))
        | false ↦ λ e. none_there fs (none_before (place_in fs name) e)
      ] e

  -- the file at its place
  file_there : (fs : List (List ℕ × List ℕ)) (place : ℕ) → place_in fs name ≡ Some place
      → (f : List ℕ × List ℕ) → slice_get fs place ≡ Some f → file_in fs name ≡ Some f.1
  file_there [] place e f at = absurd (none-some place e)
  file_there (x ∷ fs) zero e f at =
      elim (bytes_eq x.0 name) as (λ b. first_by b (place_in fs name) ≡ Some zero → file_by b x.1 (file_in fs name) ≡ Some f.1) [
        | true ↦ λ e. ap (λ (y : List ℕ × List ℕ). Some y.1) (same_Some x f at)
        | false ↦ λ e. absurd (not_first (place_in fs name) e)
      ] e
  file_there (x ∷ fs) (suc place) e f at =
      elim (bytes_eq x.0 name) as (λ b. first_by b (place_in fs name) ≡ Some (suc place) → file_by b x.1 (file_in fs name) ≡ Some f.1) [
        | true ↦ λ e. let no : 0 ≡ suc place = same_Some 0 (suc place) e in absurd (omega (arith, no))
        | false ↦ λ e. file_there fs place (one_less (place_in fs name) place e) f at
      ] e

  -- other bytes at its place
  file_then : (fs : List (List ℕ × List ℕ)) (place : ℕ) → place_in fs name ≡ Some place
      → (f : List ℕ × List ℕ) → slice_get fs place ≡ Some f → (bytes : List ℕ) → file_in (slice_set fs place (f.0, bytes)) name ≡ Some bytes
  file_then [] place e f at bytes = absurd (none-some place e)
  file_then (x ∷ fs) zero e f at bytes =
      subst (λ (y : List ℕ × List ℕ). file_in ((y.0, bytes) ∷ fs) name ≡ Some bytes) (same_Some x f at)
      (elim (bytes_eq x.0 name) as (λ b. first_by b (place_in fs name) ≡ Some zero → file_by b bytes (file_in fs name) ≡ Some bytes) [
        | true ↦ λ e. refl
        | false ↦ λ e. absurd (not_first (place_in fs name) e)
      ] e)
  file_then (x ∷ fs) (suc place) e f at bytes =
      elim (bytes_eq x.0 name) as (λ b. first_by b (place_in fs name) ≡ Some (suc place)
      → file_by b x.1 (file_in (slice_set fs place (f.0, bytes)) name) ≡ Some bytes) [
        | true ↦ λ e. let no : 0 ≡ suc place = same_Some 0 (suc place) e in absurd (omega (arith, no))
        | false ↦ λ e. file_then fs place (one_less (place_in fs name) place e) f at bytes
      ] e

-- ---- the files of other names

-- a file of a name has no other one
not_other : (first name other : List ℕ) → other ≢ name → bytes_eq first name ≡ true → bytes_eq first other ≡ false
not_other first name other differ is =
    elim (bytes_eq first other) as (λ b. bytes_eq first other ≡ b → b ≡ false) [
      | true ↦ λ e. absurd (differ (sym (same_bytes first other e) ∙ same_bytes first name is))
      | false ↦ λ e. refl
    ] refl

-- the first file has the name where its place is the first
first_has : (name first : List ℕ) (later : Option ℕ) → first_by name (bytes_eq first name) later ≡ Some zero → bytes_eq first name ≡ true
first_has name first later e =
    elim (bytes_eq first name) as (λ b. first_by name b later ≡ Some zero → b ≡ true) [
      | true ↦ λ e. refl
      | false ↦ λ e. absurd (not_first later e)
    ] e

first_has_not : (name first : List ℕ) (later : Option ℕ) (place : ℕ) → first_by name (bytes_eq first name) later ≡ Some (suc place)
    → later ≡ Some place
first_has_not name first later place e =
    elim (bytes_eq first name) as (λ b. first_by name b later ≡ Some (suc place) → later ≡ Some place) [
      | true ↦ λ e. let no : 0 ≡ suc place = same_Some 0 (suc place) e in absurd (omega (arith, no))
      | false ↦ λ e. one_less later place e
    ] e

module _ (name other : List ℕ) (differ : other ≢ name) where
  others_then : (fs : List (List ℕ × List ℕ)) (place : ℕ) → place_in fs name ≡ Some place
      → (f : List ℕ × List ℕ) → slice_get fs place ≡ Some f → (bytes : List ℕ) → file_in (slice_set fs place (f.0, bytes)) other ≡ file_in fs other
  others_then [] place e f at bytes = absurd (none-some place e)
  others_then (x ∷ fs) zero e f at bytes =
      let is : bytes_eq x.0 name ≡ true = first_has name x.0 (place_in fs name) e in
      let not : bytes_eq x.0 other ≡ false = not_other x.0 name other differ is in
      subst (λ (y : List ℕ × List ℕ). file_in ((y.0, bytes) ∷ fs) other ≡ file_in (x ∷ fs) other) (same_Some x f at)
      (ap (λ (b : Bool). file_by other b bytes (file_in fs other)) not ∙ sym (ap (λ (b : Bool). file_by other b x.1 (file_in fs other)) not))
  others_then (x ∷ fs) (suc place) e f at bytes =
      ap (λ (later : Option (List ℕ)). file_by other (bytes_eq x.0 other) x.1 later)
      (others_then fs place (first_has_not name x.0 (place_in fs name) place e) f at bytes)

  others_pushed : (fs : List (List ℕ × List ℕ)) (bytes : List ℕ) → file_in (fs ++ (name, bytes) ∷ []) other ≡ file_in fs other
  others_pushed [] bytes = ap (λ (b : Bool). file_by other b bytes None) (not_other name name other differ (bytes_eq-same name))
  others_pushed (x ∷ fs) bytes =
      ap (λ (later : Option (List ℕ)). file_by other (bytes_eq x.0 other) x.1 later) (others_pushed fs bytes)

-- one file more, of another name
pub other_pushed : (name bytes : List ℕ) (old new : List (List ℕ × List ℕ)) → new ≡ old ++ (name, bytes) ∷ [] → (other : List ℕ) → other ≢ name
    → file_in new other ≡ file_in old other
other_pushed name bytes old new is other differ =
    ap (λ (fs : List (List ℕ × List ℕ)). file_in fs other) is ∙ others_pushed name other differ old bytes

-- one file more, of a name that had none
pushed_there : (name : List ℕ) (fs : List (List ℕ × List ℕ)) (bytes : List ℕ) → file_in fs name ≡ None
    → file_in (fs ++ (name, bytes) ∷ []) name ≡ Some bytes
pushed_there name [] bytes none = ap (λ (b : Bool). file_by name b bytes None) (bytes_eq-same name)
pushed_there name (x ∷ fs) bytes none =
    elim (bytes_eq x.0 name) as (λ b. file_by name b x.1 (file_in fs name) ≡ None → file_by name b x.1 (file_in (fs ++ (name, bytes) ∷ []) name) ≡ Some bytes) [
      | true ↦ λ e. absurd (none-some x.1 (sym e))
      | false ↦ λ e. pushed_there name fs bytes e
    ] none

pub pushed_now : (name bytes : List ℕ) (old same new : List (List ℕ × List ℕ)) → file_in old name ≡ None → same ≡ old
    → new ≡ same ++ (name, bytes) ∷ [] → file_in new name ≡ Some bytes
pushed_now name bytes old same new none is pushed =
    ap (λ (fs : List (List ℕ × List ℕ)). file_in fs name) (pushed ∙ ap (λ (fs : List (List ℕ × List ℕ)). fs ++ (name, bytes) ∷ []) is)
    ∙ pushed_there name old bytes none

-- ---- the same of disks

abbrev shown_one : {A : Type 0} → String A × MemoryDisk → List ℕ × List ℕ
shown_one f = (string_bytes f.0, content_of (device_of f.1))

-- an element that is there
there_at : {X : Type 0} (xs : List X) (place : ℕ) → place < length xs → (x : X) × (slice_get xs place ≡ Some x)
there_at xs place within =
    elim (slice_get_cases xs place).1 [
      | inl k ↦ (k.0, k.2)
      | inr k ↦ let past : length xs ≤ place = k.0 in absurd (omega (arith, within, past))
    ]

of_some : {X : Type 0} (o : Option X) (x : X) (P : X → Type 0) → o ≡ Some x → IfSome o P → P x
of_some {X = X} o x P is holds = subst (λ (q : Option X). IfSome q P) is holds

module _ {A : Type 0} (name : List ℕ) (fs : List (String A × MemoryDisk)) (place : ℕ) (is : Some place ≡ place_in (files_shown fs) name) where
  shown_at : (f : String A × MemoryDisk) → slice_get fs place ≡ Some f → slice_get (files_shown fs) place ≡ Some (shown_one f)
  shown_at f at = slice_get-map shown_one fs place ∙ ap (option_map shown_one) at

  disk_there : (f : String A × MemoryDisk) → slice_get fs place ≡ Some f → file_in (files_shown fs) name ≡ Some (content_of (device_of f.1))
  disk_there f at = file_there name (files_shown fs) place (sym is) (shown_one f) (shown_at f at)

  disk_then : (f : String A × MemoryDisk) (disk : MemoryDisk) → slice_get fs place ≡ Some f
      → file_in (files_shown (slice_set fs place (f.0, disk))) name ≡ Some (content_of (device_of disk))
  disk_then f disk at =
      ap (λ (xs : List (List ℕ × List ℕ)). file_in xs name) (map-set shown_one fs place (f.0, disk))
      ∙ file_then name (files_shown fs) place (sym is) (shown_one f) (shown_at f at) (content_of (device_of disk))

  -- the files of other names are as they were
  others_kept : (other : List ℕ) → other ≢ name → (f : String A × MemoryDisk) (disk : MemoryDisk) → slice_get fs place ≡ Some f
      → file_in (files_shown (slice_set fs place (f.0, disk))) other ≡ file_in (files_shown fs) other
  others_kept other differ f disk at =
      ap (λ (xs : List (List ℕ × List ℕ)). file_in xs other) (map-set shown_one fs place (f.0, disk))
      ∙ others_then name other differ (files_shown fs) place (sym is) (shown_one f) (shown_at f at) (content_of (device_of disk))

  pub others_now : (new : List (String A × MemoryDisk)) (disk : MemoryDisk) → place < length fs
      → IfSome (slice_get fs place) (λ f. new ≡ slice_set fs place (f.0, disk)) → (other : List ℕ) → other ≢ name
      → file_in (files_shown new) other ≡ file_in (files_shown fs) other
  others_now new disk within holds other differ =
      let x = there_at fs place within in
      ap (λ (xs : List (String A × MemoryDisk)). file_in (files_shown xs) other)
      (of_some (slice_get fs place) x.0 (λ f. new ≡ slice_set fs place (f.0, disk)) x.1 holds)
      ∙ others_kept other differ x.0 disk x.1

  -- the bytes that are read there
  pub disk_read : (f : String A × MemoryDisk) (bytes : List ℕ) → place < length fs → bytes ≡ content_of (device_of (get_or fs place f).1)
      → Some bytes ≡ file_in (files_shown fs) name
  disk_read f bytes within read =
      sym (disk_there (get_or fs place f) (slice_get-get_or fs place f within) ∙ ap Some (sym read))

  -- the disk that was there, and the one that is put there
  pub disk_was : (was : MemoryDisk) → place < length fs → IfSome (slice_get fs place) (λ f. was ≡ f.1)
      → file_in (files_shown fs) name ≡ Some (content_of (device_of was))
  disk_was was within holds =
      let x = there_at fs place within in
      disk_there x.0 x.1 ∙ ap (λ (d : MemoryDisk). Some (content_of (device_of d))) (sym (of_some (slice_get fs place) x.0 (λ f. was ≡ f.1) x.1 holds))

  pub disk_now : (new : List (String A × MemoryDisk)) (disk : MemoryDisk) → place < length fs
      → IfSome (slice_get fs place) (λ f. new ≡ slice_set fs place (f.0, disk)) → file_in (files_shown new) name ≡ Some (content_of (device_of disk))
  disk_now new disk within holds =
      let x = there_at fs place within in
      ap (λ (xs : List (String A × MemoryDisk)). file_in (files_shown xs) name)
      (of_some (slice_get fs place) x.0 (λ f. new ≡ slice_set fs place (f.0, disk)) x.1 holds)
      ∙ disk_then x.0 disk x.1
