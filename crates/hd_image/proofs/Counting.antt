-- The places of a journal's entries tell how many groups it has.
use Rattle.std.proofs.Common.{◌≡◌, ℕ, ◌+◌, ◌*◌, ◌<◌, ◌≤◌, Bool, true, false, cond, List, [], ◌∷◌, ◌++◌, length, Option, Some, None, refl, sym, ap, ap₂, ◌∙◌, arith}
use Rattle.std.specs.Prelude.{slice_range}
use Rattle.std.specs.List.{AllByRecursion}
use Rattle.std.proofs.lemmas.Bool.{eq-eqb, ne_eqb}
use Rattle.hd_task.specs.declared.plan.Kid.{Kid}
use Rattle.hd_image.specs.declared.version.Version.{Version}
use Rattle.hd_image.specs.declared.entry.Entry.{Entry}
use Rattle.hd_image.specs.declared.header.TheConstants.{FIRST_GATE}
use Rattle.hd_image.specs.Image.{entry_width, IsGroup, opened, entries_of, entries_in}
use Rattle.hd_image.specs.declared.contents.Contents.{Contents}
use Rattle.hd_image.specs.declared.error.ImageError.{ImageError}
use Rattle.hd_image.specs.declared.error.ImageError.TheVariants.{NotAJournal, OtherTask, Damaged, NoMemory}
use Rattle.hd_image.specs.Reading.{IsOtherTask, IsJournal}
use Rattle.hd_image.specs.Reading as image
use Rattle.hd_image.proofs.Heads.{head_bytes}
use Rattle.hd_image.proofs.Joining.{length-counted}
use Rattle.hd_image.specs.Groups.{follows, count_groups}
use Rattle.hd_image.specs.declared.inspected.Summary.{Summary}
use Rattle.hd_image.specs.Inspecting.{IsSummary, IsRefused}

-- the entries of a group after its first one, and what comes after them
in_group : (v : Version) (kids : List Kid) (last : ℕ) (rest : List Entry) (n : ℕ)
    → ((end : ℕ) → end ≡ last + entry_width v * length kids → count_groups (entry_width v) (Some end) rest ≡ n)
    → count_groups (entry_width v) (Some last) (entries_of v (last + entry_width v) kids ++ rest) ≡ n
in_group v [] last rest n behind = behind last (omega arith)
in_group v (k ∷ kids) last rest n behind =
    let w = entry_width v in
    let next = in_group v kids (last + w) rest n (λ end e. behind end (omega (arith, e))) in
    let joins : follows w (Some last) (last + w) ≡ true = eq-eqb (last + w) (last + w) refl in
    let none : cond (follows w (Some last) (last + w)) 0 1 ≡ 0 = ap (λ (b : Bool). let n : ℕ = cond b 0 1 in n) joins in
    omega (arith, next, none)

-- a last entry before a gate ends at the gate
abbrev EndsBefore : ℕ → Option ℕ → ℕ → Type 0
EndsBefore w None gate = Unit {0}
EndsBefore w (Some last) gate = last + w ≤ gate

begins : (w : ℕ) (last : Option ℕ) (gate : ℕ) → EndsBefore w last gate → follows w last (gate + 5) ≡ false
begins w None gate e = refl
begins w (Some last) gate e = let le : last + w ≤ gate = e in ne_eqb (gate + 5) (last + w) (λ same. omega (arith, le, same))

pub groups_counted : (v : Version) (groups : List (List Kid)) (gate : ℕ) (last : Option ℕ) → AllByRecursion (IsGroup v) groups → EndsBefore (entry_width v) last gate
    → count_groups (entry_width v) last (entries_in v gate groups) ≡ length groups
groups_counted v [] gate last all e = refl
groups_counted v ([] ∷ groups) gate last all e = let some = all.0.some in absurd (omega (arith, some))
groups_counted v ((k ∷ kids) ∷ groups) gate last all e =
    let w = entry_width v in
    let next = gate + length (opened v (k ∷ kids)) in
    let long = length-counted v (k ∷ kids) in
    let rest = in_group v kids (gate + 5) (entries_in v next groups) (length groups)
    (λ end at. groups_counted v groups next (Some end) all.1 (let le : end + w ≤ next = omega (arith, at, long) in le)) in
    let first : cond (follows w last (gate + 5)) 0 1 ≡ 1 = ap (λ (b : Bool). let n : ℕ = cond b 0 1 in n) (begins w last gate e) in
    omega (arith, rest, first)

-- the digest that stands in a header is no other one
pub no_other : (content digest : List ℕ) → (FIRST_GATE < length content → digest ≡ slice_range content 6 FIRST_GATE) → IsOtherTask digest content → ⊥
no_other content digest reads other =
    let bytes = head_bytes content other.head other.v other.other other.body other.headed in
    other.differs (sym (reads bytes.long ∙ bytes.digest_is))

-- what is reported of a journal is so
pub summed : (content digest : List ℕ) (found : Contents) (s : Summary) → IsJournal digest content found → s.version ≡ found.version → s.digest ≡ digest → s.entries ≡ length found.entries
    → s.groups ≡ count_groups (entry_width found.version) None found.entries → s.behind ≡ found.behind → IsSummary content s
summed content digest found s journal version digest_is entries groups behind =
    let told = journal.told in
    let v : found.version ≡ journal.v = ap (λ (x : Contents). x.version) told in
    let es : found.entries ≡ entries_in journal.v FIRST_GATE journal.groups = ap (λ (x : Contents). x.entries) told in
    record {
      digest = digest;
      found = found;
      journal = journal;
      version_is = version ∙ v;
      digest_is = digest_is;
      entries_are = entries;
      groups_are = groups ∙ (ap₂ (λ (v : Version) (es : List Entry). count_groups (entry_width v) None es) v es ∙ groups_counted journal.v journal.groups FIRST_GATE None journal.sound tt);
      behind_is = behind ∙ ap (λ (x : Contents). x.behind) told;
    }

-- why bytes are refused for the digest that stands in them
pub refused_any :
    (content digest : List ℕ) → (FIRST_GATE < length content → digest ≡ slice_range content 6 FIRST_GATE) → (e : ImageError) → image.IsRefused digest content e → IsRefused content e
refused_any content digest reads NotAJournal why = why
refused_any content digest reads OtherTask why = no_other content digest reads why
refused_any content digest reads (Damaged at) why = (digest, why)
refused_any content digest reads NoMemory why = tt
