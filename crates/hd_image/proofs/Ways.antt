-- A content is read in one way.
use Rattle.std.proofs.Common.{◌≡◌, ◌≢◌, inl, inr, ℕ, ◌+◌, ◌<◌, ◌≤◌, List, ◌∷◌, ◌++◌, length, get_or, drop, Result, Ok, Err, refl, sym, ap, ap₂, ◌∙◌, subst, arith}
use Rattle.std.specs.List.{flat_map, AllByRecursion}
use Rattle.hd_task.specs.declared.plan.Kid.{Kid}
use Rattle.hd_image.specs.declared.version.Version.{Version}
use Rattle.hd_image.specs.declared.header.TheConstants.{FIRST_GATE}
use Rattle.hd_image.specs.declared.contents.Contents.{Contents}
use Rattle.hd_image.specs.declared.contents.Found.{Found}
use Rattle.hd_image.specs.declared.contents.Found.TheVariants.{Unmade, HalfMade, Journal}
use Rattle.hd_image.specs.declared.error.ImageError.{ImageError}
use Rattle.hd_image.specs.declared.error.ImageError.TheVariants.{NotAJournal, OtherTask, Damaged, NoMemory}
use Rattle.hd_image.specs.Image.{IsGroup, opened}
use Rattle.hd_image.specs.Reading.{IsHalfMade, IsHeaded, IsNoJournal, IsOtherTask, IsDamaged, IsJournal, contents_of, IsReadAnswer}
use Rattle.hd_image.proofs.Heads.{head_bytes, headed_one}
use Rattle.hd_image.proofs.Joining.{IsEnd, closed_end, torn_end, groups_one}

-- ---- kinds of contents

abbrev Headed : List ℕ → Type 0
Headed content = (head : ℕ) × (v : Version) × (digest : List ℕ) × (body : List ℕ) × IsHeaded content head v digest body

half_long : (content : List ℕ) → IsHalfMade content → 1 < length content
half_long content half = let size = ap length half.closed in let some = half.some in omega (arith, size, some)

headed_long : (content : List ℕ) → Headed content → 1 < length content
headed_long content h = let long = (head_bytes content h.0 h.1 h.2 h.3 h.4).long in omega (arith, long)

half_not_headed : (content : List ℕ) → IsHalfMade content → Headed content → ⊥
half_not_headed content half h =
    let zero_first : 0 ≡ h.0 = ap (λ (xs : List ℕ). get_or xs 0 0) (sym half.closed ∙ h.4.whole) in
    elim h.4.gate [
      | inl is ↦ let one = is.0 in omega (arith, zero_first, one)
      | inr opening ↦ opening.0 (sym zero_first)
    ]

not_headed : (content : List ℕ) → IsNoJournal content → Headed content → ⊥
not_headed content none h = none.not_headed h.0 h.1 h.2 h.3 h.4

other_headed : (digest content : List ℕ) → IsOtherTask digest content → Headed content
other_headed digest content a = (a.head, a.v, a.other, a.body, a.headed)

damaged_headed : (digest content : List ℕ) (at : ℕ) → IsDamaged digest content at → Headed content
damaged_headed digest content at a = (a.head, a.v, digest, flat_map (opened a.v) a.groups ++ 1 ∷ a.behind, a.headed)

journal_headed : (digest content : List ℕ) (found : Contents) → IsJournal digest content found → Headed content
journal_headed digest content found a = (a.head, a.v, digest, flat_map (opened a.v) a.groups ++ a.gate ∷ a.behind, a.headed)

-- a header is of this task, or of another
other_not : (digest content : List ℕ) (head : ℕ) (v : Version) (body : List ℕ) → IsOtherTask digest content → IsHeaded content head v digest body → ⊥
other_not digest content head v body a h = a.differs ((headed_one content a.head head a.v v a.other digest a.body body a.headed h).digests)

-- ---- groups

-- the parts of a body are the same
record SameParts (head : ℕ) (v : Version) (gs : List (List Kid)) (t : List ℕ) (head' : ℕ) (v' : Version) (hs : List (List Kid))
    (u : List ℕ) : Type 0 where
  heads : head ≡ head'
  versions : v ≡ v'
  groups : gs ≡ hs
  tails : t ≡ u

same_parts : (digest content : List ℕ) (head head' : ℕ) (v v' : Version) (gs hs : List (List Kid)) (t u : List ℕ)
    → IsHeaded content head v digest (flat_map (opened v) gs ++ t) → IsHeaded content head' v' digest (flat_map (opened v') hs ++ u)
    → AllByRecursion (IsGroup v) gs → AllByRecursion (IsGroup v') hs → IsEnd v t → IsEnd v' u → SameParts head v gs t head' v' hs u
same_parts digest content head head' v v' gs hs t u h h' sg sh et eu =
    let one = headed_one content head head' v v' digest digest (flat_map (opened v) gs ++ t) (flat_map (opened v') hs ++ u) h h' in
    let back = sym one.versions in
    let bodies : flat_map (opened v) gs ++ t ≡ flat_map (opened v) hs ++ u = one.bodies ∙ ap (λ (w : Version). flat_map (opened w) hs ++ u) back in
    let both = groups_one v gs hs t u sg (subst (λ (w : Version). AllByRecursion (IsGroup w) hs) back sh) et
    (subst (λ (w : Version). IsEnd w u) back eu) bodies in
    record { heads = one.heads; versions = one.versions; groups = both.0; tails = both.1 }

gate_of : (b c : ℕ) (xs ys : List ℕ) → b ∷ xs ≡ c ∷ ys → b ≡ c
gate_of b c xs ys e = ap (λ (zs : List ℕ). get_or zs 0 0) e

behind_of : (b c : ℕ) (xs ys : List ℕ) → b ∷ xs ≡ c ∷ ys → xs ≡ ys
behind_of b c xs ys e = ap (drop 1) e

told_one : (head head' : ℕ) (v v' : Version) (gs hs : List (List Kid)) (gate gate' : ℕ) (behind behind' : List ℕ)
    → head ≡ head' → v ≡ v' → gs ≡ hs → gate ≡ gate' → behind ≡ behind' → contents_of v head gs gate behind ≡ contents_of v' head' hs gate' behind'
told_one head head' v v' gs hs gate gate' behind behind' a b c d e =
    ap₂ (λ (n : ℕ) (w : Version). contents_of w n gs gate behind) a b
    ∙ (ap₂ (λ (ks : List (List Kid)) (n : ℕ). contents_of v' head' ks n behind) c d ∙ ap (λ (xs : List ℕ). contents_of v' head' hs gate' xs) e)

journal_one : (digest content : List ℕ) (f g : Contents) → IsJournal digest content f → IsJournal digest content g → f ≡ g
journal_one digest content f g a b =
    let same = same_parts digest content a.head b.head a.v b.v a.groups b.groups (a.gate ∷ a.behind)
    (b.gate ∷ b.behind) a.headed b.headed a.sound b.sound
    (closed_end a.v a.gate a.behind a.ends) (closed_end b.v b.gate b.behind b.ends) in
    a.told
    ∙ (told_one a.head b.head a.v b.v a.groups b.groups a.gate b.gate a.behind b.behind same.heads same.versions same.groups
    (gate_of a.gate b.gate a.behind b.behind same.tails) (behind_of a.gate b.gate a.behind b.behind same.tails)
    ∙ sym b.told)

damaged_one : (digest content : List ℕ) (m n : ℕ) → IsDamaged digest content m → IsDamaged digest content n → m ≡ n
damaged_one digest content m n a b =
    let same = same_parts digest content a.head b.head a.v b.v a.groups b.groups (1 ∷ a.behind) (1 ∷ b.behind) a.headed b.headed a.sound b.sound
    (torn_end a.v a.behind a.torn) (torn_end b.v b.behind b.torn) in
    a.place ∙ (ap₂ (λ (w : Version) (ks : List (List Kid)). FIRST_GATE + length (flat_map (opened w) ks)) same.versions same.groups ∙ sym b.place)

journal_not_damaged : (digest content : List ℕ) (f : Contents) (n : ℕ) → IsJournal digest content f → IsDamaged digest content n → ⊥
journal_not_damaged digest content f n a b =
    let same = same_parts digest content a.head b.head a.v b.v a.groups b.groups (a.gate ∷ a.behind) (1 ∷ b.behind) a.headed b.headed a.sound b.sound
    (closed_end a.v a.gate a.behind a.ends) (torn_end b.v b.behind b.torn) in
    a.ends (gate_of a.gate 1 a.behind b.behind same.tails)

-- ---- answers

short_not : (content : List ℕ) → length content ≤ 1 → 1 < length content → ⊥
short_not content short long = omega (arith, short, long)

abbrev found : Found → Result Found ImageError
found f = Ok f

abbrev refused : ImageError → Result Found ImageError
refused e = Err e

pub one_answer : (digest content : List ℕ) (a b : Result Found ImageError) → a ≢ Err NoMemory → b ≢ Err NoMemory → IsReadAnswer digest content a
    → IsReadAnswer digest content b → a ≡ b
one_answer d c (Err NoMemory) b na nb x y = absurd (na refl)
one_answer d c (Ok Unmade) (Err NoMemory) na nb x y = absurd (nb refl)
one_answer d c (Ok HalfMade) (Err NoMemory) na nb x y = absurd (nb refl)
one_answer d c (Ok (Journal f)) (Err NoMemory) na nb x y = absurd (nb refl)
one_answer d c (Err NotAJournal) (Err NoMemory) na nb x y = absurd (nb refl)
one_answer d c (Err OtherTask) (Err NoMemory) na nb x y = absurd (nb refl)
one_answer d c (Err (Damaged m)) (Err NoMemory) na nb x y = absurd (nb refl)
one_answer d c (Ok Unmade) (Ok Unmade) na nb x y = refl
one_answer d c (Ok Unmade) (Ok HalfMade) na nb x y = absurd (short_not c x (half_long c y))
one_answer d c (Ok Unmade) (Ok (Journal g)) na nb x y = absurd (short_not c x (headed_long c (journal_headed d c g y)))
one_answer d c (Ok Unmade) (Err NotAJournal) na nb x y = absurd (short_not c x y.some)
one_answer d c (Ok Unmade) (Err OtherTask) na nb x y = absurd (short_not c x (headed_long c (other_headed d c y)))
one_answer d c (Ok Unmade) (Err (Damaged n)) na nb x y = absurd (short_not c x (headed_long c (damaged_headed d c n y)))
one_answer d c (Ok HalfMade) (Ok Unmade) na nb x y = absurd (short_not c y (half_long c x))
one_answer d c (Ok HalfMade) (Ok HalfMade) na nb x y = refl
one_answer d c (Ok HalfMade) (Ok (Journal g)) na nb x y = absurd (half_not_headed c x (journal_headed d c g y))
one_answer d c (Ok HalfMade) (Err NotAJournal) na nb x y = absurd (y.not_half x)
one_answer d c (Ok HalfMade) (Err OtherTask) na nb x y = absurd (half_not_headed c x (other_headed d c y))
one_answer d c (Ok HalfMade) (Err (Damaged n)) na nb x y = absurd (half_not_headed c x (damaged_headed d c n y))
one_answer d c (Ok (Journal f)) (Ok Unmade) na nb x y = absurd (short_not c y (headed_long c (journal_headed d c f x)))
one_answer d c (Ok (Journal f)) (Ok HalfMade) na nb x y = absurd (half_not_headed c y (journal_headed d c f x))
one_answer d c (Ok (Journal f)) (Ok (Journal g)) na nb x y = ap (λ (h : Contents). found (Journal h)) (journal_one d c f g x y)
one_answer d c (Ok (Journal f)) (Err NotAJournal) na nb x y = absurd (not_headed c y (journal_headed d c f x))
one_answer d c (Ok (Journal f)) (Err OtherTask) na nb x y =
    absurd (other_not d c x.head x.v (flat_map (opened x.v) x.groups ++ x.gate ∷ x.behind) y x.headed)
one_answer d c (Ok (Journal f)) (Err (Damaged n)) na nb x y = absurd (journal_not_damaged d c f n x y)
one_answer d c (Err NotAJournal) (Ok Unmade) na nb x y = absurd (short_not c y x.some)
one_answer d c (Err NotAJournal) (Ok HalfMade) na nb x y = absurd (x.not_half y)
one_answer d c (Err NotAJournal) (Ok (Journal g)) na nb x y = absurd (not_headed c x (journal_headed d c g y))
one_answer d c (Err NotAJournal) (Err NotAJournal) na nb x y = refl
one_answer d c (Err NotAJournal) (Err OtherTask) na nb x y = absurd (not_headed c x (other_headed d c y))
one_answer d c (Err NotAJournal) (Err (Damaged n)) na nb x y = absurd (not_headed c x (damaged_headed d c n y))
one_answer d c (Err OtherTask) (Ok Unmade) na nb x y = absurd (short_not c y (headed_long c (other_headed d c x)))
one_answer d c (Err OtherTask) (Ok HalfMade) na nb x y = absurd (half_not_headed c y (other_headed d c x))
one_answer d c (Err OtherTask) (Ok (Journal g)) na nb x y =
    absurd (other_not d c y.head y.v (flat_map (opened y.v) y.groups ++ y.gate ∷ y.behind) x y.headed)
one_answer d c (Err OtherTask) (Err NotAJournal) na nb x y = absurd (not_headed c y (other_headed d c x))
one_answer d c (Err OtherTask) (Err OtherTask) na nb x y = refl
one_answer d c (Err OtherTask) (Err (Damaged n)) na nb x y =
    absurd (other_not d c y.head y.v (flat_map (opened y.v) y.groups ++ 1 ∷ y.behind) x y.headed)
one_answer d c (Err (Damaged m)) (Ok Unmade) na nb x y = absurd (short_not c y (headed_long c (damaged_headed d c m x)))
one_answer d c (Err (Damaged m)) (Ok HalfMade) na nb x y = absurd (half_not_headed c y (damaged_headed d c m x))
one_answer d c (Err (Damaged m)) (Ok (Journal g)) na nb x y = absurd (journal_not_damaged d c g m y x)
one_answer d c (Err (Damaged m)) (Err NotAJournal) na nb x y = absurd (not_headed c y (damaged_headed d c m x))
one_answer d c (Err (Damaged m)) (Err OtherTask) na nb x y =
    absurd (other_not d c x.head x.v (flat_map (opened x.v) x.groups ++ 1 ∷ x.behind) y x.headed)
one_answer d c (Err (Damaged m)) (Err (Damaged n)) na nb x y = ap (λ (k : ℕ). refused (Damaged k)) (damaged_one d c m n x y)
