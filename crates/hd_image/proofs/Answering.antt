-- Each content has an answer.
use Rattle.std.proofs.Common.{◌≡◌, ◌≢◌, ◌⊎◌, inl, inr, ℕ, zero, suc, ◌+◌, ◌-◌, ◌*◌, ◌^◌, ◌<◌, ◌≤◌, ◌==◌, Bool, true, false, List, [], ◌∷◌, ◌++◌, length, take, drop, slice_index, slice_range, Result, Ok, Err, refl, sym, ap, ap₂, ◌∙◌, arith}
use Rattle.std.specs.Prelude.{codes}
use Rattle.std.specs.Bool.{Decides}
use Rattle.std.specs.Str.{bytes_eq}
use Rattle.std.specs.List.{flat_map, AllByRecursion}
use Rattle.std.proofs.lemmas.Bool.{cases_lt, eqb-true, eqb-false}
use Rattle.std.proofs.lemmas.Slice.Eq.{bytes_eq-Decides}
use Rattle.std.proofs.lemmas.List.{length-append, length-take, length-drop, nil_from_length, take-append-drop}
use Rattle.std.proofs.Math.Nat.{mul-suc}
use Rattle.byteorder.specs.Endian.{little_number}
use Rattle.byteorder.specs.Numbers.{little_from-lt}
use Rattle.hd_task.specs.declared.plan.Kid.{Kid}
use Rattle.hd_task.specs.declared.plan.TheConstants.{ROOT_PARENT}
use Rattle.hd_image.specs.declared.version.Version.{Version}
use Rattle.hd_image.specs.declared.version.Version.TheVariants.{One, Two}
use Rattle.hd_image.specs.declared.entry.Entry.{Entry}
use Rattle.hd_image.specs.declared.entry.TheConstants.{MAX_GROUP}
use Rattle.hd_image.specs.declared.header.TheConstants.{FIRST_GATE}
use Rattle.hd_image.specs.declared.contents.Contents.{Contents}
use Rattle.hd_image.specs.declared.contents.Found.{Found}
use Rattle.hd_image.specs.declared.contents.Found.TheVariants.{Unmade, HalfMade, Journal}
use Rattle.hd_image.specs.declared.error.ImageError.{ImageError}
use Rattle.hd_image.specs.declared.error.ImageError.TheVariants.{NotAJournal, OtherTask, Damaged, NoMemory}
use Rattle.hd_image.specs.Image.{version_byte, parent_width, entry_width, root_number, HasBytes, entry_bytes, opened, entries_of}
use Rattle.hd_image.specs.Reading.{IsHalfMade, IsHead, IsHeaded, IsNoJournal, HasGroup, IsReadAnswer}
use Rattle.hd_image.specs.Walking.{IsGroupLen, HasWalked, IsTorn}
use Rattle.hd_image.proofs.Digits.{IsBytes, bytes-take, bytes-drop, bytes-behind}
use Rattle.hd_image.proofs.Numbering.{no_version, number_told}
use Rattle.hd_image.proofs.Heads.{half_made, not_half_long, half_closed, head_bytes, no_head_short, no_head_letters, no_head_version, no_head_gate, is_headed}
use Rattle.hd_image.proofs.Strides.{TellsKid, tells_kid, count_least, count_most, not_within, first_behind, StandsFirst, walked_none, walked_by, split_first, torn_here, refused_by, found_journal}

-- ---- the pairs that bytes tell

kid_from : (v : Version) (bytes : List ℕ) → IsBytes bytes → length bytes ≡ entry_width v → (kid : Kid) × TellsKid v bytes kid
kid_from v bytes fits len =
    let n = little_number (parent_width v) bytes in
    let a = little_number 4 (drop (parent_width v) bytes) in
    let below : n < 256 ^ parent_width v = little_from-lt 0 (parent_width v) bytes fits in
    let small : a < 256 ^ 4 = little_from-lt 0 4 (drop (parent_width v) bytes) (bytes-drop (parent_width v) bytes fits) in
    elim (n == root_number v) as (λ b. (n == root_number v) ≡ b → (kid : Kid) × TellsKid v bytes kid) [
      | true ↦ λ e.
          let kid : Kid = record { parent = ROOT_PARENT; action = a } in
          (kid, tells_kid v bytes kid n fits len refl below (inl refl) (sym (eqb-true n (root_number v) e)) refl (omega (arith, small)))
      | false ↦ λ e.
          let kid : Kid = record { parent = n; action = a } in
          let told = number_told v n below (eqb-false n (root_number v) e) in
          (kid, tells_kid v bytes kid n fits len refl below told.0 told.1 refl (omega (arith, small)))
    ] refl

-- so many pairs, whose bytes these are
record Tells (v : Version) (n : ℕ) (bytes : List ℕ) : Type 0 where
  kids : List Kid
  held : AllByRecursion (HasBytes v) kids
  count : length kids ≡ n
  bytes_are : bytes ≡ flat_map (entry_bytes v) kids

kids_from : (v : Version) (n : ℕ) (bytes : List ℕ) → IsBytes bytes → length bytes ≡ entry_width v * n → Tells v n bytes
kids_from v zero bytes fits len = record { kids = []; held = tt; count = refl; bytes_are = nil_from_length bytes (omega (arith, len)) }
kids_from v (suc n) bytes fits len =
    let width = entry_width v in
    let product = mul-suc width n in
    let front_len = length-take width bytes in
    let rest_len = length-drop width bytes in
    let first = kid_from v (take width bytes) (bytes-take width bytes fits) (omega (arith, len, product, front_len)) in
    let others = kids_from v n (drop width bytes) (bytes-drop width bytes fits) (omega (arith, len, product, rest_len)) in
    let count = others.count in
    record {
      kids = first.0 ∷ others.kids;
      held = (first.1.held, others.held);
      count = ap suc count;
      bytes_are = sym (take-append-drop width bytes) ∙ ap₂ (λ (xs ys : List ℕ). xs ++ ys) (sym first.1.bytes_are) others.bytes_are;
    }

-- ---- the group after a gate

group_from : (v : Version) (behind : List ℕ) (len : ℕ) → IsBytes behind → IsGroupLen v behind len → HasGroup v behind
group_from v behind len fits is =
    let len_is = is.is in
    let within = is.within in
    let taken = length-take len behind in
    let size = length-drop 4 (take len behind) in
    let rest = length-drop len behind in
    let tells = kids_from v (little_number 4 behind) (drop 4 (take len behind)) (bytes-drop 4 (take len behind) (bytes-take len behind fits))
    (omega (arith, len_is, within, taken, size)) in
    let first = first_behind v behind len tells.kids fits is tells.held tells.bytes_are in
    record { kids = tells.kids; next = drop len behind; group = first.0; gate = omega (arith, rest, within); whole = first.1 }

group_or_none : (v : Version) (behind : List ℕ) → IsBytes behind → HasGroup v behind ⊎ (¬ HasGroup v behind)
group_or_none v behind fits =
    let count = little_number 4 behind in
    let len = 4 + entry_width v * count in
    elim (cases_lt count 1) [
      | inl few ↦ inr (count_least v behind few)
      | inr some ↦ elim (cases_lt MAX_GROUP count) [
        | inl many ↦ inr (count_most v behind many)
        | inr most ↦ elim (cases_lt len (length behind)) [
          | inl within ↦ inl (group_from v behind len fits (record { some = some; most = most; is = refl; within = within }))
          | inr beyond ↦ inr (not_within v behind len refl beyond)
        ]
      ]
    ]

-- ---- from gate to gate

-- a body ends with a gate that is not open, or is torn
record Ends (v : Version) (body : List ℕ) : Type 0 where
  rest : List ℕ
  entries : List Entry
  walked : HasWalked v body rest entries
  ended : slice_index rest 0 ≢ 1

walks : (fuel : ℕ) (v : Version) (body rest : List ℕ) (entries : List Entry) → IsBytes rest → HasWalked v body rest entries → length rest ≤ fuel
    → Ends v body ⊎ ((at : ℕ) × IsTorn v body at)
walks zero v body rest entries fits w le = absurd (let some = w.some in omega (arith, some, le))
walks (suc fuel) v body rest entries fits w le =
    let some = w.some in
    let size : length body ≡ length (flat_map (opened v) w.groups) + length rest = ap length w.whole
    ∙ length-append (flat_map (opened v) w.groups) rest in
    elim (slice_index rest 0 == 1) as (λ b. (slice_index rest 0 == 1) ≡ b → Ends v body ⊎ ((at : ℕ) × IsTorn v body at)) [
      | false ↦ λ e. inl (record { rest = rest; entries = entries; walked = w; ended = eqb-false (slice_index rest 0) 1 e })
      | true ↦ λ e.
          let at_gate = eqb-true (slice_index rest 0) 1 e in
          elim (group_or_none v (drop 1 rest) (bytes-drop 1 rest fits)) [
            | inr torn ↦ inr (
              FIRST_GATE + (length body - length rest),
              torn_here v body rest (FIRST_GATE + (length body - length rest)) entries w at_gate torn
                  (omega (arith, size)),
            )
            | inl has ↦
                let split : rest ≡ opened v has.kids ++ has.next = split_first rest some ∙ ap₂ (λ (g : ℕ) (xs : List ℕ). g ∷ xs) at_gate has.whole in
                let at = FIRST_GATE + (length body - length rest) + 5 in
                let first : StandsFirst v rest has.next has.kids = record { group = has.group; whole = split } in
                let lens : length rest ≡ length (opened v has.kids) + length has.next = ap length split
                ∙ length-append (opened v has.kids) has.next in
                walks fuel v body has.next (entries ++ entries_of v at has.kids) (bytes-behind rest (opened v has.kids) has.next fits split)
                (walked_by v body rest has.next at entries (entries ++ entries_of v at has.kids) has.kids w first has.gate refl (omega (arith, size)))
                (omega (arith, lens, le))
          ]
    ] refl

-- ---- the header

decided : {P : Type 0} (r : Bool) → Decides r P → P ⊎ (¬ P)
decided true d = inl (d.0 refl)
decided false d = inr (λ p. let e = d.1 p in cc)

version_from : (b : ℕ) → ((v : Version) × (b ≡ version_byte v)) ⊎ ((v : Version) → b ≢ version_byte v)
version_from b =
    elim (b == 1) as (λ t. (b == 1) ≡ t → ((v : Version) × (b ≡ version_byte v)) ⊎ ((v : Version) → b ≢ version_byte v)) [
      | true ↦ λ e. inl (One, eqb-true b 1 e)
      | false ↦ λ e.
          elim (b == 2) as (λ t. (b == 2) ≡ t → ((v : Version) × (b ≡ version_byte v)) ⊎ ((v : Version) → b ≢ version_byte v)) [
            | true ↦ λ f. inl (Two, eqb-true b 2 f)
            | false ↦ λ f. inr (no_version b (eqb-false b 1 e) (eqb-false b 2 f))
          ] refl
    ] refl

same_or_not : (m n : ℕ) → (m ≡ n) ⊎ (m ≢ n)
same_or_not m n =
    elim (m == n) as (λ t. (m == n) ≡ t → (m ≡ n) ⊎ (m ≢ n)) [
      | true ↦ λ e. inl (eqb-true m n e)
      | false ↦ λ e. inr (eqb-false m n e)
    ] refl

head_or_not : (head behind : ℕ) → 1 ≤ behind → IsHead head behind ⊎ (¬ IsHead head behind)
head_or_not head behind some =
    elim (same_or_not head 1) [
      | inl one ↦ inl (inl (one, some))
      | inr not_one ↦ elim (same_or_not head 0) [
        | inl null ↦ inr (λ h. elim h [ inl is ↦ not_one is.0 | inr is ↦ is.0 null ])
        | inr not_null ↦ elim (same_or_not behind 1) [
          | inl alone ↦ inl (inr (not_null, not_one, alone))
          | inr more ↦ inr (λ h. elim h [ inl is ↦ not_one is.0 | inr is ↦ more is.2 ])
        ]
      ]
    ]

abbrev Stands : List ℕ → Type 0
Stands content = (v : Version) × IsHeaded content (slice_index content 0) v (slice_range content 6 FIRST_GATE) (drop FIRST_GATE content)

headed_or_not : (content : List ℕ) → 1 < length content → ¬ IsHalfMade content → Stands content ⊎ IsNoJournal content
headed_or_not content some not_half =
    elim (cases_lt FIRST_GATE (length content)) [
      | inr short ↦ inr (record { some = some; not_half = not_half; not_headed = no_head_short content short })
      | inl long ↦ elim (decided (bytes_eq (slice_range content 1 5) (codes "HDPJ")) (bytes_eq-Decides (slice_range content 1 5) (codes "HDPJ"))) [
        | inr other ↦ inr (record { some = some; not_half = not_half; not_headed = no_head_letters content other })
        | inl letters ↦ elim (version_from (slice_index content 5)) [
          | inr none ↦ inr (record { some = some; not_half = not_half; not_headed = no_head_version content none })
          | inl version ↦ elim (head_or_not (slice_index content 0) (length content - FIRST_GATE) (omega (arith, long))) [
            | inl gate ↦ inl (version.0, is_headed content version.0 long letters version.1 gate)
            | inr none ↦ inr (record { some = some; not_half = not_half; not_headed = no_head_gate content none })
          ]
        ]
      ]
    ]

-- ---- answers

abbrev pub Answers : List ℕ → List ℕ → Type 0
Answers digest content = (a : Result Found ImageError) × (a ≢ Err NoMemory) × IsReadAnswer digest content a

abbrev found_is : Found → Result Found ImageError
found_is f = Ok f

found_not : (f : Found) → found_is f ≢ Err NoMemory
found_not f e = cc

of_headed : (digest content : List ℕ) → IsBytes content → Stands content → Answers digest content
of_headed digest content fits stands =
    let v = stands.0 in
    let body = drop FIRST_GATE content in
    let long = (head_bytes content (slice_index content 0) v (slice_range content 6 FIRST_GATE) body stands.1).long in
    let size = length-drop FIRST_GATE content in
    elim (decided (bytes_eq (slice_range content 6 FIRST_GATE) digest) (bytes_eq-Decides (slice_range content 6 FIRST_GATE) digest)) [
      | inr other ↦ (
        Err OtherTask,
        (λ e. cc),
        record {
          head = slice_index content 0;
          v = v;
          other = slice_range content 6 FIRST_GATE;
          body = body;
          headed = stands.1;
          differs = other;
        },
      )
      | inl same ↦
          elim (walks (length body) v body body [] (bytes-drop FIRST_GATE content fits) (walked_none v body (omega (arith, long, size)))
          (omega arith)) [
            | inl ends ↦
                let w = ends.walked in
                let some = w.some in
                let parts : length body ≡ length (flat_map (opened v) w.groups) + length ends.rest = ap length w.whole
                ∙ length-append (flat_map (opened v) w.groups) ends.rest in
                let last = FIRST_GATE + (length body - length ends.rest) in
                let found : Contents = record {
                  version = v;
                  entries = ends.entries;
                  last_gate = last;
                  header_open = slice_index content 0 == 1;
                  gate_closed = slice_index ends.rest 0 == 0;
                  behind = length ends.rest - 1;
                } in (
                  Ok (Journal found),
                  found_not (Journal found),
                  found_journal content (slice_index content 0) v (slice_range content 6 FIRST_GATE) digest body ends.rest ends.entries last
                      (length ends.rest - 1) stands.1 same w ends.ended
                      (omega (arith, parts)) (omega (arith, some)),
                )
            | inr torn ↦ (
              Err (Damaged torn.0),
              (λ e. cc),
              refused_by content (slice_index content 0) v (slice_range content 6 FIRST_GATE) digest body
                  (Damaged torn.0) stands.1 same torn.1,
            )
          ]
    ]

of_longer : (digest content : List ℕ) → IsBytes content → 1 < length content → ¬ IsHalfMade content → Answers digest content
of_longer digest content fits some not_half =
    elim (headed_or_not content some not_half) [
      | inl stands ↦ of_headed digest content fits stands
      | inr none ↦ (Err NotAJournal, (λ e. cc), none)
    ]

half_or_not : (content : List ℕ) → 1 < length content → IsHalfMade content ⊎ (¬ IsHalfMade content)
half_or_not content some =
    elim (cases_lt 39 (length content)) [
      | inl longer ↦ inr (not_half_long content longer)
      | inr short ↦ elim (same_or_not (slice_index content 0) 0) [
        | inl closed ↦ inl (half_made content some short closed)
        | inr other ↦ inr (λ h. other (half_closed content h))
      ]
    ]

pub has_answer : (digest content : List ℕ) → IsBytes content → Answers digest content
has_answer digest content fits =
    elim (cases_lt 1 (length content)) [
      | inr short ↦ (Ok Unmade, found_not Unmade, short)
      | inl some ↦ elim (half_or_not content some) [
        | inl half ↦ (Ok HalfMade, found_not HalfMade, half)
        | inr not_half ↦ of_longer digest content fits some not_half
      ]
    ]
