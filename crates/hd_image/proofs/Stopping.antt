-- What was written is read, and what a stop leaves.
use Rattle.std.proofs.Common.{◌≡◌, ◌≢◌, ◌⊎◌, inl, inr, ℕ, suc, ◌+◌, ◌≤◌, ◌==◌, true, false, List, [], ◌∷◌, ◌++◌, length, take, drop, refl, sym, ap, ◌∙◌, subst, append_assoc, arith}
use Rattle.std.specs.List.{flat_map, AllByRecursion}
use Rattle.std.proofs.lemmas.List.{length-append, append-nil, take_at}
use Rattle.std.proofs.lemmas.Bool.{eqb-true, eqb-false}
use Rattle.hd_base.proofs.Lists.{AllByRecursion-push}
use Rattle.hd_task.specs.declared.plan.Kid.{Kid}
use Rattle.hd_image.specs.declared.version.Version.{Version}
use Rattle.hd_image.specs.declared.header.TheConstants.{FIRST_GATE, DIGEST_LEN}
use Rattle.hd_image.specs.declared.contents.Contents.{Contents}
use Rattle.hd_image.specs.declared.contents.Found.TheVariants.{Journal}
use Rattle.hd_image.specs.Image.{IsGroup, counted, opened, header, front, image, entries_of, entries_in}
use Rattle.hd_image.specs.Reading.{IsHalfMade, IsHead, IsHeaded, IsJournal, IsFound, contents_of}
use Rattle.hd_image.specs.Stops.{IsBeforeOrAfter, IsMaking, ReadsAsGroups, IsAfter, ReadsAsNone, MendsTo}
use Rattle.hd_image.proofs.Joining.{opened-append, entries_in-append}

-- ---- journals that are read

-- the header's parts and the body
regrouped : (digest groups rest : List ℕ) → (digest ++ groups) ++ rest ≡ digest ++ (groups ++ rest)
regrouped digest groups rest = append_assoc digest groups rest

body_some : (groups : List ℕ) (gate : ℕ) (behind : List ℕ) → 1 ≤ length (groups ++ gate ∷ behind)
body_some groups gate behind = let whole = length-append groups (gate ∷ behind) in omega (arith, whole)

-- a content with an open header, groups, and then a gate that is not open
pub is_journal : (v : Version) (digest : List ℕ) (groups : List (List Kid)) (gate : ℕ) (behind content : List ℕ) → length digest ≡ DIGEST_LEN
    → AllByRecursion (IsGroup v) groups
    → gate ≢ 1 → content ≡ front v digest groups ++ gate ∷ behind → IsJournal digest content (contents_of v 1 groups gate behind)
is_journal v digest groups gate behind content len sound ends whole = record {
  head = 1;
  v = v;
  groups = groups;
  gate = gate;
  behind = behind;
  headed = record {
    whole = whole ∙ ap (λ (xs : List ℕ). 1 ∷ header v xs) (regrouped digest (flat_map (opened v) groups) (gate ∷ behind));
    digest_len = len;
    gate = inl (refl, body_some (flat_map (opened v) groups) gate behind);
  };
  sound = sound;
  ends = ends;
  told = refl;
}

zero_not_one : ◌≢◌ {A = ℕ} 0 1
zero_not_one e = omega (arith, e)

pub image_read : (v : Version) (digest : List ℕ) (groups : List (List Kid)) → length digest ≡ DIGEST_LEN → AllByRecursion (IsGroup v) groups
    → IsFound digest (image v digest groups) (Journal (contents_of v 1 groups 0 []))
image_read v digest groups len sound = is_journal v digest groups 0 [] (image v digest groups) len sound zero_not_one refl

reads : (v : Version) (digest : List ℕ) (groups : List (List Kid)) (gate : ℕ) (behind content : List ℕ) → length digest ≡ DIGEST_LEN
    → AllByRecursion (IsGroup v) groups
    → gate ≢ 1 → content ≡ front v digest groups ++ gate ∷ behind → ReadsAsGroups digest content v groups
reads v digest groups gate behind content len sound ends whole =
    record { head = 1; gate = gate; behind = behind; found = is_journal v digest groups gate behind content len sound ends whole }

-- ---- while a group is appended

-- the group stands after its gate, which is open
pub joined : (v : Version) (digest : List ℕ) (groups : List (List Kid)) (next : List Kid)
    → front v digest groups ++ 1 ∷ (counted v next ++ 0 ∷ []) ≡ image v digest (groups ++ next ∷ [])
joined v digest groups next =
    let all = flat_map (opened v) groups in
    let body : (digest ++ all) ++ 1 ∷ (counted v next ++ 0 ∷ []) ≡ (digest ++ flat_map (opened v) (groups ++ next ∷ [])) ++ 0 ∷ [] =
    sym (append_assoc (digest ++ all) (opened v next) (0 ∷ []))
    ∙ ap (λ (xs : List ℕ). xs ++ 0 ∷ []) (append_assoc digest all (opened v next)
    ∙ ap (λ (xs : List ℕ). digest ++ xs) (sym (opened-append v groups next))) in
    ap (λ (xs : List ℕ). 1 ∷ header v xs) body

opening_read : (v : Version) (digest : List ℕ) (groups : List (List Kid)) (next : List Kid) (content : List ℕ) → length digest ≡ DIGEST_LEN
    → AllByRecursion (IsGroup v) groups → IsGroup v next
    → (gate : ℕ) → content ≡ front v digest groups ++ gate ∷ (counted v next ++ 0 ∷ [])
    → ReadsAsGroups digest content v groups ⊎ IsAfter digest content v groups next
opening_read v digest groups next content len sound group gate whole =
    elim (gate == 1) as (λ b. (gate == 1) ≡ b → ReadsAsGroups digest content v groups ⊎ IsAfter digest content v groups next) [
      | true ↦ λ e.
          let one : gate ≡ 1 = eqb-true gate 1 e in
          let is : content ≡ image v digest (groups ++ next ∷ []) = whole
          ∙ (ap (λ (g : ℕ). front v digest groups ++ g ∷ (counted v next ++ 0 ∷ [])) one ∙ joined v digest groups next) in
          inr (record {
            reads =
                reads v digest (groups ++ next ∷ []) 0 [] content len (AllByRecursion-push (IsGroup v) groups next sound group) zero_not_one is;
            whole =
                is;
          })
      | false ↦ λ e. inl (reads v digest groups gate (counted v next ++ 0 ∷ []) content len sound (eqb-false gate 1 e) whole)
    ] refl

pub before_or_after : (v : Version) (digest : List ℕ) (groups : List (List Kid)) (next : List Kid) (content : List ℕ) → length digest ≡ DIGEST_LEN
    → AllByRecursion (IsGroup v) groups → IsGroup v next
    → IsBeforeOrAfter v digest groups next content → ReadsAsGroups digest content v groups ⊎ IsAfter digest content v groups next
before_or_after v digest groups next content len sound group left =
    elim left [
      | inl closed ↦ inl (reads v digest groups 0 closed.behind content len sound zero_not_one closed.whole)
      | inr opening ↦ opening_read v digest groups next content len sound group opening.gate opening.whole
    ]

-- ---- what is written

pub made : (v : Version) (digest : List ℕ) → 1 ∷ header v digest ++ 0 ∷ [] ≡ image v digest []
made v digest = ap (λ (xs : List ℕ). 1 ∷ header v (xs ++ 0 ∷ [])) (sym (append-nil digest))

pub length-front : (v : Version) (digest : List ℕ) (groups : List (List Kid)) → length digest ≡ DIGEST_LEN
    → length (front v digest groups) ≡ FIRST_GATE + length (flat_map (opened v) groups)
length-front v digest groups len = let parts = length-append digest (flat_map (opened v) groups) in omega (arith, parts, len)

pub appended_entries : (v : Version) (digest : List ℕ) (groups : List (List Kid)) (next : List Kid) → length digest ≡ DIGEST_LEN
    → entries_in v FIRST_GATE (groups ++ next ∷ []) ≡ entries_in v FIRST_GATE groups ++ entries_of v (length (front v digest groups) + 5) next
appended_entries v digest groups next len =
    entries_in-append v FIRST_GATE groups next
    ∙ ap (λ (n : ℕ). entries_in v FIRST_GATE groups ++ entries_of v (n + 5) next) (sym (length-front v digest groups len))

-- ---- while a header is made

half : (rest content : List ℕ) (gate : ℕ) → gate ≡ 0 → content ≡ gate ∷ rest → 1 ≤ length rest → length rest ≤ FIRST_GATE → IsHalfMade content
half rest content gate zero_gate whole some short =
    record { rest = rest; closed = whole ∙ ap (λ (g : ℕ). g ∷ rest) zero_gate; some = some; short = short }

opening_none : (v : Version) (digest content : List ℕ) → length digest ≡ DIGEST_LEN → (gate : ℕ) → content ≡ gate ∷ header v digest ++ 0 ∷ []
    → ReadsAsNone digest content v
opening_none v digest content len gate whole =
    let size = length-append digest (0 ∷ []) in
    elim (gate == 0) as (λ b. (gate == 0) ≡ b → ReadsAsNone digest content v) [
      | true ↦ λ e. inr
          (inl (half (header v digest ++ 0 ∷ []) content gate (eqb-true gate 0 e) whole (omega (arith, size, len)) (omega (arith, size, len))))
      | false ↦ λ e.
          let not_zero = eqb-false gate 0 e in
          let is_head : IsHead gate 1 = elim (gate == 1) as (λ b. (gate == 1) ≡ b → IsHead gate 1) [
            | true ↦ λ f. inl (eqb-true gate 1 f, omega arith)
            | false ↦ λ f. inr (not_zero, eqb-false gate 1 f, refl)
          ] refl in
          inr (inr (record {
            head = gate;
            gate = 0;
            behind = [];
            found = record {
              head = gate;
              v = v;
              groups = [];
              gate = 0;
              behind = [];
              headed = record { whole = whole; digest_len = len; gate = is_head };
              sound = tt;
              ends = zero_not_one;
              told = refl;
            };
          }))
    ] refl

pub making_none : (v : Version) (digest content : List ℕ) → length digest ≡ DIGEST_LEN → IsMaking v digest content → ReadsAsNone digest content v
making_none v digest content len making =
    elim making [
      | inl short ↦ inl short
      | inr more ↦ elim more [
        | inl half_made ↦ inr (inl half_made)
        | inr opening ↦ opening_none v digest content len opening.gate opening.whole
      ]
    ]

-- ---- mending

mended_front : (v : Version) (head : ℕ) (digest groups rest : List ℕ) → length digest ≡ DIGEST_LEN
    → drop 1 (take (FIRST_GATE + length groups) (head ∷ header v digest ++ (groups ++ rest))) ≡ header v digest ++ groups
mended_front v head digest groups rest len =
    let parts = length-append digest groups in
    let size : FIRST_GATE + length groups ≡ suc (suc (suc (suc (suc (suc (length (digest ++ groups))))))) = omega (arith, parts, len) in
    ap (λ (n : ℕ). drop 1 (take n (head ∷ header v digest ++ (groups ++ rest)))) size
    ∙ ap (λ (xs : List ℕ). header v xs) (ap (take (length (digest ++ groups))) (sym (append_assoc digest groups rest))
    ∙ take_at (digest ++ groups) rest (length (digest ++ groups)) refl)

mended_as : (digest content : List ℕ) (head : ℕ) (v : Version) (groups : List (List Kid)) (gate : ℕ) (behind : List ℕ)
    → IsHeaded content head v digest (flat_map (opened v) groups ++ gate ∷ behind)
    → AllByRecursion (IsGroup v) groups → MendsTo digest content (contents_of v head groups gate behind)
mended_as digest content head v groups gate behind headed sound = record {
  groups = groups;
  sound = sound;
  entries = refl;
  whole = ap (λ (xs : List ℕ). 1 ∷ (xs ++ 0 ∷ []))
      (ap (λ (c : List ℕ). drop 1 (take (FIRST_GATE + length (flat_map (opened v) groups)) c)) headed.whole
      ∙ mended_front v head digest (flat_map (opened v) groups) (gate ∷ behind) headed.digest_len);
}

pub mended : (digest content : List ℕ) (found : Contents) → IsJournal digest content found → MendsTo digest content found
mended digest content found a =
    subst (MendsTo digest content) (sym a.told) (mended_as digest content a.head a.v a.groups a.gate a.behind a.headed a.sound)
