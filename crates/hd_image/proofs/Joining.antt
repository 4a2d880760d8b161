-- Groups as bytes: they tell one list of groups, up to if no group stands.
use Rattle.std.proofs.Common.{◌≡◌, ◌≢◌, ℕ, ◌+◌, ◌*◌, ◌^◌, ◌<◌, List, [], ◌∷◌, ◌++◌, length, get_or, drop, refl, sym, ap, ap₂, ◌∙◌, append_assoc, arith}
use Rattle.std.specs.List.{flat_map, AllByRecursion}
use Rattle.std.proofs.lemmas.List.{length-append, append-nil}
use Rattle.std.proofs.lemmas.Grind.{flat_map-append}
use Rattle.byteorder.specs.Endian.{little_bytes}
use Rattle.hd_task.specs.declared.plan.Kid.{Kid}
use Rattle.hd_image.specs.declared.version.Version.{Version}
use Rattle.hd_image.specs.declared.entry.Entry.{Entry}
use Rattle.hd_image.specs.Image.{entry_width, entry_bytes, IsGroup, counted, opened, entries_of, entries_in}
use Rattle.hd_image.specs.Reading.{HasGroup}
use Rattle.hd_image.proofs.Digits.{length-little, number_one}
use Rattle.hd_image.proofs.Pairs.{length-entries, entries_one}

-- ---- a group

pub length-counted : (v : Version) (kids : List Kid) → length (counted v kids) ≡ 4 + entry_width v * length kids
unfolding counted
length-counted v kids =
    let whole = length-append (little_bytes 4 (length kids)) (flat_map (entry_bytes v) kids) in
    let count = length-little 4 (length kids) in
    let entries = length-entries v kids in
    omega (arith, whole, count, entries)

pub count_fits : (v : Version) (kids : List Kid) → IsGroup v kids → length kids < 256 ^ 4
count_fits v kids group = let most = group.most in omega (arith, most)

pub group_one : (v : Version) (ks ls : List Kid) (r s : List ℕ) → IsGroup v ks → IsGroup v ls → counted v ks ++ r ≡ counted v ls ++ s
    → (ks ≡ ls) × (r ≡ s)
unfolding counted
group_one v ks ls r s gk gl e =
    let apart : little_bytes 4 (length ks) ++ (flat_map (entry_bytes v) ks ++ r) ≡ little_bytes 4 (length ls) ++ (flat_map (entry_bytes v) ls ++ s) =
    sym (append_assoc (little_bytes 4 (length ks)) (flat_map (entry_bytes v) ks) r)
    ∙ (e ∙ append_assoc (little_bytes 4 (length ls)) (flat_map (entry_bytes v) ls) s) in
    let counts = number_one 4 (length ks) (length ls) (flat_map (entry_bytes v) ks ++ r) (flat_map (entry_bytes v) ls ++ s) (count_fits v ks gk)
    (count_fits v ls gl) apart in
    entries_one v ks ls r s gk.held gl.held counts.0 counts.1

-- ---- groups

-- what no group stands at the front of, with an open gate before it and a gate after it
pub record IsEnd (v : Version) (bytes : List ℕ) : Type 0 where
  pub some : 0 < length bytes
  pub none : (kids : List Kid) (next : List ℕ) → IsGroup v kids → 0 < length next → bytes ≢ opened v kids ++ next

-- a gate that is not open
pub closed_end : (v : Version) (gate : ℕ) (behind : List ℕ) → gate ≢ 1 → IsEnd v (gate ∷ behind)
closed_end v gate behind ends = record {
  some = omega arith;
  none = λ kids next group gate e. ends (ap (λ (xs : List ℕ). get_or xs 0 0) e);
}

-- an open gate without a group
pub torn_end : (v : Version) (behind : List ℕ) → ¬ HasGroup v behind → IsEnd v (1 ∷ behind)
torn_end v behind torn = record {
  some = omega arith;
  none = λ kids next group gate e. torn (record { kids = kids; next = next; group = group; gate = gate; whole = ap (drop 1) e });
}

more_behind : (v : Version) (gs : List (List Kid)) (t : List ℕ) → 0 < length t → 0 < length (flat_map (opened v) gs ++ t)
more_behind v gs t some = let whole = length-append (flat_map (opened v) gs) t in omega (arith, whole, some)

pub groups_one : (v : Version) (gs hs : List (List Kid)) (t u : List ℕ) → AllByRecursion (IsGroup v) gs → AllByRecursion (IsGroup v) hs → IsEnd v t
    → IsEnd v u
    → flat_map (opened v) gs ++ t ≡ flat_map (opened v) hs ++ u → (gs ≡ hs) × (t ≡ u)
groups_one v [] [] t u sg sh et eu e = (refl, e)
groups_one v [] (h ∷ hs) t u sg sh et eu e =
    absurd (et.none h (flat_map (opened v) hs ++ u) sh.0 (more_behind v hs u eu.some) (e ∙ append_assoc (opened v h) (flat_map (opened v) hs) u))
groups_one v (g ∷ gs) [] t u sg sh et eu e =
    absurd (eu.none g (flat_map (opened v) gs ++ t) sg.0 (more_behind v gs t et.some) (sym e ∙ append_assoc (opened v g) (flat_map (opened v) gs) t))
groups_one v (g ∷ gs) (h ∷ hs) t u sg sh et eu e =
    let apart : opened v g ++ (flat_map (opened v) gs ++ t) ≡ opened v h ++ (flat_map (opened v) hs ++ u) =
    sym (append_assoc (opened v g) (flat_map (opened v) gs) t) ∙ (e ∙ append_assoc (opened v h) (flat_map (opened v) hs) u) in
    let first = group_one v g h (flat_map (opened v) gs ++ t) (flat_map (opened v) hs ++ u) sg.0 sh.0 (ap (drop 1) apart) in
    let others = groups_one v gs hs t u sg.1 sh.1 et eu first.1 in
    (ap₂ (λ (x : List Kid) (xs : List (List Kid)). x ∷ xs) first.0 others.0, others.1)

-- ---- one group more

pub opened-append : (v : Version) (gs : List (List Kid)) (next : List Kid)
    → flat_map (opened v) (gs ++ next ∷ []) ≡ flat_map (opened v) gs ++ opened v next
opened-append v gs next = flat_map-append (opened v) gs (next ∷ []) ∙ ap (λ (xs : List ℕ). flat_map (opened v) gs ++ xs) (append-nil (opened v next))

pub entries_in-append : (v : Version) (gate : ℕ) (gs : List (List Kid)) (next : List Kid)
    → entries_in v gate (gs ++ next ∷ []) ≡ entries_in v gate gs ++ entries_of v (gate + length (flat_map (opened v) gs) + 5) next
entries_in-append v gate [] next =
    let same : gate + 5 ≡ gate + 0 + 5 = omega arith in
    append-nil (entries_of v (gate + 5) next) ∙ ap (λ (n : ℕ). entries_of v n next) same
entries_in-append v gate (g ∷ gs) next =
    let rest = entries_in-append v (gate + length (opened v g)) gs next in
    let whole = length-append (opened v g) (flat_map (opened v) gs) in
    let place : gate + length (opened v g) + length (flat_map (opened v) gs) + 5 ≡ gate + length (opened v g ++ flat_map (opened v) gs) + 5 =
    omega (arith, whole) in
    ap (λ (es : List Entry). entries_of v (gate + 5) g ++ es) (rest
    ∙ ap (λ (n : ℕ). entries_in v (gate + length (opened v g)) gs ++ entries_of v n next) place)
    ∙ sym (append_assoc (entries_of v (gate + 5) g) (entries_in v (gate + length (opened v g)) gs)
    (entries_of v (gate + length (flat_map (opened v) (g ∷ gs)) + 5) next))
