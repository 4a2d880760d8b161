-- Entries as bytes: how many there are, and that they tell one list of pairs.
use Rattle.std.proofs.Common.{◌≡◌, ℕ, ◌+◌, ◌*◌, List, [], ◌∷◌, ◌++◌, length, refl, sym, ap, ap₂, ◌∙◌, append_assoc, arith}
use Rattle.std.specs.List.{flat_map, AllByRecursion}
use Rattle.std.proofs.lemmas.List.{length-append}
use Rattle.std.proofs.Math.Nat.{mul-suc}
use Rattle.byteorder.specs.Endian.{little_bytes}
use Rattle.hd_task.specs.declared.plan.Kid.{Kid}
use Rattle.hd_image.specs.declared.version.Version.{Version}
use Rattle.hd_image.specs.declared.entry.Entry.{Entry}
use Rattle.hd_image.specs.Image.{parent_width, entry_width, parent_number, HasBytes, entry_bytes, entry_at, entries_of}
use Rattle.hd_image.proofs.Digits.{length-little, number_one}
use Rattle.hd_image.proofs.Numbering.{number_fits, parent_one}

-- ---- how many bytes

pub length-entry : (v : Version) (kid : Kid) → length (entry_bytes v kid) ≡ entry_width v
unfolding entry_bytes
length-entry v kid =
    let whole = length-append (little_bytes (parent_width v) (parent_number v kid.parent)) (little_bytes 4 kid.action) in
    let parent = length-little (parent_width v) (parent_number v kid.parent) in
    let action = length-little 4 kid.action in
    omega (arith, whole, parent, action)

pub length-entries : (v : Version) (kids : List Kid) → length (flat_map (entry_bytes v) kids) ≡ entry_width v * length kids
length-entries v [] = omega arith
length-entries v (kid ∷ kids) =
    let whole = length-append (entry_bytes v kid) (flat_map (entry_bytes v) kids) in
    let first = length-entry v kid in
    let others = length-entries v kids in
    let product = mul-suc (entry_width v) (length kids) in
    omega (arith, whole, first, others, product)

-- ---- one list

abbrev pub pair : ℕ → ℕ → Kid
pair parent action = record { parent = parent; action = action }

pub entry_one : (v : Version) (k l : Kid) (r s : List ℕ) → HasBytes v k → HasBytes v l → entry_bytes v k ++ r ≡ entry_bytes v l ++ s → (k ≡ l) × (r ≡ s)
unfolding entry_bytes
entry_one v k l r s hk hl e =
    let width = parent_width v in
    let m = parent_number v k.parent in
    let n = parent_number v l.parent in
    let apart : little_bytes width m ++ (little_bytes 4 k.action ++ r) ≡ little_bytes width n ++ (little_bytes 4 l.action ++ s) =
    sym (append_assoc (little_bytes width m) (little_bytes 4 k.action) r) ∙ (e ∙ append_assoc (little_bytes width n) (little_bytes 4 l.action) s) in
    let parents =
    number_one width m n (little_bytes 4 k.action ++ r) (little_bytes 4 l.action ++ s) (number_fits v k.parent hk.parent)
    (number_fits v l.parent hl.parent) apart in
    let actions = number_one 4 k.action l.action r s (let lt = hk.action in omega (arith, lt)) (let lt = hl.action in omega (arith, lt)) parents.1 in
    let parent = parent_one v k.parent l.parent hk.parent hl.parent parents.0 in
    (ap₂ pair parent actions.0, actions.1)

pub entries_one : (v : Version) (ks ls : List Kid) (r s : List ℕ) → AllByRecursion (HasBytes v) ks → AllByRecursion (HasBytes v) ls
    → length ks ≡ length ls
    → flat_map (entry_bytes v) ks ++ r ≡ flat_map (entry_bytes v) ls ++ s → (ks ≡ ls) × (r ≡ s)
entries_one v [] [] r s hk hl len e = (refl, e)
entries_one v [] (l ∷ ls) r s hk hl len e = absurd (omega (arith, len))
entries_one v (k ∷ ks) [] r s hk hl len e = absurd (omega (arith, len))
entries_one v (k ∷ ks) (l ∷ ls) r s hk hl len e =
    let apart : entry_bytes v k ++ (flat_map (entry_bytes v) ks ++ r) ≡ entry_bytes v l ++ (flat_map (entry_bytes v) ls ++ s) =
    sym (append_assoc (entry_bytes v k) (flat_map (entry_bytes v) ks) r) ∙ (e ∙ append_assoc (entry_bytes v l) (flat_map (entry_bytes v) ls) s) in
    let first = entry_one v k l (flat_map (entry_bytes v) ks ++ r) (flat_map (entry_bytes v) ls ++ s) hk.0 hl.0 apart in
    let others = entries_one v ks ls r s hk.1 hl.1 (omega (arith, len)) first.1 in
    (ap₂ (λ (x : Kid) (xs : List Kid). x ∷ xs) first.0 others.0, others.1)

-- ---- the places of entries

pub entries_of-append : (v : Version) (at : ℕ) (ks ls : List Kid)
    → entries_of v at (ks ++ ls) ≡ entries_of v at ks ++ entries_of v (at + length (flat_map (entry_bytes v) ks)) ls
entries_of-append v at [] ls = let same : at ≡ at + 0 = omega arith in ap (λ (n : ℕ). entries_of v n ls) same
entries_of-append v at (k ∷ ks) ls =
    let rest = entries_of-append v (at + entry_width v) ks ls in
    let whole = length-append (entry_bytes v k) (flat_map (entry_bytes v) ks) in
    let first = length-entry v k in
    let place : at + entry_width v + length (flat_map (entry_bytes v) ks) ≡ at + length (entry_bytes v k ++ flat_map (entry_bytes v) ks) =
    omega (arith, whole, first) in
    ap (λ (es : List Entry). entry_at k at ∷ es) (rest ∙ ap (λ (n : ℕ). entries_of v (at + entry_width v) ks ++ entries_of v n ls) place)
