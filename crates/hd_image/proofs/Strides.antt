-- The reader's steps, from entry to entry and from gate to gate.
use Rattle.std.proofs.Common.{◌≡◌, ◌≢◌, inl, inr, ℕ, zero, suc, ◌+◌, ◌-◌, ◌*◌, ◌^◌, ◌<◌, ◌≤◌, ◌==◌, Bool, true, false, not, true≢false, List, [], ◌∷◌, ◌++◌, length, take, drop, slice_index, refl, sym, ap, ap₂, ◌∙◌, subst, append_assoc, arith}
use Rattle.std.specs.List.{flat_map, AllByRecursion}
use Rattle.std.proofs.lemmas.List.{length-append, length-take, length-drop, append-nil, take-append-drop, take-append-le, take_all, nil_from_length, get_or-drop}
use Rattle.std.specs.Str.{bytes_eq}
use Rattle.std.proofs.lemmas.Bool.{cases_lt}
use Rattle.std.proofs.lemmas.Slice.Eq.{bytes_eq-Decides}
use Rattle.std.proofs.lemmas.Grind.{flat_map-append}
use Rattle.std.proofs.Math.Nat.{mul-suc}
use Rattle.byteorder.specs.Endian.{little_bytes, little_number}
use Rattle.byteorder.specs.Numbers.{little_from-lt}
use Rattle.hd_base.proofs.Lists.{AllByRecursion-push}
use Rattle.hd_task.specs.declared.plan.Kid.{Kid}
use Rattle.hd_image.specs.declared.version.Version.{Version}
use Rattle.hd_image.specs.declared.version.Version.TheVariants.{One, Two}
use Rattle.hd_image.specs.declared.entry.Entry.{Entry}
use Rattle.hd_image.specs.declared.entry.TheConstants.{MAX_GROUP}
use Rattle.hd_image.specs.declared.header.TheConstants.{FIRST_GATE}
use Rattle.hd_image.specs.declared.contents.Contents.{Contents}
use Rattle.hd_image.specs.declared.error.ImageError.{ImageError}
use Rattle.hd_image.specs.declared.error.ImageError.TheVariants.{NotAJournal, OtherTask, Damaged, NoMemory}
use Rattle.hd_image.specs.Image.{parent_width, entry_width, parent_number, HasNumber, HasBytes, entry_bytes, IsGroup, counted, opened, entry_at, entries_of, entries_in}
use Rattle.hd_image.specs.Reading.{IsHeaded, HasGroup, IsJournal, IsRefused}
use Rattle.hd_image.specs.Walking.{AreWhole, IsGroupLen, HasAdded, HasWalked, IsTorn, Stumbles}
use Rattle.hd_image.proofs.Digits.{IsBytes, bytes-drop, bytes-behind, bytes_again, number_back}
use Rattle.hd_image.proofs.Pairs.{pair, length-entries, entries_of-append}
use Rattle.hd_image.proofs.Joining.{length-counted, count_fits, opened-append, entries_in-append}

-- ---- ranges

-- the range from a place on
pub range_from : (n : ℕ) (xs : List ℕ) → take (length xs - n) (drop n xs) ≡ drop n xs
range_from n xs = let left = length-drop n xs in take_all (length xs - n) (drop n xs) (omega (arith, left))

-- what `!=` leaves, where it fails
pub same_slices : (xs ys : List ℕ) (r : Bool) → r ≡ not (bytes_eq xs ys) → r ≡ false → xs ≡ ys
same_slices xs ys r is off =
    elim (bytes_eq xs ys) as (λ b. bytes_eq xs ys ≡ b → r ≡ not b → xs ≡ ys) [
      | true ↦ λ e f. (bytes_eq-Decides xs ys).0 e
      | false ↦ λ e f. absurd (true≢false (sym f ∙ off))
    ] refl is

-- ---- an entry

-- what the bytes of an entry tell
pub record TellsKid (v : Version) (bytes : List ℕ) (kid : Kid) : Type 0 where
  pub held : HasBytes v kid
  pub bytes_are : entry_bytes v kid ≡ bytes

-- a parent and an action that the bytes of an entry tell
pub tells_kid : (v : Version) (bytes : List ℕ) (kid : Kid) (n : ℕ) → IsBytes bytes → length bytes ≡ entry_width v
    → n ≡ little_number (parent_width v) bytes → n < 256 ^ parent_width v
    → HasNumber v kid.parent → parent_number v kid.parent ≡ n → kid.action ≡ little_number 4 (drop (parent_width v) bytes) → kid.action < 2 ^ 32
    → TellsKid v bytes kid
unfolding entry_bytes
tells_kid v bytes kid n fits len is lt has told action small =
    let width = parent_width v in
    let rest = length-drop width bytes in
    let rest_fits : IsBytes (drop width bytes) = λ i. rw get_or-drop (fits (width + i)) in
    let parent : little_bytes width (parent_number v kid.parent) ≡ take width bytes = ap (little_bytes width) (told ∙ is)
    ∙ bytes_again width bytes fits (omega (arith, len)) in
    let act : little_bytes 4 kid.action ≡ drop width bytes =
    ap (little_bytes 4) action
    ∙ (bytes_again 4 (drop width bytes) rest_fits (omega (arith, len, rest)) ∙ take_all 4 (drop width bytes) (omega (arith, len, rest))) in
    record {
      held = record { parent = has; action = small };
      bytes_are = ap₂ (λ (xs ys : List ℕ). xs ++ ys) parent act ∙ take-append-drop width bytes;
    }

-- the same, as the numbers and bytes come up when an entry is read
pub kid_told : (v : Version) (bytes : List ℕ) (parent number action width : ℕ) → IsBytes bytes → length bytes ≡ entry_width v
    → width ≡ parent_width v → number ≡ little_number width bytes
    → HasNumber v parent → parent_number v parent ≡ number → action ≡ little_number 4 (take (length bytes - width) (drop width bytes))
    → entry_bytes v (pair parent action) ≡ bytes
kid_told v bytes parent number action width fits len width_is number_is has told action_is =
    let w = parent_width v in
    let n : number ≡ little_number w bytes = number_is ∙ ap (λ (k : ℕ). little_number k bytes) width_is in
    let a : action ≡ little_number 4 (drop w bytes) = action_is
    ∙ (ap (λ (k : ℕ). little_number 4 (take (length bytes - k) (drop k bytes))) width_is ∙ ap (little_number 4) (range_from w bytes)) in
    let below : number < 256 ^ w = subst (λ (k : ℕ). k < 256 ^ w) (sym n) (little_from-lt 0 w bytes fits) in
    let small : action < 256 ^ 4 = subst (λ (k : ℕ). k < 256 ^ 4) (sym a) (little_from-lt 0 4 (drop w bytes) (bytes-drop w bytes fits)) in
    (tells_kid v bytes (pair parent action) number fits len n below has told a (omega (arith, small))).bytes_are

-- ---- from entry to entry

pub added_none : (v : Version) (at : ℕ) (bytes : List ℕ) (old : List Entry) → HasAdded v at bytes bytes old old
added_none v at bytes old = record { kids = []; held = tt; bytes_are = refl; added = sym (append-nil old) }

pub added_more : (v : Version) (at : ℕ) (bytes rest front after : List ℕ) (old mid : List Entry) (kid : Kid) (place : ℕ)
    → HasAdded v at bytes rest old mid → rest ≡ front ++ after
    → entry_bytes v kid ≡ front → HasBytes v kid → place + length rest ≡ at + length bytes
    → HasAdded v at bytes after old (mid ++ entry_at kid place ∷ [])
added_more v at bytes rest front after old mid kid place a split told held there =
    let flat = flat_map (entry_bytes v) a.kids in
    let whole : length bytes ≡ length flat + length rest = ap length a.bytes_are ∙ length-append flat rest in
    let here : at + length flat ≡ place = omega (arith, whole, there) in
    let more : flat ++ entry_bytes v kid ≡ flat_map (entry_bytes v) (a.kids ++ kid ∷ []) =
    sym (flat_map-append (entry_bytes v) a.kids (kid ∷ []) ∙ ap (λ (xs : List ℕ). flat ++ xs) (append-nil (entry_bytes v kid))) in
    let entries : entries_of v at a.kids ++ entry_at kid place ∷ [] ≡ entries_of v at (a.kids ++ kid ∷ []) =
    ap (λ (n : ℕ). entries_of v at a.kids ++ entry_at kid n ∷ []) (sym here) ∙ sym (entries_of-append v at a.kids (kid ∷ [])) in
    record {
      kids = a.kids ++ kid ∷ [];
      held = AllByRecursion-push (HasBytes v) a.kids kid a.held held;
      bytes_are = a.bytes_are
          ∙ (ap (λ (xs : List ℕ). flat ++ xs) (split ∙ ap (λ (xs : List ℕ). xs ++ after) (sym told))
          ∙ (sym (append_assoc flat (entry_bytes v kid) after) ∙ ap (λ (xs : List ℕ). xs ++ after) more));
      added = ap (λ (es : List Entry). es ++ entry_at kid place ∷ []) a.added
          ∙ (append_assoc old (entries_of v at a.kids) (entry_at kid place ∷ []) ∙ ap (λ (es : List Entry). old ++ es) entries);
    }

whole_by : (v : Version) (n : ℕ) (rest : List ℕ) → length rest ≡ entry_width v * n → 0 < length rest
    → (m : ℕ) × (length rest ≡ entry_width v * m + entry_width v)
whole_by v zero rest is some = absurd (omega (arith, is, some))
whole_by v (suc m) rest is some = (m, is ∙ mul-suc (entry_width v) m)

pub whole_first : (v : Version) (rest : List ℕ) → AreWhole v rest → 0 < length rest → entry_width v ≤ length rest
whole_first v rest whole some = let by = (whole_by v whole.count rest whole.is some).1 in omega (arith, by)

pub whole_none : (v : Version) (rest : List ℕ) → AreWhole v rest → length rest < entry_width v → rest ≡ []
whole_none v rest whole short =
    elim (cases_lt 0 (length rest)) [
      | inl some ↦ absurd (let first = whole_first v rest whole some in omega (arith, first, short))
      | inr none ↦ nil_from_length rest (omega (arith, none))
    ]

pub whole_rest : (v : Version) (rest : List ℕ) → AreWhole v rest → 0 < length rest → AreWhole v (drop (entry_width v) rest)
whole_rest v rest whole some =
    let by = whole_by v whole.count rest whole.is some in
    let behind = length-drop (entry_width v) rest in
    let same = by.1 in
    record { count = by.0; is = omega (arith, same, behind) }

-- ---- a group

same_count : (v : Version) (m n len size : ℕ) → size ≡ entry_width v * m → len ≡ 4 + entry_width v * n → size ≡ len - 4 → m ≡ n
same_count One m n len size a b c = omega (arith, a, b, c)
same_count Two m n len size a b c = omega (arith, a, b, c)

pub group_len : (v : Version) (behind : List ℕ) → HasGroup v behind → IsGroupLen v behind (4 + entry_width v * little_number 4 behind)
unfolding counted
group_len v behind has =
    let flat = flat_map (entry_bytes v) has.kids in
    let group = has.group in
    let count : little_number 4 behind ≡ length has.kids =
    ap (little_number 4) (has.whole ∙ append_assoc (little_bytes 4 (length has.kids)) flat has.next)
    ∙ number_back 4 (length has.kids) (flat ++ has.next) (count_fits v has.kids group) in
    let size : length behind ≡ length (counted v has.kids) + length has.next = ap length has.whole ∙ length-append (counted v has.kids) has.next in
    let inside = length-counted v has.kids in
    let gate = has.gate in
    record {
      some = subst (λ (n : ℕ). 1 ≤ n) (sym count) group.some;
      most = subst (λ (n : ℕ). n ≤ MAX_GROUP) (sym count) group.most;
      is = refl;
      within = subst (λ (n : ℕ). 4 + entry_width v * n < length behind) (sym count) (omega (arith, size, inside, gate));
    }

pub no_count : (v : Version) (behind : List ℕ) → length behind < 4 → ¬ HasGroup v behind
no_count v behind short has = let within = (group_len v behind has).within in omega (arith, short, within)

pub count_least : (v : Version) (behind : List ℕ) → little_number 4 behind < 1 → ¬ HasGroup v behind
count_least v behind few has = let some = (group_len v behind has).some in omega (arith, few, some)

pub count_most : (v : Version) (behind : List ℕ) → MAX_GROUP < little_number 4 behind → ¬ HasGroup v behind
count_most v behind many has = let most = (group_len v behind has).most in omega (arith, many, most)

pub not_within : (v : Version) (behind : List ℕ) (len : ℕ) → len ≡ 4 + entry_width v * little_number 4 behind → length behind ≤ len
    → ¬ HasGroup v behind
not_within v behind len is le has =
    let within : len < length behind = subst (λ (n : ℕ). n < length behind) (sym is) (group_len v behind has).within in
    omega (arith, le, within)

-- a group that stands after its gate
pub record StandsFirst (v : Version) (rest next : List ℕ) (kids : List Kid) : Type 0 where
  pub group : IsGroup v kids
  pub whole : rest ≡ opened v kids ++ next

pub first_behind : (v : Version) (behind : List ℕ) (len : ℕ) (kids : List Kid) → IsBytes behind → IsGroupLen v behind len
    → AllByRecursion (HasBytes v) kids
    → drop 4 (take len behind) ≡ flat_map (entry_bytes v) kids → IsGroup v kids × (behind ≡ counted v kids ++ drop len behind)
unfolding counted
first_behind v behind len kids fits is held entries =
    let count = little_number 4 behind in
    let len_is = is.is in
    let within = is.within in
    let some = is.some in
    let most = is.most in
    let taken = length-take len behind in
    let dropped = length-drop 4 (take len behind) in
    let size : length (drop 4 (take len behind)) ≡ entry_width v * length kids = ap length entries ∙ length-entries v kids in
    let left : length (drop 4 (take len behind)) ≡ len - 4 = omega (arith, taken, dropped, within) in
    let counts : length kids ≡ count = same_count v (length kids) count len (length (drop 4 (take len behind))) size len_is left in
    let number : little_bytes 4 (length kids) ≡ take 4 (take len behind) =
    ap (little_bytes 4) counts ∙ (bytes_again 4 behind fits (omega (arith, within, len_is))
    ∙ (ap (take 4) (sym (take-append-drop len behind))
    ∙ take-append-le 4 (take len behind) (drop len behind) (omega (arith, taken, within, len_is)))) in
    let group : counted v kids ≡ take len behind = ap₂ (λ (xs ys : List ℕ). xs ++ ys) number (sym entries) ∙ take-append-drop 4 (take len behind) in (
      record { some = omega (arith, counts, some); most = omega (arith, counts, most); held = held },
      sym (take-append-drop len behind) ∙ ap (λ (xs : List ℕ). xs ++ drop len behind) (sym group),
    )

IsBytes-behind : (b : ℕ) (behind : List ℕ) → IsBytes (b ∷ behind) → IsBytes behind
IsBytes-behind b behind fits i = fits (suc i)

pub stands_first : (v : Version) (rest : List ℕ) (len : ℕ) (kids : List Kid) → 0 < length rest → slice_index rest 0 ≡ 1 → IsBytes rest
    → IsGroupLen v (drop 1 rest) len → AllByRecursion (HasBytes v) kids
    → drop 5 (take (suc len) rest) ≡ flat_map (entry_bytes v) kids → StandsFirst v rest (drop (suc len) rest) kids
stands_first v [] len kids some at_gate fits is held entries = absurd (omega (arith, some))
stands_first v (gate ∷ behind) len kids some at_gate fits is held entries =
    let first = first_behind v behind len kids (IsBytes-behind gate behind fits) is held entries in
    record { group = first.0; whole = ap₂ (λ (g : ℕ) (xs : List ℕ). g ∷ xs) at_gate first.1 }

-- the entries of a group are whole
pub whole_group : (v : Version) (rest : List ℕ) (len : ℕ) → IsGroupLen v (drop 1 rest) len → AreWhole v (drop 5 (take (1 + len) rest))
whole_group v rest len is =
    let len_is = is.is in
    let within = is.within in
    let behind = length-drop 1 rest in
    let group = length-take (1 + len) rest in
    let inside = length-drop 5 (take (1 + len) rest) in
    let left : length (drop 5 (take (1 + len) rest)) + 4 ≡ len = omega (arith, within, behind, group, inside, len_is) in
    record { count = little_number 4 (drop 1 rest); is = omega (arith, left, len_is) }

-- ---- from gate to gate

pub walked_none : (v : Version) (body : List ℕ) → 0 < length body → HasWalked v body body []
walked_none v body some = record { groups = []; sound = tt; whole = refl; some = some; told = refl }

pub walked_by : (v : Version) (body rest next : List ℕ) (at : ℕ) (old new : List Entry) (kids : List Kid) → HasWalked v body rest old
    → StandsFirst v rest next kids → 0 < length next
    → new ≡ old ++ entries_of v at kids → at + length rest ≡ FIRST_GATE + length body + 5 → HasWalked v body next new
walked_by v body rest next at old new kids w first some added there =
    let flat = flat_map (opened v) w.groups in
    let size : length body ≡ length flat + length rest = ap length w.whole ∙ length-append flat rest in
    let here : at ≡ FIRST_GATE + length flat + 5 = omega (arith, size, there) in
    let more = opened-append v w.groups kids in
    record {
      groups = w.groups ++ kids ∷ [];
      sound = AllByRecursion-push (IsGroup v) w.groups kids w.sound first.group;
      whole = w.whole
          ∙ (ap (λ (xs : List ℕ). flat ++ xs) first.whole
          ∙ (sym (append_assoc flat (opened v kids) next) ∙ ap (λ (xs : List ℕ). xs ++ next) (sym more)));
      some = some;
      told = added
          ∙ (ap₂ (λ (es : List Entry) (n : ℕ). es ++ entries_of v n kids) w.told here ∙ sym (entries_in-append v FIRST_GATE w.groups kids));
    }

one_more : (n : ℕ) → 1 + n ≡ suc n
one_more n = omega arith

pub walked_more : (v : Version) (body rest : List ℕ) (len at : ℕ) (old new : List Entry) → HasWalked v body rest old → slice_index rest 0 ≡ 1
    → IsBytes rest → IsGroupLen v (drop 1 rest) len
    → HasAdded v at (drop 5 (take (1 + len) rest)) [] old new
    → at + (length (drop 5 (take (1 + len) rest)) + length (drop (1 + len) rest)) ≡ FIRST_GATE + length body
    → HasWalked v body (drop (1 + len) rest) new
walked_more v body rest len at old new w at_gate fits is a there =
    let some = w.some in
    let len_is = is.is in
    let within = is.within in
    let behind = length-drop 1 rest in
    let next = length-drop (1 + len) rest in
    let group = length-take (1 + len) rest in
    let inside = length-drop 5 (take (1 + len) rest) in
    let entries : drop 5 (take (suc len) rest) ≡ flat_map (entry_bytes v) a.kids =
    ap (λ (n : ℕ). drop 5 (take n rest)) (sym (one_more len)) ∙ (a.bytes_are ∙ append-nil (flat_map (entry_bytes v) a.kids)) in
    let first = stands_first v rest len a.kids some at_gate fits is a.held entries in
    let placed : StandsFirst v rest (drop (1 + len) rest) a.kids =
    subst (λ (n : ℕ). StandsFirst v rest (drop n rest) a.kids) (sym (one_more len)) first in
    walked_by v body rest (drop (1 + len) rest) at old new a.kids w placed (omega (arith, next, behind, within)) a.added
    (omega (arith, there, next, behind, within, group, inside, len_is))

-- the same, as the bytes and places come up when a group is read
pub stride : (v : Version) (body rest group next : List ℕ) (len end : ℕ) (old new : List Entry) → HasWalked v body rest old → slice_index rest 0 ≡ 1
    → IsBytes body
    → IsGroupLen v (take (length rest - 1) (drop 1 rest)) len → group ≡ take (1 + len) rest → next ≡ drop (1 + len) rest
    → HasAdded v (end - length (take (length group - 5) (drop 5 group))) (take (length group - 5) (drop 5 group)) [] old new
    → end + length next ≡ FIRST_GATE + length body → HasWalked v body next new
stride v body rest group next len end old new w at_gate fits is group_is next_is added there =
    let flat = flat_map (opened v) w.groups in
    let rest_fits : IsBytes rest = bytes-behind body flat rest fits w.whole in
    let len_of : IsGroupLen v (drop 1 rest) len = subst (λ (xs : List ℕ). IsGroupLen v xs len) (range_from 1 rest) is in
    let entries = drop 5 (take (1 + len) rest) in
    let all : HasAdded v (end - length entries) entries [] old new =
    subst (λ (g : List ℕ). HasAdded v (end - length (drop 5 g)) (drop 5 g) [] old new) group_is
    (subst (λ (bs : List ℕ). HasAdded v (end - length bs) bs [] old new) (range_from 5 group) added) in
    let size : length body ≡ length flat + length rest = ap length w.whole ∙ length-append flat rest in
    let next_len = ap length next_is in
    let behind = length-drop (1 + len) rest in
    let one = length-drop 1 rest in
    let inside = length-drop 5 (take (1 + len) rest) in
    let taken = length-take (1 + len) rest in
    let within = len_of.within in
    let place : end - length entries + (length entries + length (drop (1 + len) rest)) ≡ FIRST_GATE + length body =
    omega (arith, size, next_len, behind, one, inside, taken, within, there) in
    subst (λ (xs : List ℕ). HasWalked v body xs new) (sym next_is)
    (walked_more v body rest len (end - length entries) old new w at_gate rest_fits len_of all place)

-- ---- where the walk ends

pub split_first : (rest : List ℕ) → 0 < length rest → rest ≡ slice_index rest 0 ∷ drop 1 rest
split_first [] some = absurd (omega (arith, some))
split_first (b ∷ rest) some = refl

pub torn_here : (v : Version) (body rest : List ℕ) (at : ℕ) (entries : List Entry) → HasWalked v body rest entries → slice_index rest 0 ≡ 1
    → ¬ HasGroup v (drop 1 rest)
    → at + length rest ≡ FIRST_GATE + length body → IsTorn v body at
torn_here v body rest at entries w at_gate torn there =
    let flat = flat_map (opened v) w.groups in
    let size : length body ≡ length flat + length rest = ap length w.whole ∙ length-append flat rest in
    record {
      groups = w.groups;
      behind = drop 1 rest;
      sound = w.sound;
      whole = w.whole ∙ ap (λ (xs : List ℕ). flat ++ xs) (split_first rest w.some ∙ ap (λ (g : ℕ). g ∷ drop 1 rest) at_gate);
      torn = torn;
      place = omega (arith, size, there);
    }

-- the header of the task, with its digest
of_task : (content : List ℕ) (head : ℕ) (v : Version) (found digest body other : List ℕ) → IsHeaded content head v found body → found ≡ digest
    → body ≡ other → IsHeaded content head v digest other
of_task content head v found digest body other h same is =
    subst (λ (b : List ℕ). IsHeaded content head v digest b) is (subst (λ (d : List ℕ). IsHeaded content head v d body) same h)

pub refused_by : (content : List ℕ) (head : ℕ) (v : Version) (found digest body : List ℕ) (error : ImageError) → IsHeaded content head v found body
    → found ≡ digest → Stumbles v body error
    → IsRefused digest content error
refused_by content head v found digest body NotAJournal h same why = absurd why
refused_by content head v found digest body OtherTask h same why = absurd why
refused_by content head v found digest body NoMemory h same why = tt
refused_by content head v found digest body (Damaged at) h same why = record {
  head = head;
  v = v;
  groups = why.groups;
  behind = why.behind;
  headed = of_task content head v found digest body (flat_map (opened v) why.groups ++ 1 ∷ why.behind) h same why.whole;
  sound = why.sound;
  torn = why.torn;
  place = why.place;
}

contents : Version → List Entry → ℕ → Bool → Bool → ℕ → Contents
contents v entries last_gate header_open gate_closed behind =
    record { version = v; entries = entries; last_gate = last_gate; header_open = header_open; gate_closed = gate_closed; behind = behind }

pub found_journal : (content : List ℕ) (head : ℕ) (v : Version) (found digest body rest : List ℕ) (entries : List Entry) (last_gate behind : ℕ)
    → IsHeaded content head v found body → found ≡ digest
    → HasWalked v body rest entries → slice_index rest 0 ≢ 1 → last_gate + length rest ≡ FIRST_GATE + length body → behind + 1 ≡ length rest
    → IsJournal digest content
    (record { version = v; entries = entries; last_gate = last_gate; header_open = head == 1; gate_closed = slice_index rest 0 == 0; behind = behind })
unfolding contents
found_journal content head v found digest body rest entries last_gate behind h same w ends there tail =
    let flat = flat_map (opened v) w.groups in
    let gate = slice_index rest 0 in
    let size : length body ≡ length flat + length rest = ap length w.whole ∙ length-append flat rest in
    let left = length-drop 1 rest in
    let place : last_gate ≡ FIRST_GATE + length flat = omega (arith, size, there) in
    let more : behind ≡ length (drop 1 rest) = omega (arith, left, tail) in
    record {
      head = head;
      v = v;
      groups = w.groups;
      gate = gate;
      behind = drop 1 rest;
      headed = of_task content head v found digest body (flat ++ gate ∷ drop 1 rest) h same (w.whole
          ∙ ap (λ (xs : List ℕ). flat ++ xs) (split_first rest w.some));
      sound = w.sound;
      ends = ends;
      told = ap₂ (λ (es : List Entry) (n : ℕ). contents v es n (head == 1) (gate == 0) behind) w.told place
          ∙ ap (λ (n : ℕ). contents v (entries_in v FIRST_GATE w.groups) (FIRST_GATE + length flat) (head == 1) (gate == 0) n) more;
    }
