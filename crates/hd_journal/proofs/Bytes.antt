-- What writes and cuts make of bytes, whole and in part.
use Rattle.std.proofs.Common.{◌≡◌, ◌≢◌, ℕ, suc, ◌+◌, ◌-◌, ◌<◌, ◌≤◌, Bool, true, false, List, [], ◌∷◌, ◌++◌, length, take, drop, get_or, refl, sym, ap, ap₂, ◌∙◌, append_assoc, arith}
use Rattle.std.specs.Prelude.{◌&&◌, nat_lt, nat_le}
use Rattle.std.proofs.lemmas.List.{length-append, append-nil, take_at, take_all, drop_all}
use Rattle.std.proofs.lemmas.Grind.{same_number_lists}
use Rattle.std.proofs.lemmas.Bool.{lt-leb, le-ltb, leb-true}
use Rattle.std.proofs.Math.Seq.{drop-append-add, take-append-add}
use Rattle.hd_store.specs.Bytes.{written_over, is_in_range, IsPartOfWrite, IsPartOfCut}

-- ---- written whole

pub over_end : (xs ys : List ℕ) (at : ℕ) → at ≡ length xs → written_over xs at ys ≡ xs ++ ys
over_end xs ys at e =
    let front : take at xs ≡ xs = take_all at xs (omega (arith, e)) in
    let back : drop (at + length ys) xs ≡ [] = drop_all (at + length ys) xs (omega (arith, e)) in
    ap₂ (λ (xs bs : List ℕ). (xs ++ ys) ++ bs) front back ∙ append-nil (xs ++ ys)

pub over_one : (xs ys : List ℕ) (g h at : ℕ) → at ≡ length xs → written_over (xs ++ g ∷ ys) at (h ∷ []) ≡ xs ++ h ∷ ys
over_one xs ys g h at e =
    let front : take at (xs ++ g ∷ ys) ≡ xs = take_at xs (g ∷ ys) at (sym e) in
    let back : drop (at + 1) (xs ++ g ∷ ys) ≡ ys =
    ap (λ (n : ℕ). drop (n + 1) (xs ++ g ∷ ys)) e ∙ drop-append-add xs (g ∷ ys) 1 in
    ap₂ (λ (xs bs : List ℕ). (xs ++ h ∷ []) ++ bs) front back ∙ append_assoc xs (h ∷ []) ys

pub over_rest : (g : ℕ) (rest hs : List ℕ) → length rest ≤ length hs → written_over (g ∷ rest) 1 hs ≡ g ∷ hs
over_rest g rest hs short =
    let back : drop (1 + length hs) (g ∷ rest) ≡ [] = drop_all (1 + length hs) (g ∷ rest) (omega (arith, short)) in
    ap (λ (bs : List ℕ). (g ∷ hs) ++ bs) back ∙ append-nil (g ∷ hs)

pub over_all : (content : List ℕ) (g : ℕ) → length content ≤ 1 → written_over content 0 (g ∷ []) ≡ g ∷ []
over_all content g short =
    let back : drop (0 + 1) content ≡ [] = drop_all (0 + 1) content (omega (arith, short)) in
    ap (λ (bs : List ℕ). (g ∷ []) ++ bs) back

-- ---- written in part

not_zero : (n : ℕ) → suc n ≢ 0
not_zero n e = omega (arith, e)

lt_zero : (n : ℕ) → suc n ≤ 0 → ⊥
lt_zero n e = omega (arith, e)

leb_true : (a b : ℕ) → nat_le a b ≡ true → a ≤ b
leb_true a b e = leb-true a b e

in_front : (at count place : ℕ) → place < at → is_in_range at count place ≡ false
in_front at count place below = ap (λ b. b && nat_lt place (at + count)) (lt-leb at place below)

beside : (at place : ℕ) → place ≢ at → (b : Bool) → nat_le at place ≡ b → is_in_range at 1 place ≡ false
beside at place other false e = ap (λ b. b && nat_lt place (at + 1)) e
beside at place other true e =
    let above : at + 1 ≤ place = omega (arith, other, leb_true at place e) in
    ap₂ (λ a b. a && b) e (le-ltb place (at + 1) above)

-- a list that begins like another one is that one and something after it
starts : (old found : List ℕ) → length old ≤ length found → ((place : ℕ) → place < length old → get_or found place 0 ≡ get_or old place 0)
    → (behind : List ℕ) × (found ≡ old ++ behind)
starts [] found long same = (found, refl)
starts (x ∷ old) [] long same = absurd (lt_zero (length old) long)
starts (x ∷ old) (y ∷ found) long same =
    let more = starts old found (omega (arith, long)) (λ place below. same (suc place) (omega (arith, below))) in
    (more.0, ap₂ (λ (a : ℕ) (t : List ℕ). a ∷ t) (same 0 (omega arith)) more.1)

pub part_end : (old : List ℕ) (at count : ℕ) (found : List ℕ) → at ≡ length old → IsPartOfWrite old at count found
    → (behind : List ℕ) × (found ≡ old ++ behind)
part_end old at count found e part =
    starts old found part.no_shorter (λ place below. part.others place below (in_front at count place (omega (arith, e, below))))

-- after a first byte that stays
pub part_rest : (rest : List ℕ) (count : ℕ) (found : List ℕ) → length rest ≤ count → IsPartOfWrite (0 ∷ rest) 1 count found
    → (behind : List ℕ) × (found ≡ 0 ∷ behind) × (length behind ≤ count)
part_rest rest count [] short part = absurd (lt_zero (length rest) part.no_shorter)
part_rest rest count (x ∷ found) short part =
    let first : x ≡ 0 = part.others 0 (omega arith) (in_front 1 count 0 (omega arith)) in
    (found, ap (λ (a : ℕ). a ∷ found) first, omega (arith, part.no_longer, short))

-- a list that differs from another one at one place alone
differs : (xs ys : List ℕ) (g : ℕ) (found : List ℕ) → length found ≡ length (xs ++ g ∷ ys)
    → ((place : ℕ) → place < length (xs ++ g ∷ ys) → place ≢ length xs → get_or found place 0 ≡ get_or (xs ++ g ∷ ys) place 0)
    → (h : ℕ) × (found ≡ xs ++ h ∷ ys)
differs [] ys g [] len same = absurd (not_zero (length ys) (sym len))
differs [] ys g (h ∷ found) len same = (
  h,
  ap (λ (t : List ℕ). h ∷ t) (same_number_lists found ys (omega (arith, len)) (λ place below.
      same (suc place) (omega (arith, len, below)) (not_zero place))),
)
differs (x ∷ xs) ys g [] len same = absurd (not_zero (length (xs ++ g ∷ ys)) (sym len))
differs (x ∷ xs) ys g (y ∷ found) len same =
    let more = differs xs ys g found (omega (arith, len)) (λ place below other.
    same (suc place) (omega (arith, below)) (λ e. other (omega (arith, e)))) in
    (more.0, ap₂ (λ (a : ℕ) (t : List ℕ). a ∷ t) (same 0 (omega arith) (λ e. not_zero (length xs) (sym e))) more.1)

pub part_one : (xs ys : List ℕ) (g at : ℕ) (found : List ℕ) → at ≡ length xs → IsPartOfWrite (xs ++ g ∷ ys) at 1 found
    → (h : ℕ) × (found ≡ xs ++ h ∷ ys)
part_one xs ys g at found e part =
    let whole = length-append xs (g ∷ ys) in
    let len : length found ≡ length (xs ++ g ∷ ys) = omega (arith, part.no_shorter, part.no_longer, whole, e) in
    differs xs ys g found len (λ place below other.
    part.others place below (beside at place (λ (same : place ≡ at). other (same ∙ e)) (nat_le at place) refl))

-- ---- cut

pub cut_whole : (xs ys : List ℕ) (g len : ℕ) → len ≡ length xs + 1 → take len (xs ++ g ∷ ys) ≡ xs ++ g ∷ []
cut_whole xs ys g len e = ap (λ (n : ℕ). take n (xs ++ g ∷ ys)) e ∙ take-append-add xs (g ∷ ys) 1

pub cut_part : (xs ys : List ℕ) (g len : ℕ) (found : List ℕ) → len ≡ length xs + 1 → IsPartOfCut (xs ++ g ∷ ys) len found
    → (behind : List ℕ) × (found ≡ xs ++ g ∷ behind)
cut_part xs ys g len found e part =
    let left = part.0 in
    let more = left - len in
    let is : left ≡ length xs + suc more = omega (arith, e, part.1) in
    (take more ys, part.2 ∙ (ap (λ (n : ℕ). take n (xs ++ g ∷ ys)) is ∙ take-append-add xs (g ∷ ys) (suc more)))
