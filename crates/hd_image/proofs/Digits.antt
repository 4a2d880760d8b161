-- Numbers in bytes, the lowest byte first.
use Rattle.std.proofs.Common.{◌≡◌, ℕ, zero, suc, ◌+◌, ◌*◌, ◌/◌, ◌%◌, ◌^◌, ◌<◌, ◌≤◌, List, [], ◌∷◌, ◌++◌, length, get_or, take, drop, inl, inr, refl, sym, ap, ap₂, ◌∙◌, subst, arith}
use Rattle.std.specs.Int.{byte_at, bytes_low_first}
use Rattle.std.proofs.Math.Nat.{div-div-eq-div-mul, pow-succ'}
use Rattle.std.proofs.lemmas.Bool.{cases_lt}
use Rattle.std.proofs.lemmas.List.{drop_at, length-take, get_or-take, get_or-drop, get_or_past, get_or-append-add}
use Rattle.byteorder.specs.Endian.{little_from, little_bytes, little_number}
use Rattle.byteorder.specs.Numbers.{little_from-cons, length-bytes_low_first, little_number-reads_back}

abbrev pub IsBytes : List ℕ → Type 0
IsBytes bytes = (i : ℕ) → get_or bytes i 0 < 256

-- ---- parts of bytes

pub bytes-take : (n : ℕ) (xs : List ℕ) → IsBytes xs → IsBytes (take n xs)
bytes-take n xs fits i =
    elim (cases_lt i n) [
      | inl lt ↦ rw (get_or-take n xs i 0 lt) (fits i)
      | inr le ↦ rw (get_or_past (take n xs) i 0 (let size = length-take n xs in omega (arith, size, le))) (omega arith)
    ]

pub bytes-drop : (n : ℕ) (xs : List ℕ) → IsBytes xs → IsBytes (drop n xs)
bytes-drop n xs fits i = rw get_or-drop (fits (n + i))

pub bytes-behind : (xs ys zs : List ℕ) → IsBytes xs → xs ≡ ys ++ zs → IsBytes zs
bytes-behind xs ys zs fits e i =
    subst (λ (n : ℕ). n < 256) (ap (λ (ws : List ℕ). get_or ws (length ys + i) 0) e ∙ get_or-append-add ys zs i 0) (fits (length ys + i))

-- ---- what bytes tell is written as these bytes

-- a byte's place counts from the next one on in what is left without the lowest
byte_next : (j x : ℕ) → byte_at (suc j) x ≡ byte_at j (x / 256)
byte_next zero x = refl
byte_next (suc j) x = ap (λ (y : ℕ). y % 256) (ap (λ (p : ℕ). x / p) (pow-succ' 256 (suc j)) ∙ sym (div-div-eq-div-mul x 256 (256 ^ suc j)))

bytes_next : (j n x : ℕ) → bytes_low_first (suc j) n x ≡ bytes_low_first j n (x / 256)
bytes_next j zero x = refl
bytes_next j (suc n) x = ap₂ (λ (b : ℕ) (bs : List ℕ). b ∷ bs) (byte_next j x) (bytes_next (suc j) n x)

low_digit : (b y : ℕ) → b < 256 → (b + 256 * y) % 256 ≡ b
low_digit b y lt = omega arith

high_digits : (b y : ℕ) → b < 256 → (b + 256 * y) / 256 ≡ y
high_digits b y lt = omega arith

pub bytes_again : (n : ℕ) (xs : List ℕ) → IsBytes xs → n ≤ length xs → little_bytes n (little_number n xs) ≡ take n xs
bytes_again zero xs fits le = refl
bytes_again (suc n) [] fits le = absurd (omega (arith, le))
bytes_again (suc n) (b ∷ xs) fits le =
    let y = little_from 0 n xs in
    let moved : little_from 1 n (b ∷ xs) ≡ y = little_from-cons 0 n b xs in
    let again : bytes_low_first 0 n y ≡ take n xs = bytes_again n xs (λ i. fits (suc i)) (omega (arith, le)) in
    ap (λ (z : ℕ). bytes_low_first 0 (suc n) (b + 256 * z)) moved
    ∙ ap₂ (λ (c : ℕ) (cs : List ℕ). c ∷ cs) (low_digit b y (fits 0)) (bytes_next 0 n (b + 256 * y)
    ∙ (ap (bytes_low_first 0 n) (high_digits b y (fits 0)) ∙ again))

-- ---- bytes tell one number

pub length-little : (n x : ℕ) → length (little_bytes n x) ≡ n
length-little n x = length-bytes_low_first 0 n x

pub number_back : (n x : ℕ) (rest : List ℕ) → x < 256 ^ n → little_number n (little_bytes n x ++ rest) ≡ x
number_back n x rest lt = little_number-reads_back n x rest lt

pub number_one : (n x y : ℕ) (r s : List ℕ) → x < 256 ^ n → y < 256 ^ n → little_bytes n x ++ r ≡ little_bytes n y ++ s → (x ≡ y) × (r ≡ s)
number_one n x y r s ltx lty e = (
  sym (number_back n x r ltx) ∙ (ap (little_number n) e ∙ number_back n y s lty),
  sym (drop_at (little_bytes n x) r n (length-little n x)) ∙ (ap (drop n) e ∙ drop_at (little_bytes n y) s n (length-little n y)),
)
