-- Bits of bytes, and the atoms that they stand for.
use Rattle.std.proofs.Common.{◌≡◌, ℕ, zero, suc, ◌+◌, ◌*◌, ◌<◌, ◌≤◌, ◌/◌, ◌%◌, ◌==◌, ◌^◌, Bool, true, false, not, List, [], ◌∷◌, ◌++◌, length, map, take, drop, get_or, set, refl, sym, ap, ap₂, ◌∙◌, arith}
use Rattle.std.specs.Prelude.{if◌then◌else◌, bit_xor}
use Rattle.std.specs.Int.{bit_at}
use Rattle.std.specs.List.{range_with_len}
use Rattle.std.proofs.lemmas.Nat.Bits.{bit_at-suc, bit_at_lowest}
use Rattle.std.proofs.Math.Nat.{pow-succ'}
use Rattle.std.proofs.lemmas.List.FromFn.{map-range_with_len_more}
use Rattle.std.proofs.lemmas.List.{append_assoc, length-set, set-append_left, get_or_append_left}
use Rattle.std.specs.Int.Bits.{xor_zero_r}
use Rattle.std.proofs.lemmas.Nat.{xor_block}
use Rattle.hd_pack.specs.Packing.{byte_of, atom_bytes, atom_in, bytes_for, flipped}

-- a byte of n bits is below 2 ^ n
pub byte_below : (bs : List Bool) → byte_of bs < 2 ^ length bs
byte_below [] = omega arith
byte_below (true ∷ bs) = let h = byte_below bs in let e = pow-succ' 2 (length bs) in omega (arith, h, e)
byte_below (false ∷ bs) = let h = byte_below bs in let e = pow-succ' 2 (length bs) in omega (arith, h, e)

-- a byte of eight bits, bit by bit
pub byte_fits : (bs : List Bool) → length bs ≤ 8 → byte_of bs < 256
byte_fits [] le = omega arith
byte_fits (a ∷ []) le = let h = byte_below (a ∷ []) in omega (arith, h)
byte_fits (a ∷ b ∷ []) le = let h = byte_below (a ∷ b ∷ []) in omega (arith, h)
byte_fits (a ∷ b ∷ c ∷ []) le = let h = byte_below (a ∷ b ∷ c ∷ []) in omega (arith, h)
byte_fits (a ∷ b ∷ c ∷ d ∷ []) le = let h = byte_below (a ∷ b ∷ c ∷ d ∷ []) in omega (arith, h)
byte_fits (a ∷ b ∷ c ∷ d ∷ e ∷ []) le = let h = byte_below (a ∷ b ∷ c ∷ d ∷ e ∷ []) in omega (arith, h)
byte_fits (a ∷ b ∷ c ∷ d ∷ e ∷ f ∷ []) le = let h = byte_below (a ∷ b ∷ c ∷ d ∷ e ∷ f ∷ []) in omega (arith, h)
byte_fits (a ∷ b ∷ c ∷ d ∷ e ∷ f ∷ g ∷ []) le = let h = byte_below (a ∷ b ∷ c ∷ d ∷ e ∷ f ∷ g ∷ []) in omega (arith, h)
byte_fits (a ∷ b ∷ c ∷ d ∷ e ∷ f ∷ g ∷ i ∷ []) le = let h = byte_below (a ∷ b ∷ c ∷ d ∷ e ∷ f ∷ g ∷ i ∷ []) in omega (arith, h)
byte_fits (a ∷ b ∷ c ∷ d ∷ e ∷ f ∷ g ∷ i ∷ j ∷ bs) le = absurd (omega (arith, le))

-- a byte of seven bits leaves room for one more
pub twice : (bs : List Bool) (n : ℕ) → length bs < 8 → n ≡ byte_of bs → 2 * n < 255
twice bs n lt is = let h = byte_fits (true ∷ bs) (omega (arith, lt)) in omega (arith, h, is)

-- the rest of a byte's bits
half : (b : Bool) (n : ℕ) → ((if b then 1 else 0) + 2 * n) / 2 ≡ n
half true n = omega arith
half false n = omega arith

lowest : (b : Bool) (n : ℕ) → (((if b then 1 else 0) + 2 * n) % 2 == 1) ≡ b
lowest true n = let e : (1 + 2 * n) % 2 ≡ 1 = omega arith in ap (λ k. k == 1) e
lowest false n = let e : (0 + 2 * n) % 2 ≡ 0 = omega arith in ap (λ k. k == 1) e

pub bit_of_byte : (bs : List Bool) (i : ℕ) → i < length bs → (bit_at (byte_of bs) i == 1) ≡ get_or bs i false
bit_of_byte [] i lt = absurd (omega (arith, lt))
bit_of_byte (b ∷ bs) zero lt = ap (λ k. k == 1) (bit_at_lowest (byte_of (b ∷ bs))) ∙ lowest b (byte_of bs)
bit_of_byte (b ∷ bs) (suc i) lt =
    ap (λ k. k == 1) (bit_at-suc (byte_of (b ∷ bs)) i ∙ ap (λ m. bit_at m i) (half b (byte_of bs)))
    ∙ bit_of_byte bs i (omega (arith, lt))

-- the first byte, and the others
pub atom_bytes_step : (bs : List Bool) → 8 ≤ length bs → atom_bytes bs ≡ byte_of (take 8 bs) ∷ atom_bytes (drop 8 bs)
atom_bytes_step ([]) le = absurd (omega (arith, le))
atom_bytes_step (a ∷ []) le = absurd (omega (arith, le))
atom_bytes_step (a ∷ b ∷ []) le = absurd (omega (arith, le))
atom_bytes_step (a ∷ b ∷ c ∷ []) le = absurd (omega (arith, le))
atom_bytes_step (a ∷ b ∷ c ∷ d ∷ []) le = absurd (omega (arith, le))
atom_bytes_step (a ∷ b ∷ c ∷ d ∷ e ∷ []) le = absurd (omega (arith, le))
atom_bytes_step (a ∷ b ∷ c ∷ d ∷ e ∷ f ∷ []) le = absurd (omega (arith, le))
atom_bytes_step (a ∷ b ∷ c ∷ d ∷ e ∷ f ∷ g ∷ []) le = absurd (omega (arith, le))
atom_bytes_step (a ∷ b ∷ c ∷ d ∷ e ∷ f ∷ g ∷ h ∷ more) le = refl

pub atom_bytes_last : (bs : List Bool) → length bs < 8 → 0 < length bs → atom_bytes bs ≡ byte_of bs ∷ []
atom_bytes_last [] lt some = absurd (omega (arith, some))
atom_bytes_last (a ∷ []) lt some = refl
atom_bytes_last (a ∷ b ∷ []) lt some = refl
atom_bytes_last (a ∷ b ∷ c ∷ []) lt some = refl
atom_bytes_last (a ∷ b ∷ c ∷ d ∷ []) lt some = refl
atom_bytes_last (a ∷ b ∷ c ∷ d ∷ e ∷ []) lt some = refl
atom_bytes_last (a ∷ b ∷ c ∷ d ∷ e ∷ f ∷ []) lt some = refl
atom_bytes_last (a ∷ b ∷ c ∷ d ∷ e ∷ f ∷ g ∷ []) lt some = refl
atom_bytes_last (a ∷ b ∷ c ∷ d ∷ e ∷ f ∷ g ∷ h ∷ more) lt some = absurd (omega (arith, lt))

pub atoms_next : (bytes total : List ℕ) (bs : List Bool) (n : ℕ) → 8 ≤ length bs → n ≡ byte_of (take 8 bs) → bytes ++ atom_bytes bs ≡ total
    → (bytes ++ n ∷ []) ++ atom_bytes (drop 8 bs) ≡ total
atoms_next bytes total bs n le is all =
    append_assoc bytes (n ∷ []) (atom_bytes (drop 8 bs))
    ∙ (ap (λ m. bytes ++ m ∷ atom_bytes (drop 8 bs)) is ∙ (ap (λ ys. bytes ++ ys) (sym (atom_bytes_step bs le)) ∙ all))

pub atoms_last : (bytes total : List ℕ) (bs : List Bool) (n : ℕ) → length bs < 8 → 0 < length bs → n ≡ byte_of bs → bytes ++ atom_bytes bs ≡ total
    → bytes ++ n ∷ [] ≡ total
atoms_last bytes total bs n lt some is all =
    ap (λ m. bytes ++ m ∷ []) is ∙ (ap (λ ys. bytes ++ ys) (sym (atom_bytes_last bs lt some)) ∙ all)

pub atoms_more : (f : ℕ → Bool) (xs : List Bool) (n : ℕ) (x : Bool) → xs ≡ map f (range_with_len 0 n) → x ≡ f n → xs ++ x ∷ [] ≡ map f (range_with_len 0 (n + 1))
atoms_more f xs n x all is = ap₂ (λ (ys : List Bool) (y : Bool). ys ++ y ∷ []) all is ∙ sym (map-range_with_len_more f 0 n n (omega arith))

pub length-atom_bytes : (bs : List Bool) → length (atom_bytes bs) ≡ bytes_for (length bs)
length-atom_bytes [] = refl
length-atom_bytes (a ∷ []) = refl
length-atom_bytes (a ∷ b ∷ []) = refl
length-atom_bytes (a ∷ b ∷ c ∷ []) = refl
length-atom_bytes (a ∷ b ∷ c ∷ d ∷ []) = refl
length-atom_bytes (a ∷ b ∷ c ∷ d ∷ e ∷ []) = refl
length-atom_bytes (a ∷ b ∷ c ∷ d ∷ e ∷ f ∷ []) = refl
length-atom_bytes (a ∷ b ∷ c ∷ d ∷ e ∷ f ∷ g ∷ []) = refl
length-atom_bytes (a ∷ b ∷ c ∷ d ∷ e ∷ f ∷ g ∷ h ∷ more) = let ih = length-atom_bytes more in omega (arith, ih)

-- the first byte's atoms, and the other bytes' atoms
atom_in_first : (n : ℕ) (bytes : List ℕ) (i : ℕ) → i < 8 → atom_in (n ∷ bytes) i ≡ (bit_at n i == 1)
atom_in_first n bytes i lt =
    let p : i / 8 ≡ 0 = omega (arith, lt) in
    let q : i % 8 ≡ i = omega (arith, lt) in
    ap₂ (λ (j k : ℕ). bit_at (get_or (n ∷ bytes) j 0) k == 1) p q

atom_in_later : (n : ℕ) (bytes : List ℕ) (j : ℕ) → atom_in (n ∷ bytes) (8 + j) ≡ atom_in bytes j
atom_in_later n bytes j =
    let p : (8 + j) / 8 ≡ suc (j / 8) = omega arith in
    let q : (8 + j) % 8 ≡ j % 8 = omega arith in
    ap₂ (λ (j k : ℕ). bit_at (get_or (n ∷ bytes) j 0) k == 1) p q

-- each byte's atoms, by the numbers that they have
pub atoms_from : (f : ℕ → Bool) (bs : List Bool) (a : ℕ) → ((i : ℕ) → i < length bs → f (a + i) ≡ get_or bs i false) → map f (range_with_len a (length bs)) ≡ bs
atoms_from f [] a h = refl
atoms_from f (b ∷ bs) a h =
    let e : a ≡ a + 0 = omega arith in
    ap₂ (λ (x : Bool) (xs : List Bool). x ∷ xs) (ap f e ∙ h 0 (omega arith))
    (atoms_from f bs (a + 1) (λ i lt. let e : a + 1 + i ≡ a + suc i = omega arith in ap f e ∙ h (suc i) (omega (arith, lt))))

pub atom_at : (bs : List Bool) (more : List ℕ) (i : ℕ) → i < length bs → atom_in (atom_bytes bs ++ more) i ≡ get_or bs i false
atom_at [] more i lt = absurd (omega (arith, lt))
atom_at (a ∷ []) more i lt =
    atom_in_first (byte_of (a ∷ [])) more i (omega (arith, lt)) ∙ bit_of_byte (a ∷ []) i lt
atom_at (a ∷ b ∷ []) more i lt =
    atom_in_first (byte_of (a ∷ b ∷ [])) more i (omega (arith, lt)) ∙ bit_of_byte (a ∷ b ∷ []) i lt
atom_at (a ∷ b ∷ c ∷ []) more i lt =
    atom_in_first (byte_of (a ∷ b ∷ c ∷ [])) more i (omega (arith, lt)) ∙ bit_of_byte (a ∷ b ∷ c ∷ []) i lt
atom_at (a ∷ b ∷ c ∷ d ∷ []) more i lt =
    atom_in_first (byte_of (a ∷ b ∷ c ∷ d ∷ [])) more i (omega (arith, lt)) ∙ bit_of_byte (a ∷ b ∷ c ∷ d ∷ []) i lt
atom_at (a ∷ b ∷ c ∷ d ∷ e ∷ []) more i lt =
    atom_in_first (byte_of (a ∷ b ∷ c ∷ d ∷ e ∷ [])) more i (omega (arith, lt)) ∙ bit_of_byte (a ∷ b ∷ c ∷ d ∷ e ∷ []) i lt
atom_at (a ∷ b ∷ c ∷ d ∷ e ∷ f ∷ []) more i lt =
    atom_in_first (byte_of (a ∷ b ∷ c ∷ d ∷ e ∷ f ∷ [])) more i (omega (arith, lt)) ∙ bit_of_byte (a ∷ b ∷ c ∷ d ∷ e ∷ f ∷ []) i lt
atom_at (a ∷ b ∷ c ∷ d ∷ e ∷ f ∷ g ∷ []) more i lt =
    atom_in_first (byte_of (a ∷ b ∷ c ∷ d ∷ e ∷ f ∷ g ∷ [])) more i (omega (arith, lt)) ∙ bit_of_byte (a ∷ b ∷ c ∷ d ∷ e ∷ f ∷ g ∷ []) i lt
atom_at (a ∷ b ∷ c ∷ d ∷ e ∷ f ∷ g ∷ h ∷ bs) more zero lt =
    atom_in_first (byte_of (a ∷ b ∷ c ∷ d ∷ e ∷ f ∷ g ∷ h ∷ [])) (atom_bytes bs ++ more) 0 (omega arith) ∙ bit_of_byte (a ∷ b ∷ c ∷ d ∷ e ∷ f ∷ g ∷ h ∷ []) 0 (omega arith)
atom_at (a ∷ b ∷ c ∷ d ∷ e ∷ f ∷ g ∷ h ∷ bs) more (suc zero) lt =
    atom_in_first (byte_of (a ∷ b ∷ c ∷ d ∷ e ∷ f ∷ g ∷ h ∷ [])) (atom_bytes bs ++ more) 1 (omega arith) ∙ bit_of_byte (a ∷ b ∷ c ∷ d ∷ e ∷ f ∷ g ∷ h ∷ []) 1 (omega arith)
atom_at (a ∷ b ∷ c ∷ d ∷ e ∷ f ∷ g ∷ h ∷ bs) more (suc (suc zero)) lt =
    atom_in_first (byte_of (a ∷ b ∷ c ∷ d ∷ e ∷ f ∷ g ∷ h ∷ [])) (atom_bytes bs ++ more) 2 (omega arith) ∙ bit_of_byte (a ∷ b ∷ c ∷ d ∷ e ∷ f ∷ g ∷ h ∷ []) 2 (omega arith)
atom_at (a ∷ b ∷ c ∷ d ∷ e ∷ f ∷ g ∷ h ∷ bs) more (suc (suc (suc zero))) lt =
    atom_in_first (byte_of (a ∷ b ∷ c ∷ d ∷ e ∷ f ∷ g ∷ h ∷ [])) (atom_bytes bs ++ more) 3 (omega arith) ∙ bit_of_byte (a ∷ b ∷ c ∷ d ∷ e ∷ f ∷ g ∷ h ∷ []) 3 (omega arith)
atom_at (a ∷ b ∷ c ∷ d ∷ e ∷ f ∷ g ∷ h ∷ bs) more (suc (suc (suc (suc zero)))) lt =
    atom_in_first (byte_of (a ∷ b ∷ c ∷ d ∷ e ∷ f ∷ g ∷ h ∷ [])) (atom_bytes bs ++ more) 4 (omega arith) ∙ bit_of_byte (a ∷ b ∷ c ∷ d ∷ e ∷ f ∷ g ∷ h ∷ []) 4 (omega arith)
atom_at (a ∷ b ∷ c ∷ d ∷ e ∷ f ∷ g ∷ h ∷ bs) more (suc (suc (suc (suc (suc zero))))) lt =
    atom_in_first (byte_of (a ∷ b ∷ c ∷ d ∷ e ∷ f ∷ g ∷ h ∷ [])) (atom_bytes bs ++ more) 5 (omega arith) ∙ bit_of_byte (a ∷ b ∷ c ∷ d ∷ e ∷ f ∷ g ∷ h ∷ []) 5 (omega arith)
atom_at (a ∷ b ∷ c ∷ d ∷ e ∷ f ∷ g ∷ h ∷ bs) more (suc (suc (suc (suc (suc (suc zero)))))) lt =
    atom_in_first (byte_of (a ∷ b ∷ c ∷ d ∷ e ∷ f ∷ g ∷ h ∷ [])) (atom_bytes bs ++ more) 6 (omega arith) ∙ bit_of_byte (a ∷ b ∷ c ∷ d ∷ e ∷ f ∷ g ∷ h ∷ []) 6 (omega arith)
atom_at (a ∷ b ∷ c ∷ d ∷ e ∷ f ∷ g ∷ h ∷ bs) more (suc (suc (suc (suc (suc (suc (suc zero))))))) lt =
    atom_in_first (byte_of (a ∷ b ∷ c ∷ d ∷ e ∷ f ∷ g ∷ h ∷ [])) (atom_bytes bs ++ more) 7 (omega arith) ∙ bit_of_byte (a ∷ b ∷ c ∷ d ∷ e ∷ f ∷ g ∷ h ∷ []) 7 (omega arith)
atom_at (a ∷ b ∷ c ∷ d ∷ e ∷ f ∷ g ∷ h ∷ bs) more (suc (suc (suc (suc (suc (suc (suc (suc j)))))))) lt =
    (let eight : suc (suc (suc (suc (suc (suc (suc (suc j))))))) ≡ 8 + j = omega arith in ap (atom_in (byte_of (a ∷ b ∷ c ∷ d ∷ e ∷ f ∷ g ∷ h ∷ []) ∷ (atom_bytes bs ++ more))) eight)
    ∙ atom_in_later (byte_of (a ∷ b ∷ c ∷ d ∷ e ∷ f ∷ g ∷ h ∷ [])) (atom_bytes bs ++ more) j ∙ atom_at bs more j (omega (arith, lt))

pub atoms_back : (bs : List Bool) (more : List ℕ) → map (atom_in (atom_bytes bs ++ more)) (range_with_len 0 (length bs)) ≡ bs
atoms_back bs more = atoms_from (atom_in (atom_bytes bs ++ more)) bs 0 (λ i lt. let e : 0 + i ≡ i = omega arith in ap (atom_in (atom_bytes bs ++ more)) e ∙ atom_at bs more i lt)

-- ---- an atom that is turned round

-- the lowest bit turned round, and one of the others
flip_lowest : (b : Bool) (n : ℕ) → bit_xor ((if b then 1 else 0) + 2 * n) 1 ≡ (if not b then 1 else 0) + 2 * n
flip_lowest true n =
    let p : 1 + 2 * n ≡ n * 2 ^ 1 + 1 = omega arith in
    let q : n * 2 ^ 1 + 0 ≡ 0 + 2 * n = omega arith in
    ap (λ m. bit_xor m 1) p ∙ (xor_block 1 n 0 1 1 (omega arith) (omega arith) ∙ (ap (λ m. m * 2 ^ 1 + 0) (xor_zero_r n) ∙ q))
flip_lowest false n =
    let p : 0 + 2 * n ≡ n * 2 ^ 1 + 0 = omega arith in
    let q : n * 2 ^ 1 + 1 ≡ 1 + 2 * n = omega arith in
    ap (λ m. bit_xor m 1) p ∙ (xor_block 1 n 0 0 1 (omega arith) (omega arith) ∙ (ap (λ m. m * 2 ^ 1 + 1) (xor_zero_r n) ∙ q))

flip_later : (b : Bool) (n m k : ℕ) → bit_xor n k ≡ m → bit_xor ((if b then 1 else 0) + 2 * n) (2 * k) ≡ (if b then 1 else 0) + 2 * m
flip_later true n m k is =
    let p : 1 + 2 * n ≡ n * 2 ^ 1 + 1 = omega arith in
    let q : 2 * k ≡ k * 2 ^ 1 + 0 = omega arith in
    let r : m * 2 ^ 1 + 1 ≡ 1 + 2 * m = omega arith in
    ap₂ bit_xor p q ∙ (xor_block 1 n k 1 0 (omega arith) (omega arith) ∙ (ap (λ x. x * 2 ^ 1 + 1) is ∙ r))
flip_later false n m k is =
    let p : 0 + 2 * n ≡ n * 2 ^ 1 + 0 = omega arith in
    let q : 2 * k ≡ k * 2 ^ 1 + 0 = omega arith in
    let r : m * 2 ^ 1 + 0 ≡ 0 + 2 * m = omega arith in
    ap₂ bit_xor p q ∙ (xor_block 1 n k 0 0 (omega arith) (omega arith) ∙ (ap (λ x. x * 2 ^ 1 + 0) is ∙ r))

pub flip_byte : (bs : List Bool) (i : ℕ) → i < length bs → bit_xor (byte_of bs) (2 ^ i) ≡ byte_of (set bs i (not (get_or bs i false)))
flip_byte [] i lt = absurd (omega (arith, lt))
flip_byte (b ∷ bs) zero lt = flip_lowest b (byte_of bs)
flip_byte (b ∷ bs) (suc i) lt =
    ap (bit_xor (byte_of (b ∷ bs))) (pow-succ' 2 i)
    ∙ flip_later b (byte_of bs) (byte_of (set bs i (not (get_or bs i false)))) (2 ^ i) (flip_byte bs i (omega (arith, lt)))

flipped_first : (n m : ℕ) (bytes : List ℕ) (i : ℕ) → i < 8 → bit_xor n (2 ^ i) ≡ m → flipped (n ∷ bytes) i ≡ m ∷ bytes
flipped_first n m bytes i lt is =
    let p : i / 8 ≡ 0 = omega (arith, lt) in
    let q : i % 8 ≡ i = omega (arith, lt) in
    ap₂ (λ (j k : ℕ). set (n ∷ bytes) j (bit_xor (get_or (n ∷ bytes) j 0) (2 ^ k))) p q ∙ ap (λ k. k ∷ bytes) is

flipped_later : (n : ℕ) (bytes : List ℕ) (j : ℕ) → flipped (n ∷ bytes) (8 + j) ≡ n ∷ flipped bytes j
flipped_later n bytes j =
    let p : (8 + j) / 8 ≡ suc (j / 8) = omega arith in
    let q : (8 + j) % 8 ≡ j % 8 = omega arith in
    ap₂ (λ (i k : ℕ). set (n ∷ bytes) i (bit_xor (get_or (n ∷ bytes) i 0) (2 ^ k))) p q

-- fewer than eight atoms, and eight of them with more
flipped_few : (bs : List Bool) (i : ℕ) → length bs < 8 → i < length bs → flipped (atom_bytes bs) i ≡ atom_bytes (set bs i (not (get_or bs i false)))
flipped_few bs i few lt =
    let new = set bs i (not (get_or bs i false)) in
    let n = length-set bs i (not (get_or bs i false)) in
    ap (λ (ns : List ℕ). flipped ns i) (atom_bytes_last bs few (omega (arith, lt)))
    ∙ (flipped_first (byte_of bs) (byte_of new) [] i (omega (arith, lt, few)) (flip_byte bs i lt)
    ∙ sym (atom_bytes_last new (omega (arith, n, few)) (omega (arith, n, lt))))

pub flipped_atom : (bs : List Bool) (i : ℕ) → i < length bs → flipped (atom_bytes bs) i ≡ atom_bytes (set bs i (not (get_or bs i false)))
flipped_atom [] i lt = absurd (omega (arith, lt))
flipped_atom (a ∷ []) i lt = flipped_few (a ∷ []) i (omega arith) lt
flipped_atom (a ∷ b ∷ []) i lt = flipped_few (a ∷ b ∷ []) i (omega arith) lt
flipped_atom (a ∷ b ∷ c ∷ []) i lt = flipped_few (a ∷ b ∷ c ∷ []) i (omega arith) lt
flipped_atom (a ∷ b ∷ c ∷ d ∷ []) i lt = flipped_few (a ∷ b ∷ c ∷ d ∷ []) i (omega arith) lt
flipped_atom (a ∷ b ∷ c ∷ d ∷ e ∷ []) i lt = flipped_few (a ∷ b ∷ c ∷ d ∷ e ∷ []) i (omega arith) lt
flipped_atom (a ∷ b ∷ c ∷ d ∷ e ∷ f ∷ []) i lt = flipped_few (a ∷ b ∷ c ∷ d ∷ e ∷ f ∷ []) i (omega arith) lt
flipped_atom (a ∷ b ∷ c ∷ d ∷ e ∷ f ∷ g ∷ []) i lt = flipped_few (a ∷ b ∷ c ∷ d ∷ e ∷ f ∷ g ∷ []) i (omega arith) lt
flipped_atom (a ∷ b ∷ c ∷ d ∷ e ∷ f ∷ g ∷ h ∷ bs) zero lt =
    flipped_first (byte_of (a ∷ b ∷ c ∷ d ∷ e ∷ f ∷ g ∷ h ∷ [])) _ (atom_bytes bs) 0 (omega arith) (flip_byte (a ∷ b ∷ c ∷ d ∷ e ∷ f ∷ g ∷ h ∷ []) 0 (omega arith))
flipped_atom (a ∷ b ∷ c ∷ d ∷ e ∷ f ∷ g ∷ h ∷ bs) (suc zero) lt =
    flipped_first (byte_of (a ∷ b ∷ c ∷ d ∷ e ∷ f ∷ g ∷ h ∷ [])) _ (atom_bytes bs) 1 (omega arith) (flip_byte (a ∷ b ∷ c ∷ d ∷ e ∷ f ∷ g ∷ h ∷ []) 1 (omega arith))
flipped_atom (a ∷ b ∷ c ∷ d ∷ e ∷ f ∷ g ∷ h ∷ bs) (suc (suc zero)) lt =
    flipped_first (byte_of (a ∷ b ∷ c ∷ d ∷ e ∷ f ∷ g ∷ h ∷ [])) _ (atom_bytes bs) 2 (omega arith) (flip_byte (a ∷ b ∷ c ∷ d ∷ e ∷ f ∷ g ∷ h ∷ []) 2 (omega arith))
flipped_atom (a ∷ b ∷ c ∷ d ∷ e ∷ f ∷ g ∷ h ∷ bs) (suc (suc (suc zero))) lt =
    flipped_first (byte_of (a ∷ b ∷ c ∷ d ∷ e ∷ f ∷ g ∷ h ∷ [])) _ (atom_bytes bs) 3 (omega arith) (flip_byte (a ∷ b ∷ c ∷ d ∷ e ∷ f ∷ g ∷ h ∷ []) 3 (omega arith))
flipped_atom (a ∷ b ∷ c ∷ d ∷ e ∷ f ∷ g ∷ h ∷ bs) (suc (suc (suc (suc zero)))) lt =
    flipped_first (byte_of (a ∷ b ∷ c ∷ d ∷ e ∷ f ∷ g ∷ h ∷ [])) _ (atom_bytes bs) 4 (omega arith) (flip_byte (a ∷ b ∷ c ∷ d ∷ e ∷ f ∷ g ∷ h ∷ []) 4 (omega arith))
flipped_atom (a ∷ b ∷ c ∷ d ∷ e ∷ f ∷ g ∷ h ∷ bs) (suc (suc (suc (suc (suc zero))))) lt =
    flipped_first (byte_of (a ∷ b ∷ c ∷ d ∷ e ∷ f ∷ g ∷ h ∷ [])) _ (atom_bytes bs) 5 (omega arith) (flip_byte (a ∷ b ∷ c ∷ d ∷ e ∷ f ∷ g ∷ h ∷ []) 5 (omega arith))
flipped_atom (a ∷ b ∷ c ∷ d ∷ e ∷ f ∷ g ∷ h ∷ bs) (suc (suc (suc (suc (suc (suc zero)))))) lt =
    flipped_first (byte_of (a ∷ b ∷ c ∷ d ∷ e ∷ f ∷ g ∷ h ∷ [])) _ (atom_bytes bs) 6 (omega arith) (flip_byte (a ∷ b ∷ c ∷ d ∷ e ∷ f ∷ g ∷ h ∷ []) 6 (omega arith))
flipped_atom (a ∷ b ∷ c ∷ d ∷ e ∷ f ∷ g ∷ h ∷ bs) (suc (suc (suc (suc (suc (suc (suc zero))))))) lt =
    flipped_first (byte_of (a ∷ b ∷ c ∷ d ∷ e ∷ f ∷ g ∷ h ∷ [])) _ (atom_bytes bs) 7 (omega arith) (flip_byte (a ∷ b ∷ c ∷ d ∷ e ∷ f ∷ g ∷ h ∷ []) 7 (omega arith))
flipped_atom (a ∷ b ∷ c ∷ d ∷ e ∷ f ∷ g ∷ h ∷ bs) (suc (suc (suc (suc (suc (suc (suc (suc j)))))))) lt =
    (let eight : suc (suc (suc (suc (suc (suc (suc (suc j))))))) ≡ 8 + j = omega arith in ap (flipped (byte_of (a ∷ b ∷ c ∷ d ∷ e ∷ f ∷ g ∷ h ∷ []) ∷ atom_bytes bs)) eight)
    ∙ (flipped_later (byte_of (a ∷ b ∷ c ∷ d ∷ e ∷ f ∷ g ∷ h ∷ [])) (atom_bytes bs) j
    ∙ ap (λ (ns : List ℕ). byte_of (a ∷ b ∷ c ∷ d ∷ e ∷ f ∷ g ∷ h ∷ []) ∷ ns) (flipped_atom bs j (omega (arith, lt))))

-- with more bytes after those of the atoms
pub flipped_before : (bs : List Bool) (more : List ℕ) (i : ℕ) → i < length bs
    → flipped (atom_bytes bs ++ more) i ≡ atom_bytes (set bs i (not (get_or bs i false))) ++ more
flipped_before bs more i lt =
    let n = length-atom_bytes bs in
    let within : i / 8 < length (atom_bytes bs) = omega (arith, n, lt) in
    ap (λ b. set (atom_bytes bs ++ more) (i / 8) (bit_xor b (2 ^ (i % 8)))) (get_or_append_left (atom_bytes bs) more 0 (i / 8) within)
    ∙ (set-append_left (atom_bytes bs) more (i / 8) (bit_xor (get_or (atom_bytes bs) (i / 8) 0) (2 ^ (i % 8))) within
    ∙ ap (λ (ns : List ℕ). ns ++ more) (flipped_atom bs i lt))
