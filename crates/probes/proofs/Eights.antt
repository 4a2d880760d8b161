-- A byte is put together from eight atoms.
use Rattle.std.proofs.Common.{◌≡◌, ℕ, zero, suc, ◌+◌, ◌-◌, ◌*◌, ◌/◌, ◌%◌, ◌^◌, ◌<◌, ◌==◌, Bool, true, false, refl, ap, ◌∙◌, arith}
use Rattle.std.specs.Int.{bit_at}
use mir.Val.{bool_byte}
use Rattle.std.proofs.Math.Nat.{pow-suc}
use Rattle.std.proofs.lemmas.Nat.{div-mul-add, mod-mul-add}
use Rattle.std.proofs.lemmas.Nat.Bits.{bit_at-suc, bit_at_lowest}
use Rattle.hd_task.specs.declared.state.State.{State}
use Rattle.hd_task.specs.Conditions.{has_atom}

-- the atoms so far, from the last one back
pub record IsRead (s : State) (from byte done : ℕ) : Type 0 where
  pub small : byte < 2 ^ done
  pub told : (k : ℕ) → k < done → (bit_at byte k == 1) ≡ has_atom s (from + (8 - done) + k)

byte_less : (b : Bool) → bool_byte b < 2
byte_less true = omega arith
byte_less false = omega arith

bit_put : (x j : ℕ) (b : Bool) → bit_at (2 * x + bool_byte b) (suc j) ≡ bit_at x j
bit_put x j b =
    let turned : 2 * x ≡ x * 2 = omega arith in
    let half : (2 * x + bool_byte b) / 2 ≡ x = ap (λ (y : ℕ). (y + bool_byte b) / 2) turned ∙ div-mul-add x 2 (bool_byte b) (byte_less b) in
    bit_at-suc (2 * x + bool_byte b) j ∙ ap (λ n. bit_at n j) half

first_is : (b : Bool) → (bool_byte b == 1) ≡ b
first_is true = refl
first_is false = refl

bit_first : (x : ℕ) (b : Bool) → (bit_at (2 * x + bool_byte b) 0 == 1) ≡ b
bit_first x b =
    let turned : 2 * x ≡ x * 2 = omega arith in
    ap (λ (y : ℕ). y == 1) (bit_at_lowest (2 * x + bool_byte b) ∙ (ap (λ (y : ℕ). (y + bool_byte b) % 2) turned ∙ mod-mul-add x 2 (bool_byte b) (byte_less b))) ∙ first_is b

read_told : (s : State) (from byte done : ℕ) (b : Bool) → done < 8 → b ≡ has_atom s (from + (7 - done)) → IsRead s from byte done
    → (k : ℕ) → k < done + 1 → (bit_at (2 * byte + bool_byte b) k == 1) ≡ has_atom s (from + (8 - (done + 1)) + k)
read_told s from byte done b low is f zero h =
    let same : from + (7 - done) ≡ from + (8 - (done + 1)) + 0 = omega (arith, low) in
    bit_first byte b ∙ (is ∙ ap (has_atom s) same)
read_told s from byte done b low is f (suc k) h =
    let same : from + (8 - done) + k ≡ from + (8 - (done + 1)) + suc k = omega (arith, low) in
    ap (λ (y : ℕ). y == 1) (bit_put byte k b) ∙ (f.told k (omega (arith, h)) ∙ ap (has_atom s) same)

pub read_next : (s : State) (from byte done : ℕ) (b : Bool) → done < 8 → b ≡ has_atom s (from + (7 - done)) → IsRead s from byte done → IsRead s from (2 * byte + bool_byte b) (done + 1)
read_next s from byte done b low is f = record {
  small =
      let less = f.small in
      let one = byte_less b in
      let next : done + 1 ≡ suc done = omega arith in
      let twice : 2 ^ (done + 1) ≡ 2 ^ done * 2 = ap (λ (n : ℕ). 2 ^ n) next ∙ pow-suc 2 done in
      omega (arith, less, one, twice);
  told = read_told s from byte done b low is f;
}
