-- Eight atoms stand in a byte.
use Rattle.std.proofs.Common.{◌≡◌, ℕ, ◌+◌, ◌*◌, ◌/◌, ◌%◌, ◌<◌, ◌≤◌, ◌==◌, false, List, get_or, sym, ap, ap₂, ◌∙◌, arith}
use Rattle.std.specs.Int.{bit_at}
use Rattle.std.proofs.lemmas.Nat.{div-mul-add, mod-mul-add}
use Rattle.std.proofs.lemmas.Option.{get_or_from_slice_get}
use Rattle.hd_task.specs.declared.state.State.{State}
use Rattle.hd_task.specs.Conditions.{has_atom}
use Rattle.hd_pack.specs.Packing.{atom_in, unpacked}
use Rattle.hd_pack.proofs.Packings.{atom_within}

pub eight_are : (n : ℕ) (xs : List ℕ) (s : State) (number k : ℕ) → unpacked n xs ≡ s → 8 * number + 8 ≤ n → k < 8 → (bit_at (get_or xs number 0) k == 1) ≡ has_atom s (8 * number + k)
eight_are n xs s number k is whole h =
    let turned : 8 * number + k ≡ number * 8 + k = omega arith in
    let byte : (8 * number + k) / 8 ≡ number = ap (λ (i : ℕ). i / 8) turned ∙ div-mul-add number 8 k h in
    let bit : (8 * number + k) % 8 ≡ k = ap (λ (i : ℕ). i % 8) turned ∙ mod-mul-add number 8 k h in
    sym
    (get_or_from_slice_get s.atoms (8 * number + k) (atom_in xs (8 * number + k)) false (atom_within n xs s (8 * number + k) is (omega (arith, whole, h)))
    ∙ ap₂ (λ (i j : ℕ). bit_at (get_or xs i 0) j == 1) byte bit)
