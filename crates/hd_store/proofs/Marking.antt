-- Places that are marked.
use Rattle.std.proofs.Common.{◌≡◌, ℕ, ◌≤◌, max, arith}
use Rattle.std.specs.Prelude.{◌&&◌, nat_le, nat_lt}
use Rattle.std.proofs.lemmas.Bool.Decides.{nat_tests}

-- the places from one on, and below an end that was reached or passed at once
pub same_places : (from to reached k : ℕ) → to ≤ reached → reached ≤ max from to
    → (nat_le from k && nat_lt k reached) ≡ (nat_le from k && nat_lt k to)
same_places from to reached k ended bound = grind (arith, nat_tests)
