-- Parts that are given away, one after another.
use Rattle.std.proofs.Common.{ℕ, zero, suc, ◌+◌, ◌-◌, ◌<◌, List, [], ◌∷◌, map, replicate, arith}
use Rattle.std.specs.List.{AllByRecursion}

-- each of so many passes has the same parts
pub all_many : (left n parts : ℕ) → left < parts → AllByRecursion (λ k. left < k) (replicate n parts)
all_many left zero parts lt = tt
all_many left (suc n) parts lt = (lt, all_many left n parts lt)

-- if there is room for one place more, each pass can be cut
pub all_shareable : (left : ℕ) (ns : List ℕ) → AllByRecursion (λ k. left + 1 < k) ns → AllByRecursion (λ k. 1 < k) ns
all_shareable left [] all = tt
all_shareable left (n ∷ ns) all = (omega (arith, all.0), all_shareable left ns all.1)

-- then one part less of each is left
pub all_less : (left : ℕ) (ns : List ℕ) → AllByRecursion (λ k. left + 1 < k) ns → AllByRecursion (λ k. left < k) (map (λ k. k - 1) ns)
all_less left [] all = tt
all_less left (n ∷ ns) all = (omega (arith, all.0), all_less left ns all.1)
