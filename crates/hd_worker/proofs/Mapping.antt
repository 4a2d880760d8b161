-- Lists of which the first items are mapped.
use Rattle.std.proofs.Common.{◌≡◌, ℕ, zero, suc, ◌+◌, ◌<◌, ◌≤◌, List, [], ◌∷◌, map, set, length, get_or, refl, sym, ap, ◌∙◌, arith, add-one}

-- the first so many items are mapped
abbrev pub mapped : {X : Type 0} → (X → X) → ℕ → List X → List X
mapped f zero xs = xs
mapped f (suc n) [] = []
mapped f (suc n) (x ∷ xs) = f x ∷ mapped f n xs

-- one item more
mapped_next : {X : Type 0} (f : X → X) (xs : List X) (n : ℕ) (d : X) → n < length xs → set (mapped f n xs) n (f (get_or (mapped f n xs) n d)) ≡ mapped f (suc n) xs
mapped_next {X} f [] n d lt = absurd (let none : length {A = X} [] ≡ 0 = refl in omega arith)
mapped_next f (x ∷ xs) zero d lt = refl
mapped_next {X} f (x ∷ xs) (suc n) d lt = ap (λ (zs : List X). f x ∷ zs) (mapped_next f xs n d (omega arith))

pub mapped_more :
    {X : Type 0} (f : X → X) (xs now : List X) (n : ℕ) (x y d : X) → now ≡ mapped f n xs → n < length xs → x ≡ get_or now n d → y ≡ f x
    → set now n y ≡ mapped f (n + 1) xs
mapped_more {X} f xs now n x y d is lt at named =
    ap (λ (zs : List X). set zs n y) is
    ∙ (ap (set (mapped f n xs) n) (named ∙ ap f (at ∙ ap (λ (zs : List X). get_or zs n d) is))
    ∙ (mapped_next f xs n d lt ∙ ap (λ (m : ℕ). mapped f m xs) (sym (add-one n))))

-- all items
pub mapped_all : {X : Type 0} (f : X → X) (xs : List X) (n : ℕ) → length xs ≤ n → mapped f n xs ≡ map f xs
mapped_all f [] zero le = refl
mapped_all f [] (suc n) le = refl
mapped_all f (x ∷ xs) zero le = absurd (omega arith)
mapped_all {X} f (x ∷ xs) (suc n) le = ap (λ (zs : List X). f x ∷ zs) (mapped_all f xs n (omega arith))
