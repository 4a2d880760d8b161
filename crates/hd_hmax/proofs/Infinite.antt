-- Costs that may be infinite, by the numbers that they do not exceed.
use Rattle.std.proofs.Common.{◌≡◌, ℕ, ◌+◌, ◌-◌, ◌≤◌, nat_le, Bool, true, false, cond, ◌&&◌, ◌||◌, List, [], ◌∷◌, Option, Some, None, refl, sym, ap, ◌∙◌, arith, min, max}
use Rattle.std.specs.List.{list_all, list_any, fold}
use Rattle.std.proofs.Math.Bool.{and_assoc, or_assoc, and-true}
use Rattle.std.proofs.lemmas.Bool.{leb-true, le-leb, true≢false}
use Rattle.std.proofs.lemmas.Bool.Decides.{nat_tests}
use Rattle.hd_base.proofs.Truth.{or-false}
use Rattle.hd_task.specs.Expansions.{lesser}
use Rattle.hd_hmax.specs.Costs.{greater, plus_price, up_to}

min_up_to : (a b c : ℕ) → nat_le (min a b) c ≡ (nat_le a c || nat_le b c)
min_up_to a b c = grind (arith, nat_tests)

max_up_to : (a b c : ℕ) → nat_le (max a b) c ≡ (nat_le a c && nat_le b c)
max_up_to a b c = grind (arith, nat_tests)

sum_up_to : (p v c : ℕ) → nat_le (p + v) c ≡ (nat_le p c && nat_le v (c - p))
sum_up_to p v c = grind (arith, nat_tests)

pub up_to-lesser : (c : ℕ) (a b : Option ℕ) → up_to c (lesser a b) ≡ (up_to c a || up_to c b)
up_to-lesser c None b = refl
up_to-lesser c (Some a) None = sym (or-false (nat_le a c))
up_to-lesser c (Some a) (Some b) = min_up_to a b c

and-false : (b : Bool) → (b && false) ≡ false
and-false true = refl
and-false false = refl

pub up_to-greater : (c : ℕ) (a b : Option ℕ) → up_to c (greater a b) ≡ (up_to c a && up_to c b)
up_to-greater c None b = refl
up_to-greater c (Some a) None = sym (and-false (nat_le a c))
up_to-greater c (Some a) (Some b) = max_up_to a b c

pub up_to-plus : (c p : ℕ) (a : Option ℕ) → up_to c (plus_price p a) ≡ (nat_le p c && up_to (c - p) a)
up_to-plus c p None = sym (and-false (nat_le p c))
up_to-plus c p (Some v) = sum_up_to p v c

-- the greatest of costs
pub up_to-all : {X : Type 0} (c : ℕ) (f : X → Option ℕ) (a : Option ℕ) (xs : List X) → up_to c (fold (λ m x. greater m (f x)) a xs) ≡ (up_to c a && list_all (λ x. up_to c (f x)) xs)
up_to-all c f a [] = sym (and-true (up_to c a))
up_to-all c f a (x ∷ xs) =
    up_to-all c f (greater a (f x)) xs
    ∙ (ap (λ b. b && list_all (λ x. up_to c (f x)) xs) (up_to-greater c a (f x)) ∙ and_assoc (up_to c a) (up_to c (f x)) (list_all (λ x. up_to c (f x)) xs))

one_of_two : (c : ℕ) (t : Bool) (a b : Option ℕ) → up_to c (cond t (lesser a b) a) ≡ (up_to c a || (t && up_to c b))
one_of_two c true a b = up_to-lesser c a b
one_of_two c false a b = sym (or-false (up_to c a))

-- the least of a cost and of those that pass a test
pub up_to-any : {X : Type 0} (c : ℕ) (test : X → Bool) (f : X → Option ℕ) (a : Option ℕ) (xs : List X)
    → up_to c (fold (λ m x. cond (test x) (lesser m (f x)) m) a xs) ≡ (up_to c a || list_any (λ x. test x && up_to c (f x)) xs)
up_to-any c test f a [] = sym (or-false (up_to c a))
up_to-any c test f a (x ∷ xs) =
    up_to-any c test f (cond (test x) (lesser a (f x)) a) xs
    ∙ (ap (λ b. b || list_any (λ x. test x && up_to c (f x)) xs) (one_of_two c (test x) a (f x))
    ∙ or_assoc (up_to c a) (test x && up_to c (f x)) (list_any (λ x. test x && up_to c (f x)) xs))

-- a cost is at most each number that is no less
pub up_to-more : (c d : ℕ) (a : Option ℕ) → c ≤ d → up_to c a ≡ true → up_to d a ≡ true
up_to-more c d None h e = e
up_to-more c d (Some v) h e = le-leb v d (omega (arith, leb-true v c e))

pub value_up_to : (c : ℕ) (a : Option ℕ) → up_to c a ≡ true → (v : ℕ) × (a ≡ Some v) × (v ≤ c)
value_up_to c None e = absurd (true≢false (sym e))
value_up_to c (Some v) e = (v, refl, leb-true v c e)

-- costs that are at most the same numbers are the same
pub same_costs : (a b : Option ℕ) → ((c : ℕ) → up_to c a ≡ true → up_to c b ≡ true) → ((c : ℕ) → up_to c b ≡ true → up_to c a ≡ true) → a ≡ b
same_costs None None there back = refl
same_costs None (Some v) there back = absurd (true≢false (sym (back v (le-leb v v (omega arith)))))
same_costs (Some v) None there back = absurd (true≢false (sym (there v (le-leb v v (omega arith)))))
same_costs (Some v) (Some w) there back =
    let up : w ≤ v = leb-true w v (there v (le-leb v v (omega arith))) in
    let down : v ≤ w = leb-true v w (back w (le-leb w w (omega arith))) in
    let same : v ≡ w = omega arith in
    ap Some same
