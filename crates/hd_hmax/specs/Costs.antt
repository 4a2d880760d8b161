-- Costs that may be infinite: none stands for infinite. (Our own.)
use Rattle.std.specs.Prelude.{ℕ, ◌+◌, Bool, false, nat_le, Option, Some, None, max}

-- the greater of two costs
abbrev pub greater : Option ℕ → Option ℕ → Option ℕ
greater None b = None
greater (Some a) None = None
greater (Some a) (Some b) = Some (max a b)

-- a cost and a price
abbrev pub plus_price : ℕ → Option ℕ → Option ℕ
plus_price p None = None
plus_price p (Some c) = Some (p + c)

-- a cost is finite and at most so much
abbrev pub up_to : ℕ → Option ℕ → Bool
up_to c None = false
up_to c (Some v) = nat_le v c
