-- Bytes of which some are shared with others, segment by segment. (Our own.)
use Rattle.std.specs.Prelude.{ℕ, ◌+◌, ◌≤◌, ◌++◌, Bool, ◌&&◌, nat_eq, List, [], ◌∷◌, length, take, drop}
use Rattle.std.specs.Cmp.Lexicographic.{pointwise}
use Rattle.hd_pack.specs.declared.split.Segment.{Segment}

-- all bytes: of each segment those of the base and then the own ones; behind the last segment those of
-- the base
abbrev pub merged : List Segment → List ℕ → List ℕ → List ℕ
merged [] base own = base
merged (p ∷ ps) base own = take p.shared base ++ (take p.own own ++ merged ps (drop p.own (drop p.shared base)) (drop p.own own))

-- the own bytes among all
abbrev pub own_bytes : List Segment → List ℕ → List ℕ
own_bytes [] bytes = []
own_bytes (p ∷ ps) bytes = take p.own (drop p.shared bytes) ++ own_bytes ps (drop p.own (drop p.shared bytes))

-- how many bytes are own ones
abbrev pub own_width : List Segment → ℕ
own_width [] = 0
own_width (p ∷ ps) = p.own + own_width ps

-- there are bytes for each segment
abbrev pub AreWithin : List Segment → List ℕ → List ℕ → Type 0
AreWithin [] base own = Unit {0}
AreWithin (p ∷ ps) base own = (p.shared + p.own ≤ length base) × (p.own ≤ length own) × AreWithin ps (drop p.own (drop p.shared base)) (drop p.own own)

-- the base has bytes for each segment
abbrev pub AreInside : List Segment → List ℕ → Type 0
AreInside [] base = Unit {0}
AreInside (p ∷ ps) base = (p.shared + p.own ≤ length base) × AreInside ps (drop p.own (drop p.shared base))

-- bytes are those of the base wherever they are shared
abbrev pub agrees : List Segment → List ℕ → List ℕ → Bool
agrees [] base bytes = pointwise nat_eq base bytes
agrees (p ∷ ps) base bytes = pointwise nat_eq (take p.shared base) (take p.shared bytes) && agrees ps (drop p.own (drop p.shared base)) (drop p.own (drop p.shared bytes))
