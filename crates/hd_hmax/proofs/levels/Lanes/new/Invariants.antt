use Rattle.std.proofs.Common.{◌≡◌, ℕ, ◌<◌, length}
use Rattle.hd_hmax.specs.Lanes.{table_of}
use Rattle.hd_hmax.proofs.levels.Lanes.new.Given as goal

-- the tables so far
abbrev pub invariant-loop : goal.invariant-loop
invariant-loop l = (c : ℕ) → c < length l.tables.items → length (table_of l.tables.items c) ≡ l.places
