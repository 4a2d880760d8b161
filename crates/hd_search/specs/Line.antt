-- The line that reports how a search stands. (Our own.)
use Rattle.std.specs.Prelude.{ℕ, ◌*◌, ◌/◌, ◌-◌, ◌^◌, max, min, List, ◌++◌, Option, Some, None, codes, decimal}
use Rattle.hd_search.specs.declared.line.PlanLine.{PlanLine}
use Rattle.hd_search.specs.declared.line.ProgressLine.{ProgressLine}
use Rattle.hd_search.specs.declared.line.RebuildingLine.{RebuildingLine}

-- a cost, or that there is none
abbrev pub cost_text : Option ℕ → List ℕ
cost_text (Some cost) = decimal cost
cost_text None = codes "none"

-- how many nodes are expanded, and open
abbrev pub nodes_text : ProgressLine → List ℕ
nodes_text l = codes "entries " ++ decimal l.entries ++ codes ", " ++ decimal l.rate ++ codes " a second, open " ++ decimal l.open

-- the best cost, and what is least of what is open
abbrev pub costs_text : ProgressLine → List ℕ
costs_text l = codes "bound " ++ cost_text l.bound ++ codes ", least " ++ cost_text l.least

-- what is in the journal, how long it took, and how much memory there is
abbrev pub rest_text : ProgressLine → List ℕ
rest_text l = codes "acknowledged " ++ decimal l.acknowledged ++ codes ", " ++ decimal l.seconds ++ codes " seconds, " ++ decimal l.memory ++ codes " MB"

-- the line
abbrev pub line_text : ProgressLine → List ℕ
line_text l = nodes_text l ++ codes ", " ++ costs_text l ++ codes ", " ++ rest_text l

-- the line of a plan: what it costs, and how long it took
abbrev pub plan_text : PlanLine → List ℕ
plan_text l = codes "a plan of cost " ++ decimal l.cost ++ codes ", " ++ decimal l.seconds ++ codes " seconds"

-- the line of entries that are made again
abbrev pub rebuilding_text : RebuildingLine → List ℕ
rebuilding_text l = codes "rebuilding " ++ decimal l.done ++ codes " of " ++ decimal l.all ++ codes " entries"

-- so many in so many milliseconds, as so many a second, as far as 64 bits go; less than a
-- millisecond counts as one
abbrev pub rate : ℕ → ℕ → ℕ
rate count milliseconds = min (count * 1000 / max milliseconds 1) (2 ^ 64 - 1)
