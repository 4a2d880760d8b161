-- How a report is printed. (Our own.)
use Rattle.std.specs.Prelude.{ℕ, List, [], ◌∷◌, ◌++◌, Option, Some, None, codes, decimal}
use Rattle.hd_replay.specs.declared.report.Says.{Says}
use Rattle.hd_replay.specs.declared.report.Says.TheVariants.{Optimal, NoPlan, RangeLeft}
use Rattle.hd_replay.specs.declared.report.Report.{Report}

-- what is said: its name, and the cost or the entry in decimal
abbrev pub says_text : Says → List ℕ
says_text (Optimal cost) = codes "optimal " ++ decimal cost
says_text NoPlan = codes "no-plan"
says_text (RangeLeft entry) = codes "range-left " ++ decimal entry

-- what is said, or that nothing is
abbrev pub verdict_text : Option Says → List ℕ
verdict_text (Some says) = says_text says
verdict_text None = codes "none"

-- a line feed
abbrev pub line_break : List ℕ
line_break = 10 ∷ []

-- the four lines of a report, each with its end
abbrev pub report_text : Report → List ℕ
report_text report =
    (codes "expansions " ++ decimal report.expansions ++ line_break)
    ++ (codes "acknowledged " ++ decimal report.acknowledged ++ line_break)
    ++ (codes "bytes " ++ decimal report.bytes ++ line_break)
    ++ (codes "verdict " ++ verdict_text report.verdict ++ line_break)
