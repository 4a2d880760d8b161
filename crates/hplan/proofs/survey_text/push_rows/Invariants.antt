use Rattle.std.proofs.Common.{◌≡◌, ◌++◌, length, string_bytes}
use Rattle.hplan.specs.Surveying.{row_lines}
use Rattle.hplan.proofs.survey_text.push_rows.Given as goal

-- the lines so far, and those that are left
abbrev pub invariant-loop-rest : goal.invariant-loop-rest
invariant-loop-rest l = record { lines : string_bytes l.text ++ row_lines l.what l.rest ≡ string_bytes l.fn.text ++ row_lines l.what l.rows }

abbrev pub decreases-loop-rest : goal.decreases-loop-rest
decreases-loop-rest l = length l.rest
