-- How a wrong use of the metric's function is printed. (Our own.)
use Rattle.std.specs.Prelude.{ℕ, List, ◌++◌, codes, decimal}
use Rattle.hd_metric.specs.declared.fault.BadMetric.{BadMetric}

-- the printed form: its number and its name, and in parentheses the place
abbrev pub text_of : BadMetric → List ℕ
text_of fault = codes "13 BadMetric(" ++ decimal fault.at ++ codes ")"
