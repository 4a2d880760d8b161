use Rattle.std.proofs.Common.{◌≡◌, ◌++◌, take, flat_map, string_bytes}
use Rattle.hd_judge.specs.Tables.{reached_in}
use Rattle.hd_explain.specs.Traces.{fluent_line}
use Rattle.hd_explain.proofs.tracing.push_fluents.Given as goal

abbrev pub invariant-loop-reading : goal.invariant-loop-reading
invariant-loop-reading l =
    string_bytes l.text
    ≡ string_bytes l.initial.text ++ flat_map (fluent_line l.task (reached_in l.place).state.values) (take l.reading-index l.olds)
