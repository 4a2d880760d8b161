use Rattle.std.proofs.Common.{◌≡◌, ◌++◌, take, flat_map, string_bytes}
use Rattle.hd_explain.specs.Traces.{atom_line}
use Rattle.hd_explain.proofs.tracing.push_atoms.Given as goal

abbrev pub invariant-loop-said : goal.invariant-loop-said
invariant-loop-said l =
    string_bytes l.text ≡ string_bytes l.initial.text ++ flat_map (atom_line l.task l.objects l.words) (take l.said-index l.atoms)
