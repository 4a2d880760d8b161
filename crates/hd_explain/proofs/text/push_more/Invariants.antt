use Rattle.std.proofs.Common.{◌≡◌, ◌++◌, length, flat_map, codes, string_bytes}
use Rattle.hd_explain.specs.Texts.{reading_text}
use Rattle.hd_explain.proofs.text.push_more.Given as goal

-- the text so far, and that of the rest
abbrev pub invariant-loop-rest : goal.invariant-loop-rest
invariant-loop-rest l =
    string_bytes l.text ++ flat_map (λ x. codes ", " ++ reading_text l.task x) l.rest
    ≡ string_bytes l.fn.text ++ flat_map (λ x. codes ", " ++ reading_text l.task x) l.readings

abbrev pub decreases-loop-rest : goal.decreases-loop-rest
decreases-loop-rest l = length l.rest
