use Rattle.std.proofs.Common.{◌≡◌, ◌++◌, take, flat_map, string_bytes}
use Rattle.hd_plan.specs.Texts.{object_text}
use Rattle.hd_plan.proofs.texts.push_objects.Given as goal

abbrev pub invariant-loop-number : goal.invariant-loop-number
invariant-loop-number l = string_bytes l.text ≡ string_bytes l.initial.text ++ flat_map (object_text l.objects) (take l.number-index l.numbers)
