use Rattle.std.proofs.Common.{◌≡◌, ◌++◌, take, flat_map, string_bytes}
use Rattle.hd_plan.specs.Texts.{object_text}
use Rattle.hd_explain.proofs.text.push_objects.Given as goal

abbrev pub invariant-loop-object : goal.invariant-loop-object
invariant-loop-object l = string_bytes l.text ≡ string_bytes l.initial.text ++ flat_map (object_text l.task.objects) (take l.object-index l.objects)
