use Rattle.std.proofs.Common.{◌≡◌, ◌∷◌, take}
use Rattle.hd_check.proofs.keys.form_key.Given as goal

abbrev pub invariant-loop-object : goal.invariant-loop-object
invariant-loop-object l = l.key.items ≡ l.fluent.symbol ∷ take l.object-index l.fluent.objects
