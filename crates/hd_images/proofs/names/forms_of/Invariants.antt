use Rattle.std.proofs.Common.{◌≡◌, map, take}
use Rattle.hd_grounding.specs.Grounding.{form_of}
use Rattle.hd_images.proofs.names.forms_of.Given as goal

abbrev pub invariant-loop-form : goal.invariant-loop-form
invariant-loop-form l = l.forms.items ≡ map form_of (take l.form-index l.numbers)
