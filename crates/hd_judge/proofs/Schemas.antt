-- Instances of a task, by what is tested.
use Rattle.std.proofs.Common.{◌≡◌, true, false, Some, None, slice_get, sym, ap, ◌∙◌, subst, true≢false}
use Rattle.std.proofs.lemmas.Option.{none-some, same_Some}
use Rattle.hd_lifted.specs.declared.schema.Schema.{Schema}
use Rattle.hd_lifted.specs.declared.task.LiftedTask.{LiftedTask}
use Rattle.hd_lifted.specs.declared.instance.Instance.{Instance}
use Rattle.hd_lifted.specs.Objects.{AreOfTypes}
use Rattle.hd_lifted.specs.Effects.{effects_clash}
use Rattle.hd_lifted.specs.Plans.{IsInstance}

pub is_instance : (t : LiftedTask) (i : Instance) (a : Schema) → slice_get t.schemas i.schema ≡ Some a → AreOfTypes t i.objects a.parameters
    → effects_clash i.objects a.effects ≡ false → IsInstance t i
is_instance t i a is typed compatible = record { schema = a; is_schema = is; typed = typed; compatible = compatible }

pub no_schema : (t : LiftedTask) (i : Instance) → slice_get t.schemas i.schema ≡ None → IsInstance t i → ⊥
no_schema t i none is = none-some is.schema (sym none ∙ is.is_schema)

pub not_typed : (t : LiftedTask) (i : Instance) (a : Schema) → slice_get t.schemas i.schema ≡ Some a → (AreOfTypes t i.objects a.parameters → ⊥) → IsInstance t i → ⊥
not_typed t i a at not is = not (subst (λ (b : Schema). AreOfTypes t i.objects b.parameters) (same_Some is.schema a (sym is.is_schema ∙ at)) is.typed)

pub not_compatible : (t : LiftedTask) (i : Instance) (a : Schema) → slice_get t.schemas i.schema ≡ Some a → effects_clash i.objects a.effects ≡ true → IsInstance t i → ⊥
not_compatible t i a at clash is =
    true≢false (sym clash ∙ (ap (λ (b : Schema). effects_clash i.objects b.effects) (same_Some a is.schema (sym at ∙ is.is_schema)) ∙ is.compatible))
