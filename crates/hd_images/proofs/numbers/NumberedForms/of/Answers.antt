use Rattle.std.proofs.Common.{◌≡◌, ◌∙◌, List, Contains, length, ap, subst, arith}
use Rattle.hd_lifted.specs.declared.schema.Ground.{Ground}
use Rattle.hd_lifted.specs.Numbering.{form_key, HasExactly}
use Rattle.hd_lifted.proofs.Sorted.{in_order}
use Rattle.hd_images.proofs.Tables.{one_form}
use Rattle.hd_images.proofs.numbers.NumberedForms.of.Goals as goal

pub invariant_of-result : goal.invariant_of-result
invariant_of-result c =
    let old : List Ground = c.forms.inside.table.keys in
    let new : List Ground = c.sort_unstable.new.self.keys in
    let counted : length old ≡ length c.args.forms = ap length c.forms.view_is in
    let ordered = in_order form_key one_form old new c.in_ok-sort_unstable.ensures.sorted c.sort_unstable.ensures.unique c.sort_unstable.ensures.reordered.2 in
    record { rising = ordered.rising; few = omega (arith, c.sort_unstable.ensures.reordered.1) }

pub returns-clause-exactly : goal.returns-clause-exactly
returns-clause-exactly c =
    let old : List Ground = c.forms.inside.table.keys in
    let new : List Ground = c.sort_unstable.new.self.keys in
    subst (λ (fs : List Ground). HasExactly (Contains fs) form_key new) c.forms.view_is
    (in_order form_key one_form old new c.in_ok-sort_unstable.ensures.sorted c.sort_unstable.ensures.unique c.sort_unstable.ensures.reordered.2)

pub returns-clause-as_many : goal.returns-clause-as_many
returns-clause-as_many c = c.sort_unstable.ensures.reordered.1 ∙ ap length c.forms.view_is
