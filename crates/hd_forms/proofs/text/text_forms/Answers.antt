use Rattle.std.proofs.Common.{◌≡◌, ◌<◌, [], vec_len, arith}
use Rattle.std.proofs.lemmas.List.{nil_from_length}
use Rattle.hd_forms.proofs.Nested.{nested-forms, nested-open}
use Rattle.hd_forms.proofs.text.text_forms.Goals as goal

pub returns-then-is_empty-clause-forms : goal.returns-then-is_empty-clause-forms
returns-then-is_empty-clause-forms c =
    let around = c.nest.new.around in
    let none : vec_len around ≡ 0 = grind arith in
    let nothing : around.items ≡ [] = nil_from_length around.items (omega (arith, around.ok.0, none)) in
    nested-forms c.args.text.now around c.nest.new.forms.items _ c.in-Ok.ensures.nested none nothing

pub returns-clause-refusal : goal.returns-clause-refusal
returns-clause-refusal c =
    let around = c.nest.new.around in
    let some : 0 < vec_len around = grind arith in
    nested-open c.args.text.now around c.nest.new.forms.items _ c.in-Ok.ensures.nested some
