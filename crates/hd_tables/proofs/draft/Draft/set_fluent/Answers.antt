use Rattle.std.proofs.Common.{rules, ℤ, slice_get, sym, ap, ◌∙◌, to_z, of_z}
use Rattle.std.specs.Prelude.{unwrap_or}
use Rattle.std.specs.Int.{w64}
use Rattle.std.proofs.lemmas.Int.{to_z-of_z}
use Rattle.hd_task.specs.declared.state.State.{State}
use Rattle.hd_pack.proofs.Steps.{read_or, value_stays}
use Rattle.hd_tables.proofs.Writing.{value_there}
use Rattle.hd_tables.proofs.draft.Draft.set_fluent.Goals as goal

pub returns-then-before-value : goal.returns-then-before-value
returns-then-before-value c =
    let value = to_z-of_z w64 c.args.value c.ranges.value in
    let before = to_z-of_z w64 c.unwrap_or-before.result (search rules) in
    value_stays c.args.self.now c.args.fluent c.args.value c.unwrap_or-before.result
    (read_or c.args.self.now.fluents c.args.fluent c.fluent.result c.args.value c.unwrap_or-before.result (c.fluent.ensures ∙ ap (λ (s : State). slice_get s.fluents c.args.fluent) c.row.ensures)
    (c.unwrap_or-before.ensures ∙ ap (λ (v : ℤ). unwrap_or c.fluent.result v) value))
    (sym before ∙ (ap (to_z w64) c.if-before-value.true ∙ value))

pub put-requires : goal.put-requires
put-requires c =
    let value = to_z-of_z w64 c.args.value c.ranges.value in
    value_there c.args.self.now c.args.fluent c.args.value c.unwrap_or-before.result
    (read_or c.args.self.now.fluents c.args.fluent c.fluent.result c.args.value c.unwrap_or-before.result (c.fluent.ensures ∙ ap (λ (s : State). slice_get s.fluents c.args.fluent) c.row.ensures)
    (c.unwrap_or-before.ensures ∙ ap (λ (v : ℤ). unwrap_or c.fluent.result v) value))
    (λ same. c.if-before-value.false (ap (λ (v : ℤ). of_z w64 v) same))
