use Rattle.std.proofs.Common.{rules, ℤ, sym, ap, ◌∙◌, to_z}
use Rattle.std.specs.Prelude.{unwrap_or}
use Rattle.std.specs.Int.{w64}
use Rattle.std.proofs.lemmas.Int.{to_z-of_z}
use Rattle.hd_pack.proofs.Steps.{read_or, value_stays}
use Rattle.hd_pack.proofs.leading.set_fluent.Goals as goal

pub returns-then-before-value-clause-state : goal.returns-then-before-value-clause-state
returns-then-before-value-clause-state c =
    let value = to_z-of_z w64 c.args.value c.ranges.value in
    let before = to_z-of_z w64 c.unwrap_or-before.result (search rules) in
    value_stays c.args.state.now c.args.fluent c.args.value c.unwrap_or-before.result
    (read_or c.args.state.now.fluents c.args.fluent c.fluent.result c.args.value c.unwrap_or-before.result c.fluent.ensures
    (c.unwrap_or-before.ensures ∙ ap (λ (v : ℤ). unwrap_or c.fluent.result v) value))
    (sym before ∙ (ap (to_z w64) c.if-before-value.true ∙ value))
