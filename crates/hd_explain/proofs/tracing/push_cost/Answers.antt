use Rattle.std.proofs.Common.{◌≡◌, ◌++◌, Option, string_bytes, rules, subst, sym}
use Rattle.std.specs.Prelude.{ℤ, OnOk}
use Rattle.hd_explain.specs.Traces.{number_text}
use Rattle.hd_explain.proofs.tracing.push_cost.Goals as goal

pub returns : goal.returns
returns c =
    subst (λ (cost : Option ℤ). OnOk c.write.result (string_bytes c.write.new.self ≡ string_bytes c.args.text.now ++ number_text cost))
    (sym c.cost-cost.ensures) (search rules)
