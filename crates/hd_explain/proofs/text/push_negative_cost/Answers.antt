use Rattle.std.proofs.Common.{◌≡◌, ◌++◌, codes, string_bytes, subst, SFits, rules}
use Rattle.std.specs.Prelude.{ℤ, OnOk}
use Rattle.std.specs.Int.{w128}
use Rattle.std.specs.Fmt.{signed_decimal}
use Rattle.std.proofs.lemmas.Int.{to_z-of_z}
use Rattle.hd_explain.proofs.text.push_negative_cost.Goals as goal

pub returns : goal.returns
returns c =
    let fits : SFits w128 c.args.value = search rules in
    subst (λ (z : ℤ). OnOk c.push_between.result (string_bytes c.push_between.new.text ≡ string_bytes c.args.text.now
    ++ (codes "the cost of the step is " ++ signed_decimal z ++ codes ", less than 0")))
    (to_z-of_z w128 c.args.value fits) c.push_between.ensures
