use Rattle.std.proofs.Common.{◌≡◌, ◌∙◌, ◌++◌, ◌∷◌, [], List, length, get_or, ap, ap₂, sym, Option, SFits, pos, rules, arith}
use Rattle.std.specs.Prelude.{unwrap_or, ℤ}
use Rattle.std.specs.Int.{w64}
use Rattle.std.proofs.lemmas.Int.{to_z-of_z}
use Rattle.hd_lifted.specs.declared.schema.Ground.{Ground}
use Rattle.hd_lifted.specs.States.{first_value}
use Rattle.hd_images.proofs.Starting.{map_more}
use Rattle.hd_images.proofs.start.values_of.Goals as goal

pub loop-fluent-preserved : goal.loop-fluent-preserved
loop-fluent-preserved c =
    let values = c.args.lookups.now.values in
    let fluents = c.args.fluents.now in
    let g = c.fluent-item.result in
    let i = c.loop-fluent.fluent-index in
    let fits : SFits w64 c.unwrap_or.result = search rules in
    let value : c.unwrap_or.result ≡ unwrap_or (first_value values g) (pos 0) =
    c.unwrap_or.ensures ∙ ap (λ (o : Option ℤ). unwrap_or o (pos 0)) c.first_value_of.ensures in
    c.in_ok-push.ensures.items
    ∙ (ap₂ (λ (vs : List ℤ) (v : ℤ). vs ++ v ∷ []) c.loop-fluent.invariant (to_z-of_z w64 c.unwrap_or.result fits ∙ value)
    ∙ sym (map_more (λ (g : Ground). unwrap_or (first_value values g) (pos 0)) fluents i g (omega (arith, ap length c.as_slice-fluent-items.ensures))
    (c.fluent-item.is ∙ ap (λ (gs : List Ground). get_or gs i g) c.as_slice-fluent-items.ensures)))
