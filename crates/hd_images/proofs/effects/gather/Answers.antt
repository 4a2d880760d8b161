use Rattle.std.proofs.Common.{◌∙◌, ℕ, Some, sym, ap}
use Rattle.std.specs.Prelude.{nat_eq, if◌then◌else◌}
use Rattle.std.specs.BTreeMap.{get}
use Rattle.std.specs.Ordering.{nat_cmp}
use Rattle.std.proofs.lemmas.Result.{IfOk-weaker}
use Rattle.hd_base.specs.declared.expression.Operand.{Operand}
use Rattle.hd_base.specs.Expression.{Expression}
use Rattle.hd_images.specs.Gathering.{change_with}
use Rattle.hd_images.proofs.Gathered.{change_at-put, change_at-none}
use Rattle.hd_images.proofs.effects.gather.Goals as goal

pub returns-in_ok-amount-in-Some : goal.returns-in_ok-amount-in-Some
returns-in_ok-amount-in-Some c =
    let e = c.args.effect.now in
    let k = c.in-Some.number in
    let amount = c.in_ok-amount-in-Some.ensures in
    IfOk-weaker c.put.result _ _
    (λ _ h n.
    let old = get nat_cmp c.args.changes.now n in
    change_at-put c.args.fluents.now c.args.objects.now e k n old _ c.are_rising.ensures (sym c.is_cost.ensures ∙ c.if-is_cost.false)
    (sym c.in_ok-number.ensures ∙ c.in-Some.is)
    (h n ∙ ap (λ (x : Expression (Operand ℕ)). if nat_eq k n then Some (change_with old e.change x) else old) amount))
    c.put.ensures

pub returns-in-None : goal.returns-in-None
returns-in-None c = λ n.
    change_at-none c.args.fluents.now c.args.objects.now c.args.effect.now n _ (sym c.in_ok-number.ensures ∙ c.in-None.is)
