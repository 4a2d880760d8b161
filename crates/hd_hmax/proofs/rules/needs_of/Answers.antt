use Rattle.std.proofs.Common.{◌≡◌, ◌∷◌, [], length, ap, ◌∙◌, arith, length-append}
use Rattle.hd_hmax.specs.Rules.{needs}
use Rattle.hd_hmax.proofs.Compiling.{needs_by, needs_through}
use Rattle.hd_hmax.proofs.rules.needs_of.Goals as goal

pub loop-rule-preserved : goal.loop-rule-preserved
loop-rule-preserved c =
    let t = c.args.task.now in
    let f = c.loop-rule.invariant in
    let r = c.loop-rule.rule in
    let more = c.in_ok-push.ensures in
    let is : c.as_slice.result.now ≡ needs t r =
    c.as_slice.ensures.value ∙ (c.in_ok-row.ensures ∙ needs_by t r c.atoms_of-atoms.result c.asked_by.result.now c.atoms_of-atoms.ensures.count c.asked_by.ensures)
    in
    record {
      many = let a = ap length more in let b = length-append c.loop-rule.rows (c.as_slice.result.now ∷ []) in let d = f.many in omega (arith, a, b, d);
      each = needs_through t c.loop-rule.rows c.push.new.self c.as_slice.result.now r f.many more is f.each;
    }
