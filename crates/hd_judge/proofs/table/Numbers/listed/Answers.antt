use Rattle.std.proofs.Common.{◌≡◌, ◌∙◌, ◌+◌, ◌-◌, ℕ, Some, cond, take, ap, ap₂, SFits, arith, rules}
use Rattle.std.specs.Prelude.{ℤ}
use Rattle.std.specs.Option.{option_or}
use Rattle.std.specs.Int.{w64}
use Rattle.std.proofs.lemmas.Int.{to_z-of_z}
use Rattle.hd_lifted.specs.declared.schema.Ground.{Ground}
use Rattle.hd_lifted.specs.States.{same, first_value}
use Rattle.hd_judge.specs.Tables.{value_in}
use Rattle.hd_judge.proofs.Putting.{first_value_put}
use Rattle.hd_judge.proofs.table.Numbers.listed.Goals as goal

pub loop-left-preserved : goal.loop-left-preserved
loop-left-preserved c =
    let listed = c.args.listed.now in
    let left = c.loop-left.left - 1 in
    let next : left + 1 ≡ c.loop-left.left = omega arith in
    let fits : SFits w64 c.index-listed-left.result.value = search rules in record {
      within = omega arith;
      stands = λ g.
          first_value_put listed left c.index-listed-left.result g (value_in c.loop-left.table g) (value_in c.set.new.self g) (omega arith) c.index-listed-left.is
          (c.in_ok-set.ensures g ∙ ap₂ (λ (h : Ground) (z : ℤ). cond (same h g) (Some z) (value_in c.loop-left.table g)) c.in_ok-copy_of.ensures (to_z-of_z w64 c.index-listed-left.result.value fits))
          ∙ (ap (λ (n : ℕ). option_or (first_value (take n listed) g) (value_in c.loop-left.table g)) next ∙ c.loop-left.invariant.stands g);
    }
