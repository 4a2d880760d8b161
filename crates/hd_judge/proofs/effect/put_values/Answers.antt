use Rattle.std.proofs.Common.{◌≡◌, ◌∙◌, ◌++◌, ◌&&◌, Option, Some, [], ◌∷◌, cond, is_some, sym, ap, true≢false, SFits, rules}
use Rattle.std.specs.Prelude.{ℤ, option_to_list}
use Rattle.std.specs.Int.{w128}
use Rattle.std.specs.Option.{option_or}
use Rattle.std.proofs.lemmas.Int.{to_z-of_z}
use Rattle.hd_base.specs.Numbers.{in_range}
use Rattle.hd_lifted.specs.declared.schema.Ground.{Ground}
use Rattle.hd_lifted.specs.States.{same}
use Rattle.hd_judge.specs.Tables.{value_in}
use Rattle.hd_judge.proofs.Putting.{fits_popped, put_popped, lookup_empty}
use Rattle.hd_judge.proofs.effect.put_values.Goals as goal

pub loop-fluent-preserved : goal.loop-fluent-preserved
loop-fluent-preserved c =
    let whole = c.loop-fluent.changes.values.entries in
    let front = c.pop.new.self.entries in
    let f = c.in-Some.fluent in
    let z = c.in-Some.value in
    let numbers = c.loop-fluent.numbers in
    let fits_z : SFits w128 z = search rules in
    let popped : whole ≡ front ++ (f, z) ∷ [] = c.pop.ensures.entries ∙ ap (λ (o : Option (Ground × ℤ)). front ++ option_to_list o) c.in-Some.is in
    record {
      fit = λ g. fits_popped whole front f z g popped (c.loop-fluent.invariant.fit g);
      put = λ g.
          put_popped whole front f z g (value_in numbers g) (value_in c.put_value.new.numbers g) popped (c.loop-fluent.invariant.fit g)
          (c.in_ok-put_value.ensures g ∙ ap (λ (x : ℤ). cond (in_range x && same f g) (Some x) (value_in numbers g)) (to_z-of_z w128 z fits_z))
          ∙ c.loop-fluent.invariant.put g;
    }

pub returns : goal.returns
returns c = λ g.
    let whole = c.loop-fluent.changes.values.entries in
    ap (λ (o : Option ℤ). option_or o (value_in c.loop-fluent.numbers g))
    (sym (lookup_empty (same g) whole (λ some. true≢false (sym (c.pop.ensures.found.1 some) ∙ ap is_some c.in_default.is))))
    ∙ c.loop-fluent.invariant.put g
