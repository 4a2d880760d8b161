use Rattle.std.proofs.Common.{◌≡◌, ◌≤◌, ◌^◌, ◌++◌, ◌∷◌, [], ℕ, List, map, length, get_or, All, sym, ap, ap₂, ◌∙◌, subst, arith}
use Rattle.std.proofs.lemmas.List.{length-map}
use Rattle.std.proofs.lemmas.List.Elements.{All-push}
use Rattle.hd_task.specs.declared.action.Action.{Action}
use Rattle.hd_hmax.specs.Prices.{price}
use Rattle.hd_hmax.specs.Rules.{brings_of}
use Rattle.hd_hmax.specs.Batches.{AreBatches}
use Rattle.hd_hmax.proofs.Following.{brings_many}
use Rattle.hd_hmax.proofs.Places.{price_there}
use Rattle.hd_hmax.proofs.rules.Rules.of.Goals as goal

pub of-requires-clause-needs : goal.of-requires-clause-needs
of-requires-clause-needs c =
    let t = c.args.task.now in
    let same = ap length (c.as_slice-2.ensures.value ∙ c.in_ok-prices.ensures.prices) ∙ length-map t.actions (price t) in
    let many = c.in_ok-needs.ensures.many in
    omega (arith, same, many)

pub of-requires-clause-brings : goal.of-requires-clause-brings
of-requires-clause-brings c =
    let t = c.args.task.now in
    let same = ap length (c.as_slice-2.ensures.value ∙ c.in_ok-prices.ensures.prices) ∙ length-map t.actions (price t) in
    let atoms = c.atoms_of-atoms.ensures.count in
    let many = brings_many t c.in_ok-askers.askers c.in_ok-brings.brings (c.in_ok-brings.ensures ∙ ap₂ (λ (n : ℕ) (actions : List Action). map (brings_of n c.in_ok-askers.askers) actions) atoms c.as_slice.ensures) in
    omega (arith, same, many)

pub invariant_of-result : goal.invariant_of-result
invariant_of-result c =
    let prices = c.in_ok-prices.prices.items in
    let atoms = c.atoms_of-atoms.ensures.count in
    let more = c.in_ok-push.ensures.items in
    let t = c.args.task.now in
    let each : c.push.new.self.items ≡ map (price t) t.actions ++ 0 ∷ [] = more ∙ ap (λ (xs : List ℕ). xs ++ 0 ∷ []) c.in_ok-prices.ensures.prices in
    record {
      few = c.atoms_of-atoms.ensures.few;
      of_task = record {
        atoms = atoms;
        each_price = more ∙ ap (λ (xs : List ℕ). xs ++ 0 ∷ []) c.in_ok-prices.ensures.prices;
        small = subst (All (λ p. p ≤ 2 ^ 95)) (sym more) (All-push (λ p. p ≤ 2 ^ 95) prices 0 c.in_ok-prices.ensures.small (omega arith));
        transposed = c.in_ok-askers.ensures;
        brought = c.in_ok-brings.ensures ∙ ap₂ (λ (n : ℕ) (actions : List Action). map (brings_of n c.in_ok-askers.askers) actions) atoms c.as_slice.ensures;
      };
      asks = c.in_ok-needs.ensures;
      paid = λ e q h. let k = c.some_free-has_free.ensures e q (let same = c.len.ensures in omega (arith, h, same)) in let there = ap (λ (xs : List ℕ). get_or xs q 0) (c.as_slice-4.ensures.value ∙ each) ∙ price_there t t.actions q in omega (arith, k, there);
      batched =
          ∣ subst (λ n. AreBatches c.in_ok-needs.needs c.in_ok-brings.brings (map (price t) t.actions) n c.in_ok-batches.batches.recipes.items c.in_ok-batches.batches.rest.items) (length-map t.actions (price t))
          (subst (λ (xs : List ℕ). AreBatches c.in_ok-needs.needs c.in_ok-brings.brings xs (length xs) c.in_ok-batches.batches.recipes.items c.in_ok-batches.batches.rest.items) (c.as_slice-3.ensures.value ∙ c.in_ok-prices.ensures.prices) c.in_ok-batches.ensures) ∣₁;
    }
