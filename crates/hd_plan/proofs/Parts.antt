-- Bytes that a writer takes in parts.
use Rattle.std.proofs.Common.{◌≡◌, ℕ, ◌+◌, ◌-◌, List, [], ◌++◌, Option, None, Some, flat_map, length, take, drop, length-append, sym, ap, subst, ◌∙◌, arith}
use Rattle.std.proofs.Math.Seq.{take-add}
use Rattle.std.proofs.KnownBytes.{Appends-trans}
use Rattle.std.specs.Io.KnownBytes.{Keeps, Appends}
use Rattle.std.proofs.lemmas.List.{append-nil, take_rest}
use Rattle.hd_plan.specs.declared.step.Step.{Step}
use Rattle.hd_plan.specs.Output.{AppendsShort}
use Rattle.hd_plan.specs.PlanText.{step_line, cost_line, plan_text}

-- a part of the rest, after those that were written before
pub part_appended : (old mid new : Option (List ℕ)) (bytes : List ℕ) (done n : ℕ)
    → Appends old mid (take done bytes) → Appends mid new (take n (take (length bytes - done) (drop done bytes)))
    → Appends old new (take (done + n) bytes)
part_appended old mid new bytes done n before now =
    let rest : take n (take (length bytes - done) (drop done bytes)) ≡ take n (drop done bytes) = ap (take n) (take_rest bytes done) in
    let joined : take done bytes ++ take n (take (length bytes - done) (drop done bytes)) ≡ take (done + n) bytes =
    ap (λ x. take done bytes ++ x) rest ∙ sym (take-add done n bytes) in
    subst (Appends old new) joined (Appends-trans old mid new _ _ before now)

keeps_none : (old new : Option (List ℕ)) → Keeps old new → Appends old new []
keeps_none None new k = tt
keeps_none (Some xs) None k = k
keeps_none (Some xs) (Some ys) k = k ∙ sym (append-nil xs)

-- a plan's text is never empty: if nothing was written, that is not all
pub nothing_appended : (old new : Option (List ℕ)) (steps : List Step) (cost : ℕ) → Keeps old new → AppendsShort old new (plan_text steps cost)
nothing_appended old new steps cost k =
    (0, omega (arith, length-append (flat_map step_line steps) (cost_line cost)), keeps_none old new k)
