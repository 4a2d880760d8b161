use Rattle.std.proofs.Common.{◌≡◌, subst, IfOk, IfErr}
use Rattle.hd_lifted.specs.Types.{IsOnCycle, IsAcyclic}
use Rattle.hd_names.proofs.Cycles.{cycle_listed}
use Rattle.hd_names.proofs.types.hierarchy_of.Goals as goal

pub cycle_among-requires-clause-listed : goal.cycle_among-requires-clause-listed
cycle_among-requires-clause-listed c =
    let told : IsOnCycle c.in_ok-parents.parents.items c.in-Err.number =
    subst (λ answer. IfErr answer (IsOnCycle c.in_ok-parents.parents.items)) c.in-Err.is c.in_ok-hierarchy.ensures.on_cycle in
    cycle_listed c.args.listed.now c.in-Err.number (subst (λ ps. IsOnCycle ps c.in-Err.number) c.in_ok-parents.ensures told)

pub returns-in-Ok : goal.returns-in-Ok
returns-in-Ok c =
    let made : c.in-Ok.hierarchy ≡ c.in_ok-parents.parents.items =
    subst (λ answer. IfOk answer (λ types. types ≡ c.in_ok-parents.parents.items)) c.in-Ok.is c.in_ok-hierarchy.ensures.made in
    let acyclic : IsAcyclic c.in_ok-parents.parents.items =
    subst (λ answer. IfOk answer (λ _. IsAcyclic c.in_ok-parents.parents.items)) c.in-Ok.is c.in_ok-hierarchy.ensures.acyclic in
    (rw made c.in_ok-parents.ensures, subst IsAcyclic c.in_ok-parents.ensures acyclic)
