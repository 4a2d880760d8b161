use Rattle.std.proofs.Common.{◌∙◌, ap, subst, sym}
use Rattle.hd_lifted.specs.Types.{IsRooted, is_subtype}
use Rattle.hd_lifted.proofs.Types.{is_subtype-decided}
use Rattle.hd_lifted.proofs.hierarchy.Hierarchy.is_subtype.Goals as goal

pub returns-clause-test : goal.returns-clause-test
returns-clause-test c =
    let seen = c.as_slice.result.now in
    let decided = is_subtype-decided seen c.args.lower c.args.upper c.leads_to.result
    (subst IsRooted (sym c.as_slice.ensures.value) c.self.invariant.0) c.leads_to.ensures.yes c.leads_to.ensures.no in
    decided ∙ ap (λ parents. is_subtype parents c.args.lower c.args.upper) (c.as_slice.ensures.value ∙ c.self.view_is)
