use Rattle.std.proofs.Common.{◌∙◌, sym, arith}
use Rattle.hd_lifted.specs.Met.{met_by_comparison}
use Rattle.hd_judge.proofs.Finding.{undefined_found}
use Rattle.hd_judge.proofs.undefined.undefined_comparisons.Goals as goal

pub returns-in-Some : goal.returns-in-Some
returns-in-Some c =
    sym (undefined_found c.args.lookups.now (met_by_comparison c.args.objects.now) c.args.said.now c.loop-comparison.comparison-index c.comparison-item.result c.in-Some.fluent (omega arith)
    c.comparison-item.is c.loop-comparison.invariant (sym c.in-Some.is ∙ c.in_ok-fluent.ensures))
