use Rattle.std.proofs.Common.{refl, sym, subst}
use Rattle.hd_entries.specs.declared.verdict.Verdict.TheVariants as verdicts
use Rattle.hd_entries.specs.Answers.{IsAnswerOf, IsTrueAnswer}
use Rattle.hd_replay.specs.declared.report.Says.TheVariants.{Optimal}
use Rattle.hd_replay.proofs.Said.{true_said}
use Rattle.hd_replay.proofs.saying.said_for.Goals as goal

pub returns-in-Some-clause-truth : goal.returns-in-Some-clause-truth
returns-in-Some-clause-truth g c =
    let b = c.args.book.now.state in
    true_said b (verdicts.Optimal c.in-Optimal.field-0) (Optimal c.in-Some.cost) (subst (IsAnswerOf b) c.in-Optimal.is c.requires.answer)
    (subst (IsTrueAnswer b.task) c.in-Optimal.is c.requires.truth) (c.in-Some.cost, sym c.in-Some.ensures, refl)
