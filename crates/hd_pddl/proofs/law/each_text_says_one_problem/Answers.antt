use Rattle.hd_pddl.proofs.Problems.{IsReadBy-problem_of}
use Rattle.hd_forms.proofs.Whole.{one_tree}
use Rattle.hd_pddl.proofs.law.each_text_says_one_problem.Goals as goal

pub returns : goal.returns
returns c = one_tree IsReadBy-problem_of
