-- Problems are read by their rule.
use Rattle.hd_pddl.specs.Problem.{IsProblem}
use Rattle.hd_pddl.specs.Reading.{problem_of}
use Rattle.hd_pddl.proofs.CompleteProblem.{problem_of-IsProblem}
use Rattle.hd_pddl.proofs.SoundProblem.{IsProblem-problem_of}
use Rattle.hd_forms.proofs.Whole.{IsReadBy}

pub IsReadBy-problem_of : IsReadBy IsProblem problem_of
IsReadBy-problem_of = record { complete = λ f t says. problem_of-IsProblem says; sound = IsProblem-problem_of }
