use Rattle.std.proofs.Common.{◌≡◌, length}
use Rattle.hd_plan.specs.Reading.{args_of, token_words, behind_args}
use Rattle.hd_plan.proofs.step.args_of.Given as goal

-- the names so far, and then those of the rest
abbrev pub invariant-loop-rest : goal.invariant-loop-rest
invariant-loop-rest l = args_of (token_words l.tokens) ≡ behind_args l.args.items (args_of (token_words l.rest))

abbrev pub decreases-loop-rest : goal.decreases-loop-rest
decreases-loop-rest l = length l.rest
