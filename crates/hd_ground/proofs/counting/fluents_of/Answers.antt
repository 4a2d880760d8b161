use Rattle.std.proofs.Common.{arith, subst}
use Rattle.hd_grounding.specs.Faults.{met_by_all}
use Rattle.hd_images.specs.Meeting.{IsMet}
use Rattle.hd_ground.proofs.Limits.{numbers_fluents}
use Rattle.hd_ground.proofs.counting.fluents_of.Goals as goal

pub returns-in-Ok-of-clause-numbers : goal.returns-in-Ok-of-clause-numbers
returns-in-Ok-of-clause-numbers c =
    let met = c.in_ok-met.met in
    numbers_fluents c.args.lookups.now c.args.instances.now met c.in-Ok-of.numbers c.requires
    (subst (λ t. IsMet 65536 (met_by_all t c.args.instances.now) met) c.task.ensures c.in_ok-met.ensures)
    (omega (arith, c.if-len-gt-MAX_FLUENTS.false, c.len.ensures.len)) c.in-Ok-of.ensures.exactly
