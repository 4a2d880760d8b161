use Rattle.std.proofs.Common.{ap, subst}
use Rattle.std.specs.Prelude.{IfErr}
use Rattle.hplan.specs.Migrating.{AreNotMoved, moving}
use Rattle.hplan.proofs.Moving.{not_moved, not_read}
use Rattle.hplan.proofs.migrating.migration.Goals as goal

pub returns-in-Err-clause-refusal : goal.returns-in-Err-clause-refusal
returns-in-Err-clause-refusal g c =
    not_read c.args.domain.now c.args.problem.now c.args.extent c.args.from.now c.args.to.now _ _ _ c.in-Err.fault c.in-Err.ensures.refusal
    (ap (λ p. g.P.Places.file_of p c.args.to.now) c.kids_of.ensures.alone)

pub returns-in-Ok-clause-refusal : goal.returns-in-Ok-clause-refusal
returns-in-Ok-clause-refusal g c =
    let from = c.args.from.now in
    let to = c.args.to.now in
    not_moved c.args.domain.now c.args.problem.now _ c.write_entries-told.result
    (subst
    (λ p. IfErr c.write_entries-told.result (AreNotMoved c.args.domain.now c.args.problem.now
    (moving c.args.extent from to (g.P.Places.file_of p from) (g.P.Places.file_of p to) (g.P.Places.file_of c.write_entries-told.new.places to))))
    c.kids_of.ensures.alone c.write_entries-told.ensures.refusal)
