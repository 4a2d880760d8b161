use Rattle.std.proofs.Common.{List, ℕ, subst}
use Rattle.std.specs.Prelude.{IfErr, IfOk}
use Rattle.hplan.specs.declared.certifying.Certificate.{Certificate}
use Rattle.hplan.specs.Certifying.{IsToldBy, ShowsNothing}
use Rattle.hplan.proofs.Certificates.{certificate_by, fails_on_file, file_untold, not_read, of_file}
use Rattle.hplan.proofs.certifying.certificate_of.Goals as goal

pub returns-in-Err-clause-refusal : goal.returns-in-Err-clause-refusal
returns-in-Err-clause-refusal g c =
    not_read c.args.domain.now c.args.problem.now (g.P.Places.file_of c.args.places.now c.args.name.now) c.in-Err.fault c.in-Err.ensures.refusal

pub returns-clause-found : goal.returns-clause-found
returns-clause-found g c =
    let read = c.in-Ok in
    certificate_by c.args.domain.now c.args.problem.now read.read.task read.ensures.task read.read.digest
    (g.P.Places.file_of c.args.places.now c.args.name.now) c.told_in-told.result read.ensures.digest
    (of_file (g.P.Places.file_of c.args.places.now c.args.name.now) read.read.content.items
    (λ (x : Certificate) (content : List ℕ). IsToldBy read.read.task read.read.digest content x.is_certified x.text.items) c.told_in-told.result
    read.ensures.content
    (subst (λ (content : List ℕ). IfOk c.told_in-told.result (λ x. IsToldBy read.read.task read.read.digest content x.is_certified x.text.items))
    c.deref.ensures.value c.told_in-told.ensures.told))

pub returns-clause-refusal : goal.returns-clause-refusal
returns-clause-refusal g c =
    let read = c.in-Ok in
    file_untold c.args.domain.now c.args.problem.now read.read.task read.ensures.task read.read.digest
    (g.P.Places.file_of c.args.places.now c.args.name.now) c.told_in-told.result read.ensures.digest
    (fails_on_file (g.P.Places.file_of c.args.places.now c.args.name.now) read.read.content.items
    (ShowsNothing read.read.task read.read.digest) c.told_in-told.result read.ensures.content
    (subst (λ (content : List ℕ). IfErr c.told_in-told.result (ShowsNothing read.read.task read.read.digest content)) c.deref.ensures.value
    c.told_in-told.ensures.refusal))
