use Rattle.std.proofs.Common.{List, ℕ, subst}
use Rattle.std.specs.Prelude.{IfErr, IfOk}
use Rattle.hplan.specs.Surveying.{IsSurveyedIn, TellsNothing}
use Rattle.hplan.proofs.Certificates.{fails_on_file, of_file}
use Rattle.hplan.proofs.Surveys.{survey_by, file_untold, not_read}
use Rattle.hplan.proofs.surveying.survey_of.Goals as goal

pub returns-in-Err-clause-refusal : goal.returns-in-Err-clause-refusal
returns-in-Err-clause-refusal g c =
    not_read c.args.domain.now c.args.problem.now (g.P.Places.file_of c.args.places.now c.args.name.now) c.in-Err.fault c.in-Err.ensures.refusal

pub returns-clause-told : goal.returns-clause-told
returns-clause-told g c =
    let read = c.in-Ok in
    survey_by (λ v. v.items) c.args.domain.now c.args.problem.now read.read.task read.ensures.task read.read.digest
    (g.P.Places.file_of c.args.places.now c.args.name.now) c.surveyed_in-told.result read.ensures.digest
    (of_file (g.P.Places.file_of c.args.places.now c.args.name.now) read.read.content.items
    (λ v (content : List ℕ). IsSurveyedIn read.read.task read.read.digest content v.items) c.surveyed_in-told.result read.ensures.content
    (subst (λ (content : List ℕ). IfOk c.surveyed_in-told.result (λ v. IsSurveyedIn read.read.task read.read.digest content v.items))
    c.deref.ensures.value c.surveyed_in-told.ensures.told))

pub returns-clause-refusal : goal.returns-clause-refusal
returns-clause-refusal g c =
    let read = c.in-Ok in
    file_untold c.args.domain.now c.args.problem.now read.read.task read.ensures.task read.read.digest
    (g.P.Places.file_of c.args.places.now c.args.name.now) c.surveyed_in-told.result read.ensures.digest
    (fails_on_file (g.P.Places.file_of c.args.places.now c.args.name.now) read.read.content.items
    (TellsNothing read.read.task read.read.digest) c.surveyed_in-told.result read.ensures.content
    (subst (λ (content : List ℕ). IfErr c.surveyed_in-told.result (TellsNothing read.read.task read.read.digest content)) c.deref.ensures.value
    c.surveyed_in-told.ensures.refusal))
