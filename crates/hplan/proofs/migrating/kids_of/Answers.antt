use Rattle.std.proofs.Common.{List, ℕ}
use Rattle.hplan.specs.declared.migrating.NamedKids.{NamedKids}
use Rattle.hplan.specs.Migrating.{IsNamedIn, NamesNothing}
use Rattle.hplan.proofs.Certificates.{fails_on_file, of_file}
use Rattle.hplan.proofs.Moving.{kids_not_read, read_by, unread_by}
use Rattle.hplan.proofs.migrating.kids_of.Goals as goal

pub returns-in-Err-clause-refusal : goal.returns-in-Err-clause-refusal
returns-in-Err-clause-refusal g c =
    kids_not_read c.args.domain.now c.args.problem.now c.args.extent (g.P.Places.file_of c.args.places.now c.args.name.now) c.in-Err.fault c.in-Err.ensures.refusal

pub returns-clause-read : goal.returns-clause-read
returns-clause-read g c =
    let read = c.in-Ok in
    read_by c.args.domain.now c.args.problem.now read.read.task read.ensures.task read.read.digest c.args.extent
    (g.P.Places.file_of c.args.places.now c.args.name.now) c.named_in-named.result read.ensures.digest
    (of_file (g.P.Places.file_of c.args.places.now c.args.name.now) read.read.content.items
    (λ (n : NamedKids) (content : List ℕ). IsNamedIn read.read.task read.read.digest c.args.extent content n.dropped n.kids.items) c.named_in-named.result
    read.ensures.content c.named_in-named.ensures.named)

pub returns-clause-refusal : goal.returns-clause-refusal
returns-clause-refusal g c =
    let read = c.in-Ok in
    unread_by c.args.domain.now c.args.problem.now read.read.task read.ensures.task read.read.digest c.args.extent
    (g.P.Places.file_of c.args.places.now c.args.name.now) c.named_in-named.result read.ensures.digest
    (fails_on_file (g.P.Places.file_of c.args.places.now c.args.name.now) read.read.content.items (NamesNothing read.read.task read.read.digest c.args.extent)
    c.named_in-named.result read.ensures.content c.named_in-named.ensures.refusal)
