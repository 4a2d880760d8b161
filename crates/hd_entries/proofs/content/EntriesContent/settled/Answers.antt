use Rattle.std.proofs.Common.{arith}
use Rattle.std.proofs.lemmas.List.Sums.{count_by-le-length}
use Rattle.hd_entries.proofs.content.EntriesContent.settled.Goals as goal

pub returns-clause-few : goal.returns-clause-few
returns-clause-few c =
    let s = c.args.self.now in
    omega (arith, c.settled.ensures.settled, count_by-le-length (λ m. m) s.kids.marks, c.requires.held.kept.marked.one_each)
