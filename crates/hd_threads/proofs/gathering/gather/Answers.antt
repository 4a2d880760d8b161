use Rattle.std.proofs.Common.{sym, subst}
use Rattle.std.specs.List.{All}
use Rattle.hd_desk.specs.Passes.{IsSeenIn}
use Rattle.hd_book.specs.View.{BookView}
use Rattle.hd_threads.proofs.gathering.gather.Goals as goal

pub returns-clause-all_seen : goal.returns-clause-all_seen
returns-clause-all_seen g c =
    subst (λ (b : BookView). All (IsSeenIn b.state.task b.state.entries) c.args.passes.items) (sym c.audit-commits.ensures.same) c.gather-book.ensures.all_seen
