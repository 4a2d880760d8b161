use Rattle.std.proofs.Common.{◌≡◌, ap, ◌∙◌}
use Rattle.hd_entries.specs.Settling.{BookState}
use Rattle.hd_entries.specs.Resuming.{resumed_state}
use Rattle.hd_entries.proofs.Entering.{again_from}
use Rattle.hd_book.specs.View.{BookView}
use Rattle.hd_recovery.specs.Recovered.{closed_in, open_nodes, team}
use Rattle.hd_recovery.proofs.recovering.workers_of.Goals as goal

pub open_all-requires-clause-again : goal.open_all-requires-clause-again
open_all-requires-clause-again g c =
    again_from c.args.task.now c.requires.book.1 c.args.book.now.state (ap (λ (v : BookView). v.state) c.requires.book.2)

pub returns : goal.returns
returns g c = λ most entries is.
    let t = c.args.task.now in
    let n = c.args.count in
    let b = c.args.book.now.state in
    let state : b ≡ resumed_state t entries = ap (λ (v : BookView). v.state) is in
    c.in_ok-open_all.ensures (closed_in b) c.in_ok-close_all.ensures
    ∙ ap (λ (s : BookState). team s.task n (closed_in s) (open_nodes s.task s.entries)) state
