use Rattle.std.proofs.Common.{sym, subst}
use Rattle.hd_threads.proofs.Surviving.{kept_log}
use Rattle.hd_threads.specs.Surviving.{IsLegalLog}
use Rattle.hd_threads.proofs.committing.acknowledge.Goals as goal

pub returns-clause-legal : goal.returns-clause-legal
returns-clause-legal g c =
    subst (λ v. IsLegalLog v.seen.task v.seen.log) (sym c.leave.ensures.view)
    (kept_log c.acknowledge-done.new.self.state c.acknowledge-done.ensures.kept)
