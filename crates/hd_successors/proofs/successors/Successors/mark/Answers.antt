use Rattle.std.proofs.Common.{◌∙◌, ap, arith}
use Rattle.hd_successors.specs.Watching.{candidates}
use Rattle.hd_successors.specs.Successors.{SuccessorsView}
use Rattle.hd_successors.proofs.Rows.{written_over, marked_candidates}
use Rattle.hd_successors.proofs.successors.Successors.mark.Goals as goal

pub returns-clause-marked : goal.returns-clause-marked
returns-clause-marked c =
    marked_candidates c.self.inside.watches.watched c.args.state.now c.mark_candidates.new.marks _ (written_over c.self.inside.marks.len c.mark_candidates.new.marks c.self.inside.marks.items (omega arith)) c.mark_candidates.ensures
    ∙ ap (λ (v : SuccessorsView). candidates v.watched c.args.state.now) c.self.view_is
