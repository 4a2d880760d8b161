use Rattle.std.proofs.Common.{length, sym, ◌∙◌}
use Rattle.std.proofs.lemmas.Bool.{eqb-true}
use Rattle.hd_hmax.proofs.Lanes.{no_literals, no_goal, from_not}
use Rattle.hd_hmax.proofs.rules.Rules.has_goal.Goals as goal

pub returns : goal.returns
returns c none s =
    let t = c.args.self.now.task.now in
    no_goal t s (no_literals t.goal.literals (eqb-true (length t.goal.literals) 0 (sym c.is_empty.ensures ∙ from_not c.is_empty.result none)))
