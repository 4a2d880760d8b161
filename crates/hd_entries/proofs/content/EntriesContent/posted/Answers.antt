use Rattle.std.proofs.Common.{◌∙◌, List, length, ap, arith}
use Rattle.hd_task.specs.declared.plan.Kid.{Kid}
use Rattle.hd_entries.specs.Settling.{expansions}
use Rattle.hd_entries.specs.Holding.{state_of}
use Rattle.hd_entries.proofs.After.{posted_small}
use Rattle.hd_entries.proofs.Naming.{posted_count}
use Rattle.hd_entries.proofs.Held.{short}
use Rattle.hd_entries.proofs.content.EntriesContent.posted.Goals as goal

pub returns-clause-posted : goal.returns-clause-posted
returns-clause-posted c =
    let s = c.args.self.now in
    c.posted.ensures.posted
    ∙ (ap (λ (ks : List Kid). length ks) c.requires.held.posts.posted
    ∙ posted_count s.expanded.task.now (expansions (state_of s)) (short s.expanded c.requires.held.plans))

pub returns-clause-few : goal.returns-clause-few
returns-clause-few c =
    let s = c.args.self.now in
    let posted = returns-clause-posted c in
    omega (arith, posted, posted_small s.expanded.task.now (expansions (state_of s)) (short s.expanded c.requires.held.plans))
