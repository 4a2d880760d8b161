use Rattle.std.proofs.Common.{◌≡◌, sym, ◌∙◌}
use Rattle.hd_search.specs.Fault.{EndsAsWorker}
use Rattle.hd_search.proofs.Ordering.{ends_in_order}
use Rattle.hd_search.proofs.Stopping.{all_by_places}
use Rattle.hd_search.proofs.starting.join_all.Goals as goal

pub returns-in-Ok-clause-order : goal.returns-in-Ok-clause-order
returns-in-Ok-clause-order g c =
    let joined = c.in-Ok.ensures in
    λ order.
    ends_in_order c.args.threads.items c.in-Ok.ends.items 0 _ (sym c.in-Ok.ends.ok.0 ∙ joined.len) c.args.threads.ok.0 order
    (λ i d below. record { handle = (joined.each i d below).1.handle; handle_is = (joined.each i d below).1.handle_is; id = (joined.each i d below).1.kept.0 })

pub returns-in-Ok-clause-told : goal.returns-in-Ok-clause-told
returns-in-Ok-clause-told g c =
    let joined = c.in-Ok.ensures in
    all_by_places EndsAsWorker c.in-Ok.ends.items _ (sym c.in-Ok.ends.ok.0 ∙ joined.len) (λ i d below. (joined.each i d below).1.kept.1)
