use Rattle.std.proofs.Common.{ap}
use Rattle.crossbeam_queue.specs.Passes.{view}
use Rattle.hd_threads.proofs.Redeeming.{given_in, asked_in}
use Rattle.hd_threads.proofs.working.redeem_inside.Goals as goal

pub returns-clause-given : goal.returns-clause-given
returns-clause-given g c =
    let x = c.redeem-given.ensures in
    given_in (view c.args.pass.now).seen.task (view c.leave.new.pass).seen.log c.args.ticket c.in-Some.book c.redeem-given.new.self c.redeem-given.result
    c.in-Some.ensures.task (ap (λ v. v.seen.log) c.leave.ensures.view) x.given x.released x.redeemed x.err

pub returns-clause-asked : goal.returns-clause-asked
returns-clause-asked g c waits =
    let x = c.redeem-given.ensures in
    asked_in (view c.args.pass.now).seen.task (view c.leave.new.pass).seen.log c.args.ticket c.in-Some.book c.redeem-given.new.self c.redeem-given.result
    c.in-Some.ensures.task (ap (λ v. v.seen.log) c.leave.ensures.view) x.given x.released x.redeemed x.err
