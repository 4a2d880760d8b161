use Rattle.std.proofs.Common.{◌≡◌, subst, arith}
use Rattle.crossbeam_queue.specs.Passes.{view}
use Rattle.hd_threads.specs.declared.shared.Given.TheVariants.{Parcels, NotYet}
use Rattle.hd_threads.specs.Shared.{IsGivenBy, IsGivenIn}
use Rattle.hd_threads.proofs.Redeeming.{given_released}
use Rattle.hd_threads.proofs.working.redeem_next.Goals as goal

pub returns-else-len-kids-clause-redeemed : goal.returns-else-len-kids-clause-redeemed
returns-else-len-kids-clause-redeemed g c =
    let parcels = c.in-Ok-Parcels.parcels in
    let log = (view c.redeem_inside.new.pass).seen.log in
    let ticket = c.args.held.ticket in
    let first = subst (IsGivenIn (view c.args.pass.now).seen.task log ticket) c.in-Ok-Parcels.field-0-is c.in-Ok-Parcels.ensures.given in
    let given = subst (λ t. IsGivenBy t log ticket (Parcels parcels)) c.requires.task first in
    record {
      parcels = parcels;
      given = given;
      released = given_released c.args.worker.now.task log ticket parcels given;
      few = omega (arith, c.len.ensures, c.if-len-kids.false);
      opens = c.released.ensures;
    }

pub returns-in-Ok-NotYet-clause-asked : goal.returns-in-Ok-NotYet-clause-asked
returns-in-Ok-NotYet-clause-asked g c waits =
    let task = (view c.args.pass.now).seen.task in
    let log = (view c.redeem_inside.new.pass).seen.log in
    let ticket = c.args.held.ticket in
    let k = c.in-Ok-NotYet in
    let same : k.ticket ≡ ticket = subst (IsGivenIn task log ticket) k.field-0-is k.ensures.given in
    subst (λ t. IsGivenBy task log ticket (NotYet t)) same (subst (IsGivenBy task log ticket) k.field-0-is (k.ensures.asked waits))
