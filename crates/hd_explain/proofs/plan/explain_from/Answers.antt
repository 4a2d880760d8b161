use Rattle.std.proofs.Common.{string_bytes, subst}
use Rattle.hd_judge.specs.Tables.{reached_in}
use Rattle.hd_explain.specs.Plans.{HaltsFrom}
use Rattle.hd_explain.proofs.Named.{plan_explained, plan_unexplained}
use Rattle.hd_explain.proofs.plan.explain_from.Goals as goal

pub returns-in-Ok-clause-told : goal.returns-in-Ok-clause-told
returns-in-Ok-clause-told c =
    let t = c.args.lookups.now in
    let r = reached_in c.args.place.now in
    let here = reached_in c.explain_all.new.place in
    let steps = c.args.steps.now in
    plan_explained t r here steps c.in-Ok-Told.told (string_bytes c.in-Ok.line) c.requires.start
    (subst (λ h. HaltsFrom t r 1 steps here h) c.in-Ok-Told.field-0-is c.in-Ok-Told.ensures) c.in-Ok.ensures

pub returns-in-Ok-Untold-clause-none : goal.returns-in-Ok-Untold-clause-none
returns-in-Ok-Untold-clause-none c =
    let t = c.args.lookups.now in
    let r = reached_in c.args.place.now in
    let steps = c.args.steps.now in
    plan_unexplained t r steps c.requires.start
    (subst (λ h. HaltsFrom t r 1 steps (reached_in c.explain_all.new.place) h) c.in-Ok-Untold.field-0-is c.in-Ok-Untold.ensures)
