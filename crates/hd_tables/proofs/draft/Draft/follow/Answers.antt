use Rattle.std.proofs.Common.{ℕ, Option, refl, sym, subst, ◌∙◌}
use Rattle.hd_task.specs.Applying.{applied_of}
use Rattle.hd_pack.specs.Leading.{led_by}
use Rattle.hd_pack.proofs.Steps.{applied_by_number, led_at}
use Rattle.hd_tables.specs.Drafts.{IsLedTo}
use Rattle.hd_tables.proofs.Following.{leads_on, condition_holds}
use Rattle.hd_tables.proofs.draft.Draft.follow.Goals as goal

pub take_effect-requires-clause-holds : goal.take_effect-requires-clause-holds
take_effect-requires-clause-holds c =
    condition_holds c.args.task.now c.args.before.now c.args.cost c.args.action.0 c.requires.of_task c.requires.applicable c.index-as_slice-action.result
    (applied_by_number c.args.task.now c.args.before.now _ c.args.action.0 _ c.as_slice.ensures c.requires.known c.index-as_slice-action.is)

pub unreachable-requires : goal.unreachable-requires
unreachable-requires c =
    let t = c.args.task.now in
    let s = c.args.before.now in
    let a = c.index-as_slice-action.result in
    let told = led_by c.args.cost (applied_of t s a) in
    leads_on t s c.args.cost c.args.action.0 c.requires.of_task c.requires.applicable told
    (led_at t s c.args.cost c.args.action.0 (applied_of t s a) told (applied_by_number t s _ c.args.action.0 a c.as_slice.ensures c.requires.known c.index-as_slice-action.is) refl)
    (subst (λ (o : Option ℕ). IsLedTo told o c.take_effect.new.self) c.in-None.is c.in_ok-total.ensures)

pub returns : goal.returns
returns c =
    let t = c.args.task.now in
    let s = c.args.before.now in
    let a = c.index-as_slice-action.result in
    let told = led_by c.args.cost (applied_of t s a) in
    sym (led_at t s c.args.cost c.args.action.0 (applied_of t s a) told (applied_by_number t s _ c.args.action.0 a c.as_slice.ensures c.requires.known c.index-as_slice-action.is) refl)
    ∙ subst (λ (o : Option ℕ). IsLedTo told o c.take_effect.new.self) c.in-Some.is c.in_ok-total.ensures
