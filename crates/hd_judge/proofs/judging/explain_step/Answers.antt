use Rattle.std.proofs.Common.{◌∙◌, ℕ, List, sym, ap, subst, slice_get}
use Rattle.hd_lifted.specs.declared.task.LiftedTask.{LiftedTask}
use Rattle.hd_lifted.specs.Conditions.{holds}
use Rattle.hd_lifted.specs.Steps.{step}
use Rattle.hd_lifted.specs.Plans.{IsInstance}
use Rattle.hd_judge.specs.Tables.{reached_in}
use Rattle.hd_judge.specs.EffectReasons.{StaysWithin}
use Rattle.hd_judge.proofs.Judged.{holds_before, passes_then, on_way_then}
use Rattle.hd_judge.proofs.judging.explain_step.Goals as goal

pub take_step-requires-clause-met : goal.take_step-requires-clause-met
take_step-requires-clause-met c =
    let r = reached_in c.args.place.now in
    let a = c.in-Some.schema.now in
    ap (λ (os : List ℕ). holds r.state os a.condition) c.as_slice.ensures
    ∙ holds_before c.args.lookups.now r c.args.instance.now a c.in_ok-ask_before.ensures.before

pub returns-clause-passes : goal.returns-clause-passes
returns-clause-passes c =
    let t = c.args.lookups.now in
    let r = reached_in c.args.place.now in
    let i = c.args.instance.now in
    let a = c.in-Some.schema.now in
    passes_then t r (reached_in c.take_step.new.place) c.args.number i a
    (subst (λ (u : LiftedTask). IsInstance u i) c.task.ensures c.in-Some.ensures.instance)
    (ap (λ (u : LiftedTask). slice_get u.schemas i.schema) (sym c.task.ensures) ∙ c.in-Some.ensures.schema)
    c.in_ok-ask_before.ensures.before
    (subst (λ (os : List ℕ). StaysWithin t r a os) c.as_slice.ensures c.in_ok-take_step.ensures.stays)
    (ap (λ (os : List ℕ). step t r a os) (sym c.as_slice.ensures) ∙ c.in_ok-take_step.ensures.leads)

pub returns-clause-way : goal.returns-clause-way
returns-clause-way c =
    on_way_then c.args.lookups.now (reached_in c.args.place.now) c.args.number c.args.instance.now (reached_in c.take_step.new.place) c.requires.way
    (returns-clause-passes c)
