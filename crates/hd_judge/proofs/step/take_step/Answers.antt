use Rattle.std.proofs.Common.{◌∙◌}
use Rattle.hd_judge.specs.declared.table.Place.{Place}
use Rattle.hd_judge.specs.Tables.{reached_in}
use Rattle.hd_judge.proofs.Effecting.{value_placed}
use Rattle.hd_judge.proofs.Stepping.{effects_there, leads_to}
use Rattle.hd_judge.proofs.step.take_step.Goals as goal

pub judge_effects-requires-clause-there : goal.judge_effects-requires-clause-there
judge_effects-requires-clause-there c = effects_there c.args.lookups.now (reached_in c.args.place.now) c.args.objects.now c.args.schema.now c.requires.defined c.requires.way

pub returns-clause-leads : goal.returns-clause-leads
returns-clause-leads c =
    let t = c.args.lookups.now in
    let r = reached_in c.args.place.now in
    let v = r.state.values in
    let a = c.args.schema.now in
    let objects = c.args.objects.now in
    let gives = c.in_ok-changes.ensures.gives in
    let place : Place = record { truths = c.change_atoms.new.truths; numbers = c.put_values.new.numbers; cost = c.in_ok-changes.cost } in
    leads_to t r (reached_in place) objects a c.requires.met gives.stay.cost c.in_ok-change_atoms.ensures
    (λ g. c.in_ok-put_values.ensures g ∙ value_placed v a objects c.in_ok-changes.changes g (effects_there t r objects a c.requires.defined c.requires.way) gives.are)
    gives.total
