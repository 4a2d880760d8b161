use Rattle.std.proofs.Common.{◌≡◌, length, sym, subst, arith}
use Rattle.std.proofs.lemmas.Option.{slice_get_within}
use Rattle.hd_base.proofs.Lists.{AllByRecursion-slice_get}
use Rattle.hd_task.specs.Conditions.{literal_holds}
use Rattle.hd_task.specs.Plans.{IsStateOf}
use Rattle.hd_task.specs.Conditions.{literal}
use Rattle.hd_hmax.specs.declared.estimate.EstimateValue.TheVariants.{Cost}
use Rattle.hd_hmax.specs.Rules.{place_at}
use Rattle.hd_hmax.specs.Lanes.{is_set}
use Rattle.std.specs.List.{AllByRecursion}
use Rattle.hd_hmax.proofs.Giving.{told_all}
use Rattle.hd_hmax.proofs.Leveling.{as_many_atoms}
use Rattle.hd_hmax.proofs.levels.Lanes.estimates.Goals as goal

pub returns-then-not-has_goal-clause-values : goal.returns-then-not-has_goal-clause-values
returns-then-not-has_goal-clause-values g c lane s is =
    let states = g.G.Group.states c.args.group.now in
    let inside = slice_get_within states lane s is in
    let few = c.requires.few in
    told_all c.args.rules.now.task.now s (Cost 0) lane (omega (arith, inside, few)) (sym (c.has_goal.ensures c.if-not-has_goal.true s))

pub returns-clause-values : goal.returns-clause-values
returns-clause-values g c lane s is =
    let r = c.args.rules.now in
    let t = r.task.now in
    let states = g.G.Group.states c.args.group.now in
    let inside = slice_get_within states lane s is in
    let few = c.requires.few in
    let atoms : r.atoms ≡ length t.atoms = r.of_task.atoms in
    c.climb.ensures.values s lane (omega (arith, inside, few)) (AllByRecursion-slice_get (IsStateOf t) states lane s c.requires.of_task is)
    (λ b i known. subst (λ n. is_set c.load.new.first.items (place_at n b i) lane ≡ literal_holds s (literal b i)) atoms (c.load.ensures.lanes lane s b i is (omega (arith, atoms, known))))

pub load-requires-clause-same : goal.load-requires-clause-same
load-requires-clause-same g c =
    let t = c.args.rules.now.task.now in
    let atoms : c.args.rules.now.atoms ≡ length t.atoms = c.args.rules.now.of_task.atoms in
    subst (λ n. AllByRecursion (λ s. length s.atoms ≡ n) (g.G.Group.states c.args.group.now)) (sym atoms)
    (as_many_atoms t (g.G.Group.states c.args.group.now) c.requires.of_task)
