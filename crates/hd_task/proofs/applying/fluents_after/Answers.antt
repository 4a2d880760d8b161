use Rattle.std.proofs.Common.{◌≡◌, ◌≤◌, ◌∙◌, take, length, sym, ap, fold}
use Rattle.std.specs.List.{list_all}
use Rattle.std.proofs.lemmas.List.{take_all}
use Rattle.hd_task.specs.Effects.{effect_stays}
use Rattle.hd_task.proofs.Fluents.{write, written_fluents, rising_effects}
use Rattle.hd_task.proofs.applying.fluents_after.Goals as goal

pub returns : goal.returns
returns c =
    let past : length c.args.action.now.effects ≤ c.loop-effect.effect-index = rw (← c.as_slice-effect-items.ensures) c.loop-effect-test.false in
    let all : take c.loop-effect.effect-index c.args.action.now.effects ≡ c.args.action.now.effects = take_all c.loop-effect.effect-index c.args.action.now.effects past in (
      ap (list_all (effect_stays c.args.state.now.fluents)) (sym all) ∙ c.loop-effect.invariant.stay,
      c.from_vec.ensures ∙ written_fluents c.args.task.now c.args.state.now c.args.action.now c.loop-effect.next.items c.requires.of_task.fluents
          (rising_effects _ _ c.args.action.now c.requires.fits)
          (c.loop-effect.invariant.values ∙ ap (fold (write c.args.state.now.fluents) c.args.state.now.fluents) all),
    )
