use Rattle.std.proofs.Common.{◌||◌, ◌&&◌, ◌==◌, ◌∙◌, Some, ap, sym, arith, get_or, slice_get, ◌+◌}
use Rattle.hd_successors.specs.declared.watching.WatchedAtoms.TheVariants.{Always}
use Rattle.std.proofs.lemmas.Bool.{and_right, le-ltb}
use Rattle.std.proofs.lemmas.Option.{slice_get-get_or}
use Rattle.hd_successors.specs.Seeing.{is_always}
use Rattle.hd_successors.proofs.Chaining.{always_more, always_within}
use Rattle.hd_successors.proofs.watches.mark_always.Goals as goal

pub loop-action-init : goal.loop-action-init
loop-action-init c = λ i. c.requires.none i ∙ sym (and_right (is_always (slice_get c.args.watched.now i)) _ (le-ltb i 0 (omega arith)))

pub loop-action-preserved : goal.loop-action-preserved
loop-action-preserved c =
    λ i.
    let watch = get_or c.args.watched.now c.loop-action.action Always in
    c.mark_if_always.ensures i
    ∙ (ap (λ b. ((i == c.loop-action.action) && is_always (Some watch)) || b) (c.loop-action.invariant i)
    ∙ always_more c.args.watched.now c.loop-action.action (c.loop-action.action + 1) i watch (slice_get-get_or c.args.watched.now c.loop-action.action Always (omega arith)) (omega arith))

pub returns : goal.returns
returns c = λ i. c.loop-action.invariant i ∙ always_within c.args.watched.now c.loop-action.action i (omega arith)
