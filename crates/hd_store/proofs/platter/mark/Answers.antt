use Rattle.std.proofs.Common.{◌∙◌, ap, arith, get_or, false, ◌≤◌, max}
use Rattle.std.specs.Prelude.{◌||◌}
use Rattle.hd_store.proofs.Marking.{same_places}
use Rattle.hd_store.proofs.platter.mark.Goals as goal

pub returns : goal.returns
returns c = λ k below.
    c.loop-place.invariant.marked k (omega (arith, c.loop-place.auto.marks))
    ∙ ap (λ b. b || get_or c.args.marks.now k false) (same_places c.args.from c.args.to c.loop-place.place k (omega arith) (omega arith))
