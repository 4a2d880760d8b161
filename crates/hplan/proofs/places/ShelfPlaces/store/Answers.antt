use Rattle.std.proofs.Common.{ap, ◌∙◌}
use Rattle.hplan.specs.Places.{file_in}
use Rattle.hplan.proofs.Shelves.{other_pushed}
use Rattle.hplan.proofs.places.ShelfPlaces.store.Goals as goal

pub returns-in_ok-put_disk-in-Err-clause-others : goal.returns-in_ok-put_disk-in-Err-clause-others
returns-in_ok-put_disk-in-Err-clause-others c = λ other differ.
    other_pushed c.args.name.now _ _ _ c.in_ok-put_disk-in-Err.ensures.ok other differ ∙ ap (λ s. file_in s other) c.in-Err.ensures.none
