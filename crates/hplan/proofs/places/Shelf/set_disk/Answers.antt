use Rattle.std.proofs.Common.{ap, ◌∙◌, Some}
use Rattle.hd_store.specs.Device.{content_of}
use Rattle.hd_store.specs.MemoryDisk.{device_of}
use Rattle.hplan.specs.Places.{file_in}
use Rattle.hplan.proofs.Shelves.{other_pushed, pushed_now}
use Rattle.hplan.proofs.places.Shelf.set_disk.Goals as goal

pub returns-in_ok-put_disk-in-Err-clause-put : goal.returns-in_ok-put_disk-in-Err-clause-put
returns-in_ok-put_disk-in-Err-clause-put c =
    pushed_now c.args.name.now _ _ _ _ c.in-Err.ensures.before c.in-Err.ensures.none c.in_ok-put_disk-in-Err.ensures.ok
    ∙ ap (λ d. Some (content_of (device_of d))) c.in-Err.ensures.back

pub returns-in_ok-put_disk-in-Err-clause-others : goal.returns-in_ok-put_disk-in-Err-clause-others
returns-in_ok-put_disk-in-Err-clause-others c = λ other differ.
    other_pushed c.args.name.now _ _ _ c.in_ok-put_disk-in-Err.ensures.ok other differ ∙ ap (λ s. file_in s other) c.in-Err.ensures.none
