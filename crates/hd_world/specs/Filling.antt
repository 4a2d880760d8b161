-- Stops that leave each byte that is not sure as a schedule names it. (Our own.)
use Rattle.hd_store.specs.Stop.{IsFilled}
use Rattle.hd_world.specs.Stops.{Leaving}

-- of all that a stop may leave, the longest content in which each byte that is not sure is this
-- one
abbrev pub Filled : Leaving
Filled disk byte content = IsFilled disk.start disk.steps byte content
