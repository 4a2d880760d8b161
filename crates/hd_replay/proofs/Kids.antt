-- The pairs of a journal's entries are those of its groups.
use Rattle.std.proofs.Common.{◌≡◌, ℕ, List}
use Rattle.hd_store.specs.declared.store.Store.{Ghosts}
use Rattle.hd_journal.specs.declared.journal.Journal.{Journal}
use Rattle.hd_journal.specs.Journal.{kids_of}
use Rattle.hd_world.specs.Stops.{File, journal_entries}
use Rattle.hd_world.proofs.Journals as journals
use Rattle.hd_replay.specs.Journals.{StandsAs}

pub journal_kids : {S : Type 0} {G : Ghosts S} (digest : List ℕ) (f : File) (journal : Journal S G) → StandsAs digest f journal → kids_of journal ≡ journal_entries f
journal_kids digest f journal s = journals.journal_kids digest f journal s.is_of
