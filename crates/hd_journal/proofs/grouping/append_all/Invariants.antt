use Rattle.std.proofs.Common.{◌≡◌, true, false, length}
use Rattle.std.specs.List.{list_all}
use Rattle.hd_image.specs.Image.{fits_parent}
use Rattle.hd_journal.specs.declared.error.JournalError.{JournalError}
use Rattle.hd_journal.specs.declared.journal.Journal.{Journal}
use Rattle.hd_journal.specs.Appending.{Appends, Breaks}
use Rattle.hd_journal.proofs.grouping.append_all.Given as goal

-- what becomes of the entries that are left becomes of all of them
abbrev pub invariant-loop-rest : goal.invariant-loop-rest
invariant-loop-rest g l = record {
  fit : list_all (λ kid. fits_parent l.journal.version kid.parent) l.rest ≡ true;
  running : l.journal.failed ≡ false;
  appended : (new : Journal g.row.S.Denot g.S.Store) → Appends l.journal l.rest new → Appends l.fn.journal l.fn.kids new;
  refused : (error : JournalError) (new : Journal g.row.S.Denot g.S.Store) → Breaks l.journal l.rest error new → Breaks l.fn.journal l.fn.kids error new;
}

abbrev pub decreases-loop-rest : goal.decreases-loop-rest
decreases-loop-rest g l = length l.rest
