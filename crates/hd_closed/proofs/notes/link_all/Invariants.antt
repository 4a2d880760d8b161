use Rattle.std.proofs.Common.{◌≡◌, List, length}
use Rattle.hd_task.specs.declared.state.State.{State}
use Rattle.hd_closed.specs.Notes.{AreAlike, AreNotesOf, AreChained}
use Rattle.hd_closed.proofs.notes.link_all.Given as goal

abbrev pub invariant-loop-place : goal.invariant-loop-place
invariant-loop-place l = record {
  alike : AreAlike l.initial.notes.items l.notes.items;
  len : length l.heads.items ≡ length l.initial.heads.items;
  chained : (states : List State) → AreNotesOf states l.initial.notes.items → AreChained states l.notes.items l.heads.items l.place;
}
