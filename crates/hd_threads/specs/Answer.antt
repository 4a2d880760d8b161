-- What a verdict is, as the answer of a search. (Our own.)
use Rattle.std.specs.Prelude.{◌≡◌, ℕ, List, Some, length}
use Rattle.hd_task.specs.declared.task.Task.{Task}
use Rattle.hd_task.specs.declared.plan.Kid.{Kid}
use Rattle.hd_task.specs.Entries.{plans_of}
use Rattle.hd_task.specs.Expansions.{IsLegal}
use Rattle.hd_task.specs.Covers.{IsCovered}
use Rattle.hd_hmax.specs.Rounds.{hmax}
use Rattle.hd_entries.specs.declared.verdict.Verdict.{Verdict}
use Rattle.hd_entries.specs.Answers as entries
use Rattle.hd_book.specs.declared.counts.Counts.{Counts}

-- a verdict is what these expansions answer: they are a legal list, it is covered, and this is its
-- answer
pub record IsAnswerBy (t : Task) (expanded : List (List ℕ)) (v : Verdict) : Type 0 where
  pub legal : IsLegal t expanded
  pub covered : IsCovered t (hmax t) expanded
  pub answers : entries.IsAnswer t expanded v

-- a verdict is what a journal's entries answer: that of the expansions that they name
pub record IsJournalAnswer (t : Task) (kids : List Kid) (v : Verdict) : Type 0 where
  pub expanded : List (List ℕ)
  pub named : plans_of kids ≡ Some expanded
  pub answer : IsAnswerBy t expanded v

-- a verdict is the answer of a search: that of some expansions
abbrev pub IsSearchAnswer : Task → Verdict → Type 0
IsSearchAnswer t v = (expanded : List (List ℕ)) × IsAnswerBy t expanded v

-- counts are those of the end of a search with these entries: all of them are acknowledged, and
-- each successor that was posted is settled
pub record IsFinalCount (kids : List Kid) (c : Counts) : Type 0 where
  pub entries : c.entries ≡ length kids
  pub acknowledged : c.acknowledged ≡ length kids
  pub settled : c.settled ≡ c.posted
