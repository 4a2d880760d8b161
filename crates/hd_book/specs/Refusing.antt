-- When a book refuses a batch. (Our own.)
use Rattle.std.specs.Prelude.{◌≡◌, ℕ, true, false, if◌then◌else◌, List, codes, Option, Some, option_map, ◌⊎◌}
use Rattle.hd_node.specs.declared.batch.Outcome.{Outcome}
use Rattle.hd_entries.specs.declared.refusal.Refusal.TheVariants.{NoMemory}
use Rattle.hd_entries.specs.Refusal as texts
use Rattle.hd_entries.specs.Refusing as judged
use Rattle.hd_book.specs.declared.refusal.CommitRefusal.{CommitRefusal}
use Rattle.hd_book.specs.declared.refusal.CommitRefusal.TheVariants.{Halted, Refused}
use Rattle.hd_book.specs.View.{BookView, entries_view}

-- its number, a space and its name
abbrev pub text_of : CommitRefusal → List ℕ
text_of Halted = codes "30 Halted"
text_of (Refused r) = texts.text_of r

-- why a batch is refused, memory aside: a halted book refuses each, and else the entries tell
abbrev pub commit_refusal_to : BookView → List Outcome → Option CommitRefusal
commit_refusal_to b outcomes =
    if b.batches.halted then Some Halted else option_map Refused (judged.refusal_to (entries_view b) outcomes)

-- a refusal is the one of the batch; or lack of memory, which stands neither for a halted book nor
-- for one without room
abbrev pub IsCommitRefusalTo : BookView → List Outcome → CommitRefusal → Type 0
IsCommitRefusalTo b outcomes r =
    (commit_refusal_to b outcomes ≡ Some r)
    ⊎ ((r ≡ Refused NoMemory) × (b.batches.halted ≡ false) × (judged.has_room (entries_view b) outcomes ≡ true))
