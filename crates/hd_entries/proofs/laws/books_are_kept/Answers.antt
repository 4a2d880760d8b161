use Rattle.hd_entries.proofs.Accepting.{accepted_kept, all_entries, first_kept}
use Rattle.hd_entries.proofs.laws.books_are_kept.Goals as goal

pub returns : goal.returns
returns c = record { first = first_kept; batch = accepted_kept; entries = λ b outcomes. all_entries outcomes b }
