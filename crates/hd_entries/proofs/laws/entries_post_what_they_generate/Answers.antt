use Rattle.hd_entries.proofs.Naming.{posted_named, posted_count}
use Rattle.hd_entries.proofs.laws.entries_post_what_they_generate.Goals as goal

pub returns : goal.returns
returns c = record { names = posted_named; count = posted_count }
