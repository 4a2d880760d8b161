use Rattle.hd_entries.proofs.OpenPlaces.{in_table}
use Rattle.hd_entries.proofs.content.EntriesContent.is_settled.Goals as goal

pub is_settled-requires : goal.is_settled-requires
is_settled-requires c = in_table c.args.self.now c.args.place c.requires.held c.requires.within
