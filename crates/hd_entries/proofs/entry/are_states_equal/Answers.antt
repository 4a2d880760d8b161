use Rattle.hd_entries.proofs.Same.{packings_tell}
use Rattle.hd_entries.proofs.entry.are_states_equal.Goals as goal

pub returns : goal.returns
returns c = packings_tell c.is_draft.result c.args.one.now c.args.other.now c.is_draft.ensures.same c.is_draft.ensures.states
