use Rattle.std.proofs.Common.{arith}
use Rattle.hd_entries.proofs.Adding.{entered-count}
use Rattle.hd_entries.proofs.content.EntriesContent.accept.Goals as goal

pub enter-requires-clause-room : goal.enter-requires-clause-room
enter-requires-clause-room c =
    let room = c.requires.room.entries in
    omega (arith, room, entered-count c.args.outcomes.now)
