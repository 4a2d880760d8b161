use Rattle.hd_book.proofs.Held.{held_if, held_flushed}
use Rattle.hd_book.proofs.content.BookContent.acknowledge.Goals as goal

pub invariant_of-self : goal.invariant_of-self
invariant_of-self c =
    let e = c.self.inside.entries in
    let b = c.self.inside.tickets.batches in
    held_if c.acknowledge.result e b _ _ c.self.invariant (held_flushed e b c.self.invariant) c.acknowledge.ensures.flushed c.acknowledge.ensures.err
