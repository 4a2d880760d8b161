use Rattle.std.proofs.Common.{arith}
use Rattle.hd_tables.specs.Chunks.{items_of, IsLarge}
use Rattle.hd_tables.proofs.Filling.{chunks_enough}
use Rattle.hd_tables.proofs.chunks.Chunks.room.Goals as goal

pub overflow_sub-result : goal.overflow_sub-result
overflow_sub-result g c =
    let s = c.self.inside in
    let enough = chunks_enough (λ c. items_of c) (λ c. IsLarge c) s.chunks.items s.len c.self.invariant.2 in
    omega (arith, enough)
