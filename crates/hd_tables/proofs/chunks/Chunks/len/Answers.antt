use Rattle.std.proofs.Common.{length, ap, arith}
use Rattle.hd_tables.specs.Chunks.{ChunksView, items_of, IsLarge}
use Rattle.hd_tables.proofs.Filling.{chunks_enough}
use Rattle.hd_tables.proofs.chunks.Chunks.len.Goals as goal

pub returns-clause-few : goal.returns-clause-few
returns-clause-few g c =
    let s = c.self.inside in
    let items = ap (λ (v : ChunksView g.row.T.Denot). length v.items) c.self.view_is in
    let room = ap (λ (v : ChunksView g.row.T.Denot). v.room) c.self.view_is in
    let count = c.self.invariant.0 in
    let few = c.self.invariant.1 in
    let enough = chunks_enough (λ c. items_of c) (λ c. IsLarge c) s.chunks.items s.len c.self.invariant.2 in
    omega (arith, items, room, count, few, enough)
