use Rattle.std.proofs.Common.{◌+◌, ap, arith}
use Rattle.std.proofs.lemmas.Grind.{div_ceil_times}
use Rattle.hd_tables.specs.declared.chunks.TheConstants.{CHUNK}
use Rattle.hd_tables.specs.Chunks.{ChunksView, items_of, IsLarge}
use Rattle.hd_tables.proofs.Filling.{chunks_enough}
use Rattle.hd_tables.proofs.chunks.Chunks.reserve.Goals as goal

pub overflow_sub-self-inside : goal.overflow_sub-self-inside
overflow_sub-self-inside g c =
    let s = c.self.inside in
    let few = c.self.invariant.1 in
    let enough = chunks_enough (λ c. items_of c) (λ c. IsLarge c) s.chunks.items s.len c.self.invariant.2 in
    omega (arith, few, enough)

pub add_chunks-requires : goal.add_chunks-requires
add_chunks-requires g c =
    let s = c.self.inside in
    let few = c.self.invariant.1 in
    let enough = chunks_enough (λ c. items_of c) (λ c. IsLarge c) s.chunks.items s.len c.self.invariant.2 in
    let up = (div_ceil_times (s.len + c.args.count) CHUNK (omega arith)).1 in
    let is = c.div_ceil-wanted.ensures in
    let fits = c.if-count-self.false in
    omega (arith, few, enough, up, is, fits)

pub returns-clause-enough : goal.returns-clause-enough
returns-clause-enough g c = λ fit.
    let s = c.self.inside in
    let room = ap (λ (v : ChunksView g.row.T.Denot). v.room) c.self.view_is in
    let enough = chunks_enough (λ c. items_of c) (λ c. IsLarge c) s.chunks.items s.len c.self.invariant.2 in
    let up = (div_ceil_times (s.len + c.args.count) CHUNK (omega arith)).1 in
    let is = c.div_ceil-wanted.ensures in
    c.add_chunks.ensures.enough (omega (arith, fit, room, enough, up, is))
