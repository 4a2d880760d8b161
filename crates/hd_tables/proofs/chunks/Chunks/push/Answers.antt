use Rattle.std.proofs.Common.{◌≡◌, ◌<◌, ◌≤◌, ◌+◌, ◌*◌, ◌/◌, ◌%◌, ◌∙◌, ◌++◌, [], ◌∷◌, length, set, sym, ap, subst, arith, length-set, length-append}
use Rattle.std.specs.Prelude.{Vec, vec_capacity}
use Rattle.std.specs.declared.alloc.Global.{Global}
use Rattle.hd_tables.specs.declared.chunks.TheConstants.{CHUNK}
use Rattle.hd_tables.specs.Chunks.{ChunksView, AreChunks, items_of, IsLarge}
use Rattle.hd_tables.proofs.Filling.{length-items_in, next_within, items_pushed, chunks_pushed}
use Rattle.hd_tables.proofs.chunks.Chunks.push.Goals as goal

pub push_reserved-requires : goal.push_reserved-requires
push_reserved-requires g c =
    let s = c.self.inside in
    let room = ap (λ (v : ChunksView g.row.T.Denot). v.room) c.self.view_is in
    let some = c.requires in
    let lt : s.len < CHUNK * length s.chunks.items = omega (arith, room, some) in
    let w = c.index_mut-chunk.result.now in
    let there = next_within (λ c. items_of c) (λ c. IsLarge c) s.chunks.items s.len w c.self.invariant.2 lt in
    let is = there.1 in
    let large = there.2 in
    let count = w.ok.0 in
    let same = ap (λ (u : Vec g.row.T.Denot Global). length u.items) c.index_mut-chunk.ensures.value in
    let room_there : CHUNK ≤ vec_capacity w = subst (λ (u : Vec g.row.T.Denot Global). CHUNK ≤ vec_capacity u) (sym c.index_mut-chunk.ensures.value) large in
    omega (arith, is, count, same, room_there)

pub invariant_of-self : goal.invariant_of-self
invariant_of-self g c =
    let s = c.self.inside in
    let cs = s.chunks.items in
    let room = ap (λ (v : ChunksView g.row.T.Denot). v.room) c.self.view_is in
    let some = c.requires in
    let lt : s.len < CHUNK * length cs = omega (arith, room, some) in
    let w = c.index_mut-chunk.result.now in
    let w' = c.push_reserved.new.self in
    let there = next_within (λ c. items_of c) (λ c. IsLarge c) cs s.len w c.self.invariant.2 lt in
    let value = c.index_mut-chunk.ensures.value in
    let is : length w.items ≡ s.len % CHUNK = ap (λ (u : Vec g.row.T.Denot Global). length u.items) value ∙ there.1 in
    let large : CHUNK ≤ vec_capacity w = subst (λ (u : Vec g.row.T.Denot Global). CHUNK ≤ vec_capacity u) (sym value) there.2 in
    let more = ap length c.push_reserved.ensures.items in
    let long = length-append w.items (c.args.item ∷ []) in
    let as_large = c.push_reserved.ensures.capacity in
    let chunks : AreChunks (s.len + 1) (set cs (s.len / CHUNK) w') =
    chunks_pushed (λ c. items_of c) (λ c. IsLarge c) cs s.len w' c.self.invariant.2 lt (omega (arith, more, long, is)) (omega (arith, as_large, large))
    in
    let few = c.self.invariant.1 in
    let same = length-set cs (s.len / CHUNK) w' in
    (sym (length-items_in (λ c. items_of c) (λ c. IsLarge c) (set cs (s.len / CHUNK) w') (s.len + 1) chunks), omega (arith, few, same), chunks)

pub returns-clause-items : goal.returns-clause-items
returns-clause-items g c =
    let s = c.self.inside in
    let cs = s.chunks.items in
    let room = ap (λ (v : ChunksView g.row.T.Denot). v.room) c.self.view_is in
    let some = c.requires in
    let lt : s.len < CHUNK * length cs = omega (arith, room, some) in
    let w = c.index_mut-chunk.result.now in
    items_pushed (λ c. items_of c) (λ c. IsLarge c) cs s.len w c.push_reserved.new.self c.args.item c.self.invariant.2 lt
    (c.push_reserved.ensures.items ∙ ap (λ (u : Vec g.row.T.Denot Global). u.items ++ c.args.item ∷ []) c.index_mut-chunk.ensures.value)
    ∙ ap (λ (v : ChunksView g.row.T.Denot). v.items ++ c.args.item ∷ []) c.self.view_is
