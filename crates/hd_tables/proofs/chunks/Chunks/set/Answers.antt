use Rattle.std.proofs.Common.{◌≡◌, ◌<◌, ◌≤◌, ◌/◌, ◌%◌, ◌∙◌, ℕ, length, get_or, set, sym, ap, subst, arith, length-set}
use Rattle.std.specs.Prelude.{Vec, vec_capacity}
use Rattle.std.specs.Vec.{with_item}
use Rattle.std.specs.declared.alloc.Global.{Global}
use Rattle.hd_tables.specs.declared.chunks.TheConstants.{CHUNK}
use Rattle.hd_tables.specs.Chunks.{ChunksView, items_in, AreChunks, items_of, IsLarge}
use Rattle.hd_tables.proofs.Filling.{chunk_within, chunks_enough, item_within, length-items_in, items_put, chunks_put}
use Rattle.hd_tables.proofs.chunks.Chunks.set.Goals as goal

pub index_mut-chunk-requires : goal.index_mut-chunk-requires
index_mut-chunk-requires g c =
    let s = c.self.inside in
    let items = ap (λ (v : ChunksView g.row.T.Denot). length v.items) c.self.view_is in
    let count = c.self.invariant.0 in
    let within = c.requires in
    let lt : c.args.number < s.len = omega (arith, items, count, within) in
    subst (λ (k : ℕ). c.args.number / CHUNK < k) (sym s.chunks.ok.0) (chunk_within (λ c. items_of c) (λ c. IsLarge c) s.chunks.items s.len c.args.number c.self.invariant.2 lt)

pub index_mut-requires : goal.index_mut-requires
index_mut-requires g c =
    let s = c.self.inside in
    let items = ap (λ (v : ChunksView g.row.T.Denot). length v.items) c.self.view_is in
    let count = c.self.invariant.0 in
    let within = c.requires in
    let lt : c.args.number < s.len = omega (arith, items, count, within) in
    let w = c.index_mut-chunk.result.now in
    subst (λ (k : ℕ). c.args.number % CHUNK < k) (sym w.ok.0)
    (subst (λ (u : Vec g.row.T.Denot Global). c.args.number % CHUNK < length u.items) (sym c.index_mut-chunk.ensures.value)
    (item_within (λ c. items_of c) (λ c. IsLarge c) s.chunks.items s.len c.args.number w c.self.invariant.2 lt).1)

pub invariant_of-self : goal.invariant_of-self
invariant_of-self g c =
    let s = c.self.inside in
    let cs = s.chunks.items in
    let items = ap (λ (v : ChunksView g.row.T.Denot). length v.items) c.self.view_is in
    let count = c.self.invariant.0 in
    let within = c.requires in
    let lt : c.args.number < s.len = omega (arith, items, count, within) in
    let w = c.index_mut-chunk.result.now in
    let w' = with_item w (c.args.number % CHUNK) c.args.item in
    let value = c.index_mut-chunk.ensures.value in
    let large : CHUNK ≤ vec_capacity w =
    subst (λ (u : Vec g.row.T.Denot Global). CHUNK ≤ vec_capacity u) (sym value) (item_within (λ c. items_of c) (λ c. IsLarge c) cs s.len c.args.number w c.self.invariant.2 lt).2
    in
    let as_long : length w'.items ≡ length (get_or cs (c.args.number / CHUNK) w).items =
    length-set w.items (c.args.number % CHUNK) c.args.item ∙ ap (λ (u : Vec g.row.T.Denot Global). length u.items) value
    in
    let chunks : AreChunks s.len (set cs (c.args.number / CHUNK) w') = chunks_put (λ c. items_of c) (λ c. IsLarge c) cs s.len c.args.number w w' c.self.invariant.2 lt as_long large in
    let few = c.self.invariant.1 in
    let same = length-set cs (c.args.number / CHUNK) w' in
    (sym (length-items_in (λ c. items_of c) (λ c. IsLarge c) (set cs (c.args.number / CHUNK) w') s.len chunks), omega (arith, few, same), chunks)

pub returns-clause-items : goal.returns-clause-items
returns-clause-items g c =
    let s = c.self.inside in
    let cs = s.chunks.items in
    let items = ap (λ (v : ChunksView g.row.T.Denot). length v.items) c.self.view_is in
    let count = c.self.invariant.0 in
    let within = c.requires in
    let lt : c.args.number < s.len = omega (arith, items, count, within) in
    let w = c.index_mut-chunk.result.now in
    let w' = with_item w (c.args.number % CHUNK) c.args.item in
    items_put (λ c. items_of c) (λ c. IsLarge c) cs s.len c.args.number w w' c.args.item c.self.invariant.2 lt
    (ap (λ (u : Vec g.row.T.Denot Global). set u.items (c.args.number % CHUNK) c.args.item) c.index_mut-chunk.ensures.value)
    ∙ ap (λ (v : ChunksView g.row.T.Denot). set v.items c.args.number c.args.item) c.self.view_is

pub returns-clause-few : goal.returns-clause-few
returns-clause-few g c =
    let s = c.self.inside in
    let cs = s.chunks.items in
    let items = ap (λ (v : ChunksView g.row.T.Denot). length v.items) c.self.view_is in
    let count = c.self.invariant.0 in
    let within = c.requires in
    let lt : c.args.number < s.len = omega (arith, items, count, within) in
    let w = c.index_mut-chunk.result.now in
    let put = items_put (λ c. items_of c) (λ c. IsLarge c) cs s.len c.args.number w (with_item w (c.args.number % CHUNK) c.args.item) c.args.item c.self.invariant.2 lt
    (ap (λ (u : Vec g.row.T.Denot Global). set u.items (c.args.number % CHUNK) c.args.item) c.index_mut-chunk.ensures.value) in
    let as_many = ap length put in
    let same = length-set (items_in cs) c.args.number c.args.item in
    let chunks = length-set cs (c.args.number / CHUNK) (with_item w (c.args.number % CHUNK) c.args.item) in
    let few = c.self.invariant.1 in
    let enough = chunks_enough (λ c. items_of c) (λ c. IsLarge c) cs s.len c.self.invariant.2 in
    omega (arith, as_many, same, chunks, count, few, enough)
