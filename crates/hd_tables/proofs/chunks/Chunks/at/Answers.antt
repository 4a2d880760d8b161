use Rattle.std.proofs.Common.{◌<◌, ◌/◌, ◌%◌, ◌∙◌, ℕ, length, get_or, sym, ap, subst, arith}
use Rattle.std.specs.Prelude.{Vec}
use Rattle.std.specs.declared.alloc.Global.{Global}
use Rattle.hd_tables.specs.declared.chunks.TheConstants.{CHUNK}
use Rattle.hd_tables.specs.Chunks.{ChunksView, items_of, IsLarge}
use Rattle.hd_tables.proofs.Filling.{chunk_within, item_within, item_read}
use Rattle.hd_tables.proofs.chunks.Chunks.at.Goals as goal

pub index-requires : goal.index-requires
index-requires g c =
    let s = c.self.inside in
    let items = ap (λ (v : ChunksView g.row.T.Denot). length v.items) c.self.view_is in
    let count = c.self.invariant.0 in
    let within = c.requires in
    let lt : c.args.number < s.len = omega (arith, items, count, within) in
    subst (λ (k : ℕ). c.args.number / CHUNK < k) (sym s.chunks.ok.0) (chunk_within (λ c. items_of c) (λ c. IsLarge c) s.chunks.items s.len c.args.number c.self.invariant.2 lt)

pub index-requires-2 : goal.index-requires-2
index-requires-2 g c =
    let s = c.self.inside in
    let items = ap (λ (v : ChunksView g.row.T.Denot). length v.items) c.self.view_is in
    let count = c.self.invariant.0 in
    let within = c.requires in
    let lt : c.args.number < s.len = omega (arith, items, count, within) in
    let w = c.index.result.now in
    subst (λ (k : ℕ). c.args.number % CHUNK < k) (sym w.ok.0)
    (subst (λ (u : Vec g.row.T.Denot Global). c.args.number % CHUNK < length u.items) (sym c.index.ensures)
    (item_within (λ c. items_of c) (λ c. IsLarge c) s.chunks.items s.len c.args.number w c.self.invariant.2 lt).1)

pub returns : goal.returns
returns g c =
    let s = c.self.inside in
    let items = ap (λ (v : ChunksView g.row.T.Denot). length v.items) c.self.view_is in
    let count = c.self.invariant.0 in
    let within = c.requires in
    let lt : c.args.number < s.len = omega (arith, items, count, within) in
    let w = c.index.result.now in
    let d = c.index-2.result.now in
    c.index-2.ensures
    ∙ (ap (λ (u : Vec g.row.T.Denot Global). get_or u.items (c.args.number % CHUNK) d) c.index.ensures
    ∙ (sym (item_read (λ c. items_of c) (λ c. IsLarge c) s.chunks.items s.len c.args.number d w c.self.invariant.2 lt)
    ∙ ap (λ (v : ChunksView g.row.T.Denot). get_or v.items c.args.number d) c.self.view_is))
