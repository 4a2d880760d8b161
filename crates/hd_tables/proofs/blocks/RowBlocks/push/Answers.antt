use Rattle.std.proofs.Common.{◌<◌, ◌*◌, ◌∙◌, ◌++◌, [], ◌∷◌, length, sym, ap, subst, arith}
use Rattle.hd_tables.specs.declared.chunks.TheConstants.{CHUNK}
use Rattle.hd_tables.specs.Widths.{Widths, HasWidths}
use Rattle.hd_tables.specs.Blocks.{BlocksView, widths_of}
use Rattle.hd_tables.proofs.BlockRows.{next_count, next_room, blocks_pushed, flat_pushed}
use Rattle.hd_tables.proofs.blocks.RowBlocks.push.Goals as goal

pub push-requires-clause-room : goal.push-requires-clause-room
push-requires-clause-room c =
    let s = c.self.inside in
    let w = widths_of s.layout in
    let room = ap (λ (v : BlocksView). v.room) c.self.view_is in
    let some = c.requires.room in
    let lt : s.len < CHUNK * length s.blocks.items = omega (arith, room, some) in
    let has : HasWidths w c.args.state.now = subst (λ (v : Widths). HasWidths v c.args.state.now) (sym (ap (λ (v : BlocksView). v.widths) c.self.view_is)) c.requires.widths in
    let b = c.index_mut-block.result.now in
    let fits = next_room w s.len s.blocks.items b c.args.state.now c.self.invariant lt c.index_mut-block.ensures.value has s.layout.few_atoms s.layout.few_fluents c.bytes-bytes.ensures.fit in
    let count = b.bytes.ok.0 in
    let same = ap length c.bytes-bytes.ensures.bytes in
    omega (arith, fits, count, same)

pub push-requires-clause-few : goal.push-requires-clause-few
push-requires-clause-few c =
    let s = c.self.inside in
    let w = widths_of s.layout in
    let room = ap (λ (v : BlocksView). v.room) c.self.view_is in
    let some = c.requires.room in
    let lt : s.len < CHUNK * length s.blocks.items = omega (arith, room, some) in
    let has : HasWidths w c.args.state.now = subst (λ (v : Widths). HasWidths v c.args.state.now) (sym (ap (λ (v : BlocksView). v.widths) c.self.view_is)) c.requires.widths in
    let b = c.index_mut-block.result.now in
    let count = next_count w s.len s.blocks.items b c.args.state.now c.self.invariant lt c.index_mut-block.ensures.value has s.layout.few_atoms s.layout.few_fluents c.bytes-bytes.ensures.fit in
    omega (arith, count)

pub invariant_of-self : goal.invariant_of-self
invariant_of-self c =
    let s = c.self.inside in
    let w = widths_of s.layout in
    let room = ap (λ (v : BlocksView). v.room) c.self.view_is in
    let some = c.requires.room in
    let lt : s.len < CHUNK * length s.blocks.items = omega (arith, room, some) in
    let has : HasWidths w c.args.state.now = subst (λ (v : Widths). HasWidths v c.args.state.now) (sym (ap (λ (v : BlocksView). v.widths) c.self.view_is)) c.requires.widths in
    let b = c.index_mut-block.result.now in
    let bytes = c.push.ensures.bytes ∙ ap (λ xs. b.bytes.items ++ xs) c.bytes-bytes.ensures.bytes in
    blocks_pushed w s.len s.blocks.items b c.args.state.now c.self.invariant lt c.index_mut-block.ensures.value has s.layout.few_atoms s.layout.few_fluents c.bytes-bytes.ensures.fit c.push.new.self bytes c.push.ensures.pattern c.push.ensures.count c.push.ensures.capacity

pub returns-clause-states : goal.returns-clause-states
returns-clause-states c =
    let s = c.self.inside in
    let w = widths_of s.layout in
    let room = ap (λ (v : BlocksView). v.room) c.self.view_is in
    let some = c.requires.room in
    let lt : s.len < CHUNK * length s.blocks.items = omega (arith, room, some) in
    let has : HasWidths w c.args.state.now = subst (λ (v : Widths). HasWidths v c.args.state.now) (sym (ap (λ (v : BlocksView). v.widths) c.self.view_is)) c.requires.widths in
    let b = c.index_mut-block.result.now in
    let bytes = c.push.ensures.bytes ∙ ap (λ xs. b.bytes.items ++ xs) c.bytes-bytes.ensures.bytes in
    flat_pushed w s.len s.blocks.items b c.args.state.now c.self.invariant lt c.index_mut-block.ensures.value has s.layout.few_atoms s.layout.few_fluents c.bytes-bytes.ensures.fit c.push.new.self bytes c.push.ensures.pattern c.push.ensures.count c.push.ensures.capacity
    ∙ ap (λ (v : BlocksView). v.states ++ c.args.state.now ∷ []) c.self.view_is
