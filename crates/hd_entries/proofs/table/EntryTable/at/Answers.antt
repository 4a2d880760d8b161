use Rattle.std.proofs.Common.{◌<◌, length, get_or, ap, ◌∙◌, arith}
use Rattle.hd_task.specs.declared.state.State.{State}
use Rattle.hd_entries.specs.Table.{TableView, entry_from}
use Rattle.hd_entries.proofs.Tabled.{labels_count, states_count, entry_at}
use Rattle.hd_entries.proofs.table.EntryTable.at.Goals as goal

pub at-label-requires : goal.at-label-requires
at-label-requires c =
    let t = c.self.inside in
    let items = ap (λ (v : TableView). length v.items) c.self.view_is in
    let count = labels_count t.labels.items t.states.states c.self.invariant in
    let lt = c.requires in
    omega (arith, items, count, lt)

pub at-requires : goal.at-requires
at-requires c =
    let t = c.self.inside in
    let items = ap (λ (v : TableView). length v.items) c.self.view_is in
    let count = states_count t.labels.items t.states.states c.self.invariant in
    let lt = c.requires in
    omega (arith, items, count, lt)

pub known-requires : goal.known-requires
known-requires c =
    let t = c.self.inside in
    let items = ap (λ (v : TableView). length v.items) c.self.view_is in
    let count = labels_count t.labels.items t.states.states c.self.invariant in
    let lt = c.requires in
    let label = c.at-label.result.now in
    let among : c.args.number < length t.labels.items = omega (arith, items, count, lt) in
    (entry_at t.labels.items t.states.states c.args.number label c.at.result (entry_from label c.at.result) c.self.invariant among c.at-label.ensures c.at.ensures).hash

pub returns : goal.returns
returns c =
    let t = c.self.inside in
    let items = ap (λ (v : TableView). length v.items) c.self.view_is in
    let count = labels_count t.labels.items t.states.states c.self.invariant in
    let lt = c.requires in
    let label = c.at-label.result.now in
    let e = entry_from label c.known.result in
    let among : c.args.number < length t.labels.items = omega (arith, items, count, lt) in
    let r = entry_at t.labels.items t.states.states c.args.number label c.at.result e c.self.invariant among c.at-label.ensures c.at.ensures in
    ap (λ (s : State). entry_from label s) c.known.ensures ∙ (r.there ∙ ap (λ (v : TableView). get_or v.items c.args.number e) c.self.view_is)
