use Rattle.std.proofs.Common.{length, sym, ap, ◌∙◌, arith}
use Rattle.hd_entries.specs.Table.{TableView}
use Rattle.hd_entries.proofs.Tabled.{labels_count}
use Rattle.hd_entries.proofs.table.EntryTable.len.Goals as goal

pub returns-clause-len : goal.returns-clause-len
returns-clause-len c =
    let t = c.self.inside in
    c.len.ensures.len ∙ (sym (labels_count t.labels.items t.states.states c.self.invariant) ∙ ap (λ (v : TableView). length v.items) c.self.view_is)

pub returns-clause-few : goal.returns-clause-few
returns-clause-few c =
    let t = c.self.inside in
    let items = ap (λ (v : TableView). length v.items) c.self.view_is in
    let room = ap (λ (v : TableView). v.room) c.self.view_is in
    let count = labels_count t.labels.items t.states.states c.self.invariant in
    let few = c.len.ensures.few in
    omega (arith, items, room, count, few)
