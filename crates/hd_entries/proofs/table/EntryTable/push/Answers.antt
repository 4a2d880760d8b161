use Rattle.std.proofs.Common.{◌++◌, ◌∷◌, [], List, sym, ap, ap₂, subst, ◌∙◌}
use Rattle.hd_task.specs.declared.state.State.{State}
use Rattle.hd_entries.specs.declared.entry.Label.{Label}
use Rattle.hd_entries.specs.Table.{TableView, entry_from, labelled_entries, AreLabels}
use Rattle.hd_entries.proofs.Tabled.{labels_push, entries_push}
use Rattle.hd_entries.proofs.table.EntryTable.push.Goals as goal

pub invariant_of-self : goal.invariant_of-self
invariant_of-self c =
    let t = c.self.inside in
    let l : Label = record { kid = c.args.kid; hash = c.hash.result; cost = c.args.cost } in
    subst (λ (ls : List Label). AreLabels ls c.push-2.new.self.states) (sym c.push.ensures.items)
    (subst (AreLabels (t.labels.items ++ l ∷ [])) (sym (c.push-2.ensures.states ∙ ap (λ (s : State). t.states.states ++ s ∷ []) c.state.ensures))
    (labels_push t.labels.items t.states.states l c.args.state.now c.self.invariant c.hash.ensures))

pub returns-clause-items : goal.returns-clause-items
returns-clause-items c =
    let t = c.self.inside in
    let l : Label = record { kid = c.args.kid; hash = c.hash.result; cost = c.args.cost } in
    ap₂ labelled_entries c.push.ensures.items (c.push-2.ensures.states ∙ ap (λ (s : State). t.states.states ++ s ∷ []) c.state.ensures)
    ∙ (entries_push t.labels.items t.states.states l c.args.state.now c.self.invariant
    ∙ ap (λ (v : TableView). v.items ++ entry_from l c.args.state.now ∷ []) c.self.view_is)
