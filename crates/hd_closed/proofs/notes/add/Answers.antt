use Rattle.std.proofs.Common.{None, List, ◌∷◌, [], ◌++◌, sym, ap, subst, ◌∙◌}
use Rattle.hd_zobrist.specs.Hash.{state_hash}
use Rattle.hd_task.specs.declared.state.State.{State}
use Rattle.hd_closed.specs.declared.notes.Note.{Note}
use Rattle.hd_closed.specs.Notes.{note_of, AreAlike, IsTable}
use Rattle.hd_closed.proofs.Chains.{alike_then, on_err}
use Rattle.hd_closed.proofs.notes.add.Goals as goal

pub returns-in_err-reserve-clause-table : goal.returns-in_err-reserve-clause-table
returns-in_err-reserve-clause-table c =
    subst (λ (xs : List Note). IsTable c.args.rows.now.states xs c.cover.new.heads.items) (sym c.reserve.ensures.items) c.in_ok-cover.ensures.table

pub returns-in_err-reserve-clause-same : goal.returns-in_err-reserve-clause-same
returns-in_err-reserve-clause-same c = on_err _ (subst (AreAlike c.args.notes.now.items) (sym c.reserve.ensures.items) c.in_ok-cover.ensures.alike)

pub returns-in_err-reserve-2-clause-table : goal.returns-in_err-reserve-2-clause-table
returns-in_err-reserve-2-clause-table c =
    subst (λ (ss : List State). IsTable ss c.reserve.new.self.items c.cover.new.heads.items) (sym c.reserve-2.ensures.states)
    (subst (λ (xs : List Note). IsTable c.args.rows.now.states xs c.cover.new.heads.items) (sym c.reserve.ensures.items) c.in_ok-cover.ensures.table)

pub returns-in_err-reserve-2-clause-same : goal.returns-in_err-reserve-2-clause-same
returns-in_err-reserve-2-clause-same c = on_err _ (subst (AreAlike c.args.notes.now.items) (sym c.reserve.ensures.items) c.in_ok-cover.ensures.alike)

pub returns-clause-notes : goal.returns-clause-notes
returns-clause-notes c =
    let alike = subst (AreAlike c.args.notes.now.items) (sym c.reserve.ensures.items) c.in_ok-cover.ensures.alike in
    let more = subst (λ h. AreAlike (c.reserve.new.self.items ++ note_of h None ∷ []) c.push_note.new.notes.items) c.hash.ensures c.push_note.ensures.notes in
    alike_then c.args.notes.now.items c.reserve.new.self.items c.push_note.new.notes.items (note_of (state_hash c.args.state.now) None) alike more

pub returns-clause-table : goal.returns-clause-table
returns-clause-table c =
    let before = subst (λ (xs : List Note). IsTable c.args.rows.now.states xs c.cover.new.heads.items) (sym c.reserve.ensures.items) c.in_ok-cover.ensures.table in
    subst (λ (ss : List State). IsTable ss c.push_note.new.notes.items c.push_note.new.heads.items) (sym (c.push.ensures.states ∙ (ap (λ (ss : List State). ss ++ c.state.result.now ∷ []) c.reserve-2.ensures.states ∙ ap (λ (u : State). c.args.rows.now.states ++ u ∷ []) c.state.ensures)))
    (c.push_note.ensures.table c.args.rows.now.states c.args.state.now before (sym c.hash.ensures))
