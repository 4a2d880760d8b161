use Rattle.std.proofs.Common.{◌≡◌, List, ◌∷◌, [], ◌++◌, map, length, slice_get, sym, ap, subst, ◌∙◌, arith}
use Rattle.hd_task.specs.declared.state.State.{State}
use Rattle.hd_task.specs.declared.task.Task.{Task}
use Rattle.hd_task.specs.Plans.{IsStateOf}
use Rattle.hd_tables.specs.Widths.{Widths}
use Rattle.hd_zobrist.specs.Hash.{state_hash}
use Rattle.hd_closed.specs.Closed.{ClosedView}
use Rattle.hd_closed.specs.Notes.{IsTable}
use Rattle.hd_closed.specs.Shut.{closed_of, IsClosedListKept}
use Rattle.hd_closed.proofs.Chains.{get_last}
use Rattle.hd_closed.proofs.Keeping.{kept_alike, kept_push, closed-longer}
use Rattle.hd_closed.proofs.closed.ClosedList.place_of.Goals as goal

pub invariant_of-self : goal.invariant_of-self
invariant_of-self c =
    let i = c.self.inside in
    let new = c.add.new in
    let same = c.in_err-add.ensures.err in
    let table = subst (λ (xs : List State). IsTable xs new.notes.items new.heads.items) same c.in_err-add.ensures.table in (
      subst (λ (xs : List State). IsClosedListKept i.task.now xs new.notes.items new.heads.items i.shuts.items i.entered) (sym same)
          (kept_alike i.task.now i.rows.states i.notes.items i.heads.items i.shuts.items i.entered c.self.invariant.0 new.notes.items new.heads.items c.in_err-add.ensures.same table),
      ap (λ (w : Widths). w.atoms) c.in_err-add.ensures.widths ∙ c.self.invariant.1,
      ap (λ (w : Widths). w.fluents) c.in_err-add.ensures.widths ∙ c.self.invariant.2,
      c.self.invariant.3,
      c.self.invariant.4,
    )

pub invariant_of-self-2 : goal.invariant_of-self-2
invariant_of-self-2 c =
    let i = c.self.inside in
    let s = c.args.state.now in
    let new = c.add.new in
    let task = sym (ap (λ (x : ClosedView). x.task) c.self.view_is) in
    let of : IsStateOf i.task.now s = subst (λ (t : Task). IsStateOf t s) task c.requires.of_task in
    let states = c.in_ok-add.ensures.states in
    let table = subst (λ (xs : List State). IsTable xs new.notes.items new.heads.items) states c.in_ok-add.ensures.table in (
      subst (λ (xs : List State). IsClosedListKept i.task.now xs new.notes.items new.heads.items i.shuts.items i.entered) (sym states)
          (kept_push i.task.now i.rows.states i.notes.items i.heads.items i.shuts.items i.entered c.self.invariant.0 new.notes.items new.heads.items s (state_hash s) of
          c.in_default.ensures.none c.in_ok-add.ensures.notes table),
      ap (λ (w : Widths). w.atoms) c.in_ok-add.ensures.widths ∙ c.self.invariant.1,
      ap (λ (w : Widths). w.fluents) c.in_ok-add.ensures.widths ∙ c.self.invariant.2,
      c.self.invariant.3,
      c.self.invariant.4,
    )

pub returns-clause-begins : goal.returns-clause-begins
returns-clause-begins c =
    let states = ap (λ (x : ClosedView). x.states) c.self.view_is in
    (c.args.state.now ∷ [], c.in_ok-add.ensures.states ∙ ap (λ (xs : List State). xs ++ c.args.state.now ∷ []) states)

pub returns-clause-closed : goal.returns-clause-closed
returns-clause-closed c =
    let i = c.self.inside in
    let k = c.self.invariant.0 in
    ap (λ (xs : List State). map (closed_of xs) i.shuts.items) c.in_ok-add.ensures.states
    ∙ (closed-longer i.rows.states (c.args.state.now ∷ []) i.shuts.items k.within
    ∙ ap (λ (x : ClosedView). x.closed) c.self.view_is)

pub returns-clause-place : goal.returns-clause-place
returns-clause-place c =
    let i = c.self.inside in
    let k = c.self.invariant.0 in
    let many = k.as_many in
    let last : c.len-place.result ≡ length i.rows.states = omega arith in
    ap (λ (xs : List State). slice_get xs c.len-place.result) c.in_ok-add.ensures.states
    ∙ (ap (slice_get (i.rows.states ++ c.args.state.now ∷ [])) last ∙ get_last i.rows.states c.args.state.now)
