use Rattle.std.proofs.Common.{◌≡◌, List, map, take, drop, ◌++◌, length, sym, ap, subst, ◌∙◌, arith}
use Rattle.std.proofs.lemmas.List.{length-map}
use Rattle.hd_closed.specs.declared.closed.Shut.{Shut}
use Rattle.hd_closed.specs.Closed.{ClosedView}
use Rattle.hd_closed.specs.Numbering.{closed_numbered}
use Rattle.hd_closed.specs.Shut.{closed_of, shut_numbered, HasNumbered}
use Rattle.hd_closed.proofs.Keeping.{written_back, entered_numbered, kept_numbered, closed-numbered}
use Rattle.hd_closed.proofs.closed.ClosedList.number.Goals as goal

pub entered_from-self-inside-requires-clause-entered : goal.entered_from-self-inside-requires-clause-entered
entered_from-self-inside-requires-clause-entered c =
    let shuts = c.self.inside.shuts in
    let new = c.number_from.new.shuts in
    let named : new ≡ map (shut_numbered c.args.first c.args.given.now) shuts.items = c.number_from.ensures ∙ ap (map (shut_numbered c.args.first c.args.given.now)) c.as_mut_slice.ensures.value in
    let many : length new ≡ length shuts.items = ap length named ∙ length-map shuts.items (shut_numbered c.args.first c.args.given.now) in
    let whole : take shuts.len (new ++ drop (length new) shuts.items) ≡ new = written_back shuts.len new shuts.items (omega arith) (omega arith) in
    subst (λ (xs : List Shut). HasNumbered xs c.self.inside.entered) (sym (c.as_slice.ensures.value ∙ (whole ∙ named)))
    (entered_numbered c.args.first c.args.given.now shuts.items c.self.inside.entered c.self.invariant.0.numbered)

pub invariant_of-self : goal.invariant_of-self
invariant_of-self c =
    let i = c.self.inside in
    let shuts = i.shuts in
    let new = c.number_from.new.shuts in
    let named : new ≡ map (shut_numbered c.args.first c.args.given.now) shuts.items = c.number_from.ensures ∙ ap (map (shut_numbered c.args.first c.args.given.now)) c.as_mut_slice.ensures.value in
    let many : length new ≡ length shuts.items = ap length named ∙ length-map shuts.items (shut_numbered c.args.first c.args.given.now) in
    let whole : take shuts.len (new ++ drop (length new) shuts.items) ≡ new = written_back shuts.len new shuts.items (omega arith) (omega arith) in
    let entered = c.entered_from-self-inside.result in (
      kept_numbered i.task.now i.rows.states i.notes.items i.heads.items shuts.items i.entered c.self.invariant.0 c.args.first c.args.given.now (take shuts.len (new ++ drop (length new) shuts.items)) entered (whole ∙ named)
          (subst (λ (xs : List Shut). HasNumbered xs entered) c.as_slice.ensures.value c.entered_from-self-inside.ensures.entered)
          (let bounded = c.entered_from-self-inside.ensures.bounded in let same = ap length c.as_slice.ensures.value in omega arith),
      c.self.invariant.1,
      c.self.invariant.2,
      c.self.invariant.3,
      c.self.invariant.4,
    )

pub returns-clause-closed : goal.returns-clause-closed
returns-clause-closed c =
    let i = c.self.inside in
    let shuts = i.shuts in
    let new = c.number_from.new.shuts in
    let named : new ≡ map (shut_numbered c.args.first c.args.given.now) shuts.items = c.number_from.ensures ∙ ap (map (shut_numbered c.args.first c.args.given.now)) c.as_mut_slice.ensures.value in
    let many : length new ≡ length shuts.items = ap length named ∙ length-map shuts.items (shut_numbered c.args.first c.args.given.now) in
    let whole : take shuts.len (new ++ drop (length new) shuts.items) ≡ new = written_back shuts.len new shuts.items (omega arith) (omega arith) in
    ap (map (closed_of i.rows.states)) (whole ∙ named)
    ∙ (closed-numbered c.args.first c.args.given.now i.rows.states shuts.items
    ∙ ap (λ (v : ClosedView). map (closed_numbered c.args.first c.args.given.now) v.closed) c.self.view_is)
