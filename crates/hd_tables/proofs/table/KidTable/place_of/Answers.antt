use Rattle.std.proofs.Common.{◌≡◌, ◌<◌, ◌∙◌, length, get_or, sym, ap, subst, arith}
use Rattle.std.specs.Prelude.{IfSome}
use Rattle.std.specs.List.{position}
use Rattle.std.proofs.lemmas.List.{get_or_default}
use Rattle.hd_tables.specs.Kids.{KidsView, same_kid}
use Rattle.hd_tables.proofs.Placing.{length-kids_by, row_rises}
use Rattle.hd_tables.proofs.Looking.{root_found, root_alone, kid_unknown, entry_row, looked_for, found_within}
use Rattle.hd_tables.proofs.table.KidTable.place_of.Goals as goal

pub returns-then-kid-eq-ROOT_ACTION-clause-place :
    goal.returns-then-kid-eq-ROOT_ACTION-clause-place
returns-then-kid-eq-ROOT_ACTION-clause-place c =
    let s = c.self.inside in
    sym (root_found s.firsts.items s.actions.items s.marks.items s.settled c.args.kid c.self.invariant c.if-kid-eq-ROOT_PARENT.true c.if-kid-eq-ROOT_ACTION.true)
    ∙ ap (λ (t : KidsView). position (same_kid c.args.kid) t.kids) c.self.view_is

pub returns-then-kid-eq-ROOT_ACTION-clause-within :
    goal.returns-then-kid-eq-ROOT_ACTION-clause-within
returns-then-kid-eq-ROOT_ACTION-clause-within c =
    let s = c.self.inside in
    let view = ap (λ (t : KidsView). length t.kids) c.self.view_is in
    let count = length-kids_by s.firsts.items s.actions.items in
    let some = c.self.invariant.some in
    omega (arith, view, count, some)

pub returns-else-kid-eq-ROOT_ACTION-clause-place :
    goal.returns-else-kid-eq-ROOT_ACTION-clause-place
returns-else-kid-eq-ROOT_ACTION-clause-place c =
    let s = c.self.inside in
    sym (root_alone s.firsts.items s.actions.items s.marks.items s.settled c.args.kid c.self.invariant c.if-kid-eq-ROOT_PARENT.true c.if-kid-eq-ROOT_ACTION.false (omega arith))
    ∙ ap (λ (t : KidsView). position (same_kid c.args.kid) t.kids) c.self.view_is

pub returns-then-entry-len-clause-place : goal.returns-then-entry-len-clause-place
returns-then-entry-len-clause-place c =
    let s = c.self.inside in
    let len = c.len.ensures.len in
    sym (kid_unknown s.firsts.items s.actions.items s.marks.items s.settled c.args.kid c.self.invariant c.if-kid-eq-ROOT_PARENT.false (omega (arith, len)))
    ∙ ap (λ (t : KidsView). position (same_kid c.args.kid) t.kids) c.self.view_is

pub place_in-requires-clause-rises : goal.place_in-requires-clause-rises
place_in-requires-clause-rises c =
    let s = c.self.inside in
    let len = c.len.ensures.len in
    let low : c.at.result.now ≡ get_or s.firsts.items c.args.kid.parent 0 =
    c.at.ensures ∙ get_or_default s.firsts.items c.args.kid.parent c.at.result.now 0 (omega (arith, len))
    in
    let row = entry_row s.firsts.items s.actions.items s.marks.items s.settled c.args.kid.parent c.at.result.now c.end_of-end.result c.len-posted.result c.self.invariant (omega (arith, len)) low c.len-posted.ensures.len c.end_of-end.ensures.next c.end_of-end.ensures.last in
    row_rises s.firsts.items s.actions.items s.marks.items s.settled c.args.kid.parent c.at.result.now c.end_of-end.result c.self.invariant row

pub returns-clause-place : goal.returns-clause-place
returns-clause-place c =
    let s = c.self.inside in
    let len = c.len.ensures.len in
    let low : c.at.result.now ≡ get_or s.firsts.items c.args.kid.parent 0 =
    c.at.ensures ∙ get_or_default s.firsts.items c.args.kid.parent c.at.result.now 0 (omega (arith, len))
    in
    let row = entry_row s.firsts.items s.actions.items s.marks.items s.settled c.args.kid.parent c.at.result.now c.end_of-end.result c.len-posted.result c.self.invariant (omega (arith, len)) low c.len-posted.ensures.len c.end_of-end.ensures.next c.end_of-end.ensures.last in
    looked_for s.firsts.items s.actions.items s.marks.items s.settled c.at.result.now c.end_of-end.result c.args.kid c.self.invariant c.if-kid-eq-ROOT_PARENT.false row c.place_in.result c.place_in.ensures
    ∙ ap (λ (t : KidsView). position (same_kid c.args.kid) t.kids) c.self.view_is

pub returns-clause-within : goal.returns-clause-within
returns-clause-within c =
    let s = c.self.inside in
    let len = c.len.ensures.len in
    let low : c.at.result.now ≡ get_or s.firsts.items c.args.kid.parent 0 =
    c.at.ensures ∙ get_or_default s.firsts.items c.args.kid.parent c.at.result.now 0 (omega (arith, len))
    in
    let row = entry_row s.firsts.items s.actions.items s.marks.items s.settled c.args.kid.parent c.at.result.now c.end_of-end.result c.len-posted.result c.self.invariant (omega (arith, len)) low c.len-posted.ensures.len c.end_of-end.ensures.next c.end_of-end.ensures.last in
    subst (λ (t : KidsView). IfSome c.place_in.result (λ i. i < length t.kids)) c.self.view_is
    (found_within s.firsts.items s.actions.items c.args.kid.parent c.at.result.now c.end_of-end.result c.args.kid.action row c.place_in.result c.place_in.ensures)
