use Rattle.std.proofs.Common.{◌∙◌, ◌<◌, ◌++◌, ◌∷◌, [], ℕ, List, length, sym, ap, subst, arith}
use Rattle.hd_task.specs.declared.plan.TheConstants.{ROOT_PARENT}
use Rattle.hd_tables.specs.Kids.{KidsView, HasNone, with_new_entry}
use Rattle.hd_tables.specs.Places.{AreKids}
use Rattle.hd_tables.proofs.Placing.{entered_kept, none_yet}
use Rattle.hd_tables.proofs.Showing.{shown_entered}
use Rattle.hd_tables.proofs.table.KidTable.enter.Goals as goal

pub invariant_of-self : goal.invariant_of-self
invariant_of-self c =
    let s = c.self.inside in
    let e = ap (λ (t : KidsView). t.entries) c.self.view_is in
    let few : length s.firsts.items < ROOT_PARENT = omega (arith, e, c.requires.few) in
    subst (λ (fs : List ℕ). AreKids fs s.actions.items s.marks.items s.settled)
    (sym (c.push.ensures.items ∙ ap (λ (n : ℕ). s.firsts.items ++ n ∷ []) c.len-first.ensures.len))
    (entered_kept s.firsts.items s.actions.items s.marks.items s.settled c.self.invariant few)

pub returns-clause-entered : goal.returns-clause-entered
returns-clause-entered c =
    let s = c.self.inside in
    shown_entered s.firsts c.push.new.self s.actions s.marks c.len-first.result c.len-first.ensures.len c.push.ensures.items c.push.ensures.room
    ∙ ap with_new_entry c.self.view_is

pub returns-clause-fresh : goal.returns-clause-fresh
returns-clause-fresh c =
    let s = c.self.inside in
    let e = ap (λ (t : KidsView). t.entries) c.self.view_is in
    subst (λ (t : KidsView). HasNone t.kids t.entries) c.self.view_is
    (none_yet s.firsts.items s.actions.items (omega (arith, e, c.requires.few)))
