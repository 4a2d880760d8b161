use Rattle.std.proofs.Common.{◌≡◌, None, Option, List, ◌++◌, replicate, slice_set, sym, ap, subst, ◌∙◌}
use Rattle.std.specs.Option.{option_flatten}
use Rattle.hd_book.specs.declared.outgoing.Outgoing.{Outgoing}
use Rattle.hd_book.specs.Slots.{Slotted, ticket_at}
use Rattle.hd_book.proofs.Spent.{slot_at, spend_spent, spend_slot, spent_more}
use Rattle.hd_book.proofs.slots.Slots.take.Goals as goal

pub returns-then-number-spent-clause-spent : goal.returns-then-number-spent-clause-spent
returns-then-number-spent-clause-spent g c =
    subst (λ (v : Slotted g.row.R.Denot). v.tickets ≡ slice_set v.tickets c.args.number None) c.self.view_is (sym (spend_spent c.self.inside.spent c.self.inside.slots.items c.args.number c.if-number-spent.true))

pub returns-clause-out : goal.returns-clause-out
returns-clause-out g c =
    let s = c.self.inside in
    c.spend_at-out.ensures.out
    ∙ (sym (ap option_flatten (slot_at s.spent s.slots.items c.args.number c.if-number-spent.false))
    ∙ ap (λ (v : Slotted g.row.R.Denot). ticket_at v.tickets c.args.number) c.self.view_is)

pub returns-clause-spent : goal.returns-clause-spent
returns-clause-spent g c =
    let s = c.self.inside in
    sym (spent_more s.spent c.pop_spent.result _ _ c.pop_spent.ensures)
    ∙ (ap (λ (xs : List (Option (Outgoing g.row.R.Denot))). replicate s.spent None ++ xs) c.spend_at-out.ensures.spent
    ∙ (sym (spend_slot s.spent s.slots.items c.args.number c.if-number-spent.false)
    ∙ ap (λ (v : Slotted g.row.R.Denot). slice_set v.tickets c.args.number None) c.self.view_is))
