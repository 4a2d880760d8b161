use Rattle.std.proofs.Common.{◌≡◌, ◌<◌, ◌+◌, [], ◌∷◌, ◌∙◌, length, drop, sym, ap, arith}
use Rattle.std.proofs.Math.Facts.{Fits-of_lt}
use Rattle.std.proofs.lemmas.List.{drop_more, drop_all, length-drop}
use Rattle.hd_tables.proofs.iter.IterIterator.next.Goals as goal

pub returns-then-self-len-clause-steps : goal.returns-then-self-len-clause-steps
returns-then-self-len-clause-steps g c =
    let xs = c.self.inside.list.now.items in
    let n = c.self.inside.next in
    let len = c.len.ensures.len in
    let none : drop n xs ≡ [] = drop_all n xs (omega (arith, len)) in
    (sym c.self.view_is ∙ none, sym c.self.view_is ∙ none)

pub overflow_add-self : goal.overflow_add-self
overflow_add-self g c =
    let few = c.len.ensures.few in
    let len = c.len.ensures.len in
    Fits-of_lt (omega (arith, few, len))

pub returns-clause-steps : goal.returns-clause-steps
returns-clause-steps g c =
    let xs = c.self.inside.list.now.items in
    let n = c.self.inside.next in
    let len = c.len.ensures.len in
    let lt : n < length xs = omega (arith, len) in
    sym c.self.view_is
    ∙ (drop_more xs n c.at-item.result.now lt ∙ ap (λ (x : g.row.T.Denot). x ∷ drop (n + 1) xs) (sym c.at-item.ensures))

pub returns-clause-goes : goal.returns-clause-goes
returns-clause-goes g c =
    let xs = c.self.inside.list.now.items in
    let n = c.self.inside.next in
    let len = c.len.ensures.len in
    let view = ap length c.self.view_is in
    let before = length-drop n xs in
    let after = length-drop (n + 1) xs in
    let fewer : length (drop (n + 1) xs) < length c.args.self.now = omega (arith, len, view, before, after) in
    record { on = λ _. (tt, tt, fewer); keeps = tt; rests = λ _. tt }
