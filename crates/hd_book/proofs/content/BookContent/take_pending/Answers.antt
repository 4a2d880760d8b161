use Rattle.std.proofs.Common.{◌≡◌, ◌∙◌, List, length, vec_len, ap, arith}
use Rattle.hd_task.specs.declared.plan.Kid.{Kid}
use Rattle.hd_book.proofs.content.BookContent.take_pending.Goals as goal

pub push_entries-requires-clause-room : goal.push_entries-requires-clause-room
push_entries-requires-clause-room c =
    let g = c.in-Some.ensures in
    let kids = c.into_vec-kids in
    let none : vec_len kids.result ≡ 0 = kids.result.ok.0 ∙ ap (λ (ks : List Kid). length ks) kids.ensures.empty in
    let few = g.few in
    let enough = kids.ensures.enough in
    omega (arith, none, few, enough)
