use Rattle.std.proofs.Common.{List, map, ap, ◌∙◌}
use Rattle.hd_desk.specs.Hands.{PostView, HandsView, post_of, joined, parts_joined}
use Rattle.hd_desk.proofs.Handing.{names-joined, parts-joined}
use Rattle.hd_desk.proofs.mail.Mailboxes.absorb.Goals as goal

pub invariant_of-hands : goal.invariant_of-hands
invariant_of-hands g c = c.join_all.ensures.hands _ c.hands.invariant

pub returns-clause-joined : goal.returns-clause-joined
returns-clause-joined g c =
    let others = c.others.inside.passes.items in
    ap (λ (ps : List (PostView g.row.T.Denot)). let h : HandsView g.row.K.Denot g.row.T.Denot = record { of = c.hands.inside.of.now; posts = ps } in h) c.join_all.ensures.joined
    ∙ (ap (λ (h : HandsView g.row.K.Denot g.row.T.Denot). let w : HandsView g.row.K.Denot g.row.T.Denot = record h { posts = joined h.posts (map post_of others) } in w) c.hands.view_is
    ∙ ap (λ (o : HandsView g.row.K.Denot g.row.T.Denot). let w : HandsView g.row.K.Denot g.row.T.Denot = record c.args.hands.now { posts = joined c.args.hands.now.posts o.posts } in w) c.others.view_is)

pub returns-clause-of : goal.returns-clause-of
returns-clause-of g c =
    let posts = map post_of c.hands.inside.passes.items in
    ap (map (λ (p : PostView g.row.T.Denot). p.mailbox)) c.join_all.ensures.joined
    ∙ (names-joined posts (map post_of c.others.inside.passes.items)
    ∙ (ap (λ (h : HandsView g.row.K.Denot g.row.T.Denot). map (λ (p : PostView g.row.T.Denot). p.mailbox) h.posts) c.hands.view_is ∙ c.requires.of))

pub returns-clause-parts : goal.returns-clause-parts
returns-clause-parts g c =
    let parts = λ (ps : List (PostView g.row.T.Denot)). map (λ (p : PostView g.row.T.Denot). p.parts) ps in
    let posts = map post_of c.hands.inside.passes.items in
    let others = map post_of c.others.inside.passes.items in
    ap parts c.join_all.ensures.joined
    ∙ (parts-joined posts others
    ∙ (ap (λ (h : HandsView g.row.K.Denot g.row.T.Denot). parts_joined (parts h.posts) (parts others)) c.hands.view_is
    ∙ ap (λ (o : HandsView g.row.K.Denot g.row.T.Denot). parts_joined (parts c.args.hands.now.posts) (parts o.posts)) c.others.view_is))
