use Rattle.std.proofs.Common.{ℕ, ◌<◌, ◌-◌, map, sym, ap, ◌∙◌, subst, refl}
use Rattle.std.specs.List.{AllByRecursion}
use Rattle.hd_desk.specs.Hands.{PostView, HandsView, post_of, less_part, one_part}
use Rattle.hd_desk.proofs.Handing.{are_shareable, kept_map, moved_map}
use Rattle.hd_desk.proofs.mail.Mailboxes.share.Goals as goal

pub split_passes-requires-clause-parts : goal.split_passes-requires-clause-parts
split_passes-requires-clause-parts g c =
    are_shareable (map post_of c.hands.inside.passes.items)
    (subst (λ (h : HandsView g.row.K.Denot g.row.T.Denot). AllByRecursion (λ (n : ℕ). 1 < n) (map (λ (p : PostView g.row.T.Denot). p.parts) h.posts)) (sym c.hands.view_is) c.requires.parts)

pub invariant_of-result : goal.invariant_of-result
invariant_of-result g c = (c.split_passes.ensures.hands _ c.hands.invariant).1

pub invariant_of-hands : goal.invariant_of-hands
invariant_of-hands g c = (c.split_passes.ensures.hands _ c.hands.invariant).0

pub returns-clause-of : goal.returns-clause-of
returns-clause-of g c =
    ap (map (λ (p : PostView g.row.T.Denot). p.mailbox)) c.split_passes.ensures.left
    ∙ (kept_map (λ (p : PostView g.row.T.Denot). p.mailbox) less_part (map post_of c.hands.inside.passes.items) (λ _. refl)
    ∙ (ap (λ (h : HandsView g.row.K.Denot g.row.T.Denot). map (λ (p : PostView g.row.T.Denot). p.mailbox) h.posts) c.hands.view_is ∙ c.requires.of))

pub returns-clause-new_of : goal.returns-clause-new_of
returns-clause-new_of g c =
    ap (map (λ (p : PostView g.row.T.Denot). p.mailbox)) c.split_passes.ensures.new
    ∙ (kept_map (λ (p : PostView g.row.T.Denot). p.mailbox) one_part (map post_of c.hands.inside.passes.items) (λ _. refl)
    ∙ (ap (λ (h : HandsView g.row.K.Denot g.row.T.Denot). map (λ (p : PostView g.row.T.Denot). p.mailbox) h.posts) c.hands.view_is ∙ c.requires.of))

pub returns-clause-parts : goal.returns-clause-parts
returns-clause-parts g c =
    ap (map (λ (p : PostView g.row.T.Denot). p.parts)) c.split_passes.ensures.left
    ∙ (moved_map (λ (p : PostView g.row.T.Denot). p.parts) less_part (λ (n : ℕ). n - 1) (map post_of c.hands.inside.passes.items) (λ _. refl)
    ∙ ap (λ (h : HandsView g.row.K.Denot g.row.T.Denot). map (λ (n : ℕ). n - 1) (map (λ (p : PostView g.row.T.Denot). p.parts) h.posts)) c.hands.view_is)

pub returns-clause-new_parts : goal.returns-clause-new_parts
returns-clause-new_parts g c =
    ap (map (λ (p : PostView g.row.T.Denot). p.parts)) c.split_passes.ensures.new
    ∙ (moved_map (λ (p : PostView g.row.T.Denot). p.parts) one_part (λ (n : ℕ). 1) (map post_of c.hands.inside.passes.items) (λ _. refl)
    ∙ ap (λ (h : HandsView g.row.K.Denot g.row.T.Denot). map (λ (n : ℕ). 1) (map (λ (p : PostView g.row.T.Denot). p.parts) h.posts)) c.hands.view_is)
