use Rattle.std.proofs.Common.{ℕ, map, replicate, ap, ◌∙◌}
use Rattle.std.proofs.lemmas.List.{length-map}
use Rattle.hd_desk.specs.declared.rule.TheConstants.{ALL_PARTS}
use Rattle.hd_desk.specs.Hands.{PostView, mailbox_name}
use Rattle.hd_desk.proofs.Handing.{parts-fresh, names-fresh}
use Rattle.hd_desk.proofs.mail.Mailboxes.new.Goals as goal

pub returns-clause-of : goal.returns-clause-of
returns-clause-of g c =
    ap (map (λ (p : PostView g.row.T.Denot). p.mailbox)) c.in_ok-boxes.ensures.posts ∙ names-fresh g.row.T.Denot (map mailbox_name c.in_ok-boxes.boxes.items)

pub returns-clause-parts : goal.returns-clause-parts
returns-clause-parts g c =
    ap (map (λ (p : PostView g.row.T.Denot). p.parts)) c.in_ok-boxes.ensures.posts
    ∙ (parts-fresh g.row.T.Denot (map mailbox_name c.in_ok-boxes.boxes.items)
    ∙ ap (λ (n : ℕ). replicate n ALL_PARTS) (length-map c.in_ok-boxes.boxes.items mailbox_name ∙ c.in_ok-boxes.ensures.count))
