use Rattle.std.proofs.Common.{◌++◌, [], ◌∷◌, ap, ◌∙◌, arith}
use Rattle.crossbeam_queue.specs.Passes.{view}
use Rattle.hd_desk.specs.declared.rule.Post.{Post}
use Rattle.hd_desk.proofs.Posting.{names, clears, learns, not_full, not_empty}
use Rattle.hd_desk.proofs.mail.opened.Goals as goal

pub push_as-requires-clause-rule : goal.push_as-requires-clause-rule
push_as-requires-clause-rule g c =
    let fresh = c.in_ok-queue.ensures.3 in
    let all = ap (λ (v : Post g.row.K.Denot g.row.T.Denot). v.parts) fresh in
    (names g.T.Sent.of _ _ _ _ all (ap (λ (v : Post g.row.K.Denot g.row.T.Denot). v.of) fresh), learns g.T.Sent.of _ _ all)

pub pop_as-requires-clause-rule : goal.pop_as-requires-clause-rule
pop_as-requires-clause-rule g c =
    let fresh = c.in_ok-queue.ensures.3 in
    let named = c.in-Ok.ensures.rule in
    let all = ap (λ (v : Post g.row.K.Denot g.row.T.Denot). v.parts) named ∙ ap (λ (v : Post g.row.K.Denot g.row.T.Denot). v.parts) fresh in
    let put = ap (λ (v : Post g.row.K.Denot g.row.T.Denot). v.put) named ∙ ap (λ (v : Post g.row.K.Denot g.row.T.Denot). v.put ++ c.args.seed ∷ []) fresh in
    let taken = ap (λ (v : Post g.row.K.Denot g.row.T.Denot). v.taken) named ∙ ap (λ (v : Post g.row.K.Denot g.row.T.Denot). v.taken) fresh in
    (clears g.T.Sent.of _ _ _ all put taken, learns g.T.Sent.of _ _ all)

pub unreachable-requires : goal.unreachable-requires
unreachable-requires g c =
    let fresh = c.in_ok-queue.ensures.3 in
    let named = c.in-Ok.ensures.rule in
    let put = ap (λ (v : Post g.row.K.Denot g.row.T.Denot). v.put) named ∙ ap (λ (v : Post g.row.K.Denot g.row.T.Denot). v.put ++ c.args.seed ∷ []) fresh in
    let taken = ap (λ (v : Post g.row.K.Denot g.row.T.Denot). v.taken) named ∙ ap (λ (v : Post g.row.K.Denot g.row.T.Denot). v.taken) fresh in
    let held = c.in-None.ensures.rule in
    not_empty g.T.Sent.of (view c.push_as.new.pass) c.args.seed held.1.0 put taken held.1.1 held.1.2

pub unreachable-requires-in-Err : goal.unreachable-requires-in-Err
unreachable-requires-in-Err g c =
    let fresh = c.in_ok-queue.ensures.3 in
    let put = ap (λ (v : Post g.row.K.Denot g.row.T.Denot). v.put) fresh in
    let taken = ap (λ (v : Post g.row.K.Denot g.row.T.Denot). v.taken) fresh in
    let held = c.in-Err.ensures.rule in
    let places = c.in_ok-queue.ensures.0 in
    let full = held.2.1 in
    not_full g.T.Sent.of (view c.in_ok-queue.pass) held.2.0 put taken (omega arith) held.2.2
