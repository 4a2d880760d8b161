use Rattle.std.proofs.Common.{◌++◌, ◌∷◌, [], Some, None, sym, ap, subst, ◌∙◌, append-nil}
use Rattle.hd_task.specs.declared.task.Task.{Task}
use Rattle.hd_entries.specs.Holding.{parcel_of}
use Rattle.hd_entries.specs.Resuming.{IsOpenAt}
use Rattle.hd_recovery.specs.Recovered.{nodes_before, team}
use Rattle.hd_recovery.proofs.Opening.{nodes_more}
use Rattle.hd_recovery.proofs.Teams.{on_ok}
use Rattle.hd_recovery.proofs.handing.open_one.Goals as goal

pub take_at_owner-requires-clause-of_task : goal.take_at_owner-requires-clause-of_task
take_at_owner-requires-clause-of_task g c =
    (subst (IsOpenAt c.args.book.now.state c.args.place) c.in-Some.is c.in_ok-parcel.ensures).2.task ∙ sym c.task.ensures

pub take_at_owner-requires-clause-team : goal.take_at_owner-requires-clause-team
take_at_owner-requires-clause-team g c =
    let b = c.args.book.now.state in (
      c.requires.team.0,
      nodes_before b c.args.place,
      c.requires.team.1 ∙ ap (λ (t : Task). team t c.args.count c.requires.team.0 (nodes_before b c.args.place)) (sym c.task.ensures),
    )

pub returns-in-Some : goal.returns-in-Some
returns-in-Some g c = λ closed is.
    let b = c.args.book.now.state in
    let n = c.args.count in
    let at = subst (IsOpenAt b c.args.place) c.in-Some.is c.in_ok-parcel.ensures in
    let more = nodes_more b c.requires.kept c.requires.again c.args.place c.requires.within (Some c.in-Some.parcel) at in
    on_ok c.take_at_owner.result
    (λ e. e ∙ (ap (λ (t : Task). team t n closed (nodes_before b c.args.place ++ parcel_of c.in-Some.parcel ∷ [])) c.task.ensures ∙ ap (team b.task n closed) more))
    (c.take_at_owner.ensures closed (nodes_before b c.args.place) (is ∙ ap (λ (t : Task). team t n closed (nodes_before b c.args.place)) (sym c.task.ensures)))

pub returns-in-None : goal.returns-in-None
returns-in-None g c = λ closed is.
    let b = c.args.book.now.state in
    let at = subst (IsOpenAt b c.args.place) c.in-None.is c.in_ok-parcel.ensures in
    is
    ∙ ap (team b.task c.args.count closed)
    (sym (append-nil (nodes_before b c.args.place)) ∙ nodes_more b c.requires.kept c.requires.again c.args.place c.requires.within None at)
