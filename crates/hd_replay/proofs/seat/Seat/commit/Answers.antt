use Rattle.std.proofs.Common.{◌≡◌, ◌≢◌, ◌<◌, ◌++◌, ◌∷◌, [], true, List, length, Some, None, ap, ◌∙◌, subst, arith}
use Rattle.std.specs.Prelude.{IfSome, IfNone, option_map}
use Rattle.hd_task.specs.declared.plan.TheConstants.{ROOT_PARENT}
use Rattle.hd_node.specs.declared.batch.Batch.{Batch}
use Rattle.hd_entries.specs.Holding.{parcel_of}
use Rattle.hd_book.specs.Batches.{TicketView}
use Rattle.hd_book.specs.declared.refusal.CommitRefusal.{CommitRefusal}
use Rattle.hd_book.specs.Refusing.{commit_refusal_to}
use Rattle.hd_book.specs.Steps.{after_commit, ticket_after}
use Rattle.hd_turns.specs.Calls.{batch_of, after_batch, after_numbering}
use Rattle.hd_book.specs.declared.ticket.TheConstants.{MAX_TICKETS}
use Rattle.hd_world.specs.Seats.{Seat}
use Rattle.hd_world.specs.Moves.{is_dropped}
use Rattle.hd_replay.specs.Seats.{committed_in}
use Rattle.hd_replay.proofs.Played.{accepts, drops}
use Rattle.hd_replay.proofs.seat.Seat.commit.Goals as goal

pub returns-in-Some-2-clause-ok : goal.returns-in-Some-2-clause-ok
returns-in-Some-2-clause-ok g c =
    let b = c.args.book.now in
    let b' = c.enter.new.book in
    let x = c.self.inside in
    let w = c.next_batch.new.self in
    let w' = c.enter.new.worker in
    let batch = c.in-Some.batch.outcomes in
    let k = c.in-Some-2.ticket in
    let gives = c.in_ok-batch.ensures in
    let enters = c.in_ok-ticket.ensures in
    let hand = option_map parcel_of x.hand in
    let held = c.push_back_reserved.new.self.items in
    let told = c.bound-self-inside.result in
    let few : length x.tickets.items < MAX_TICKETS = omega arith in
    let these : batch ≡ batch_of x.worker = subst (λ o. IfSome o (λ (y : Batch). y.outcomes ≡ batch_of x.worker)) c.in-Some.is gives.batch in
    let gave : w ≡ after_batch x.worker = subst (λ o. IfSome o (λ _. w ≡ after_batch x.worker)) c.in-Some.is gives.given in
    let given : w.given ≢ [] = subst (λ o. IfSome o (λ _. w.given ≢ [])) c.in-Some.is gives.numbers in
    let accepted : commit_refusal_to b batch ≡ None = subst (λ o. IfSome o (λ _. commit_refusal_to b batch ≡ None)) c.in-Some-2.is enters.accepted in
    let book : b' ≡ after_commit batch b = subst (λ o. IfSome o (λ _. b' ≡ after_commit batch b)) c.in-Some-2.is enters.book in
    let numbered : w' ≡ after_numbering (length b.state.entries) w =
    subst (λ o. IfSome o (λ _. w' ≡ after_numbering (length b.state.entries) w)) c.in-Some-2.is enters.numbered
    in
    let ticket : k ≡ ticket_after batch b = subst (λ o. IfSome o (λ (y : TicketView). y ≡ ticket_after batch b)) c.in-Some-2.is enters.ticket in
    let tickets : held ≡ x.tickets.items ++ k ∷ [] = c.push_back_reserved.ensures.items ∙ ap (λ (ks : List TicketView). ks ++ k ∷ []) c.reserve.ensures.items in
    subst (λ (s : Seat). committed_in b s ≡ Some (b', record { worker = w'; hand = hand; tickets = held; told = told })) c.self.view_is
    (accepts b b' (record { worker = x.worker; hand = hand; tickets = x.tickets.items; told = x.told }) w w' batch k held told
    few these gave given accepted book numbered ticket tickets c.bound-self-inside.ensures)

pub returns-in-None-clause-ok : goal.returns-in-None-clause-ok
returns-in-None-clause-ok g c =
    let b = c.args.book.now in
    let b' = c.enter.new.book in
    let x = c.self.inside in
    let w = c.next_batch.new.self in
    let w' = c.enter.new.worker in
    let batch = c.in-Some.batch.outcomes in
    let gives = c.in_ok-batch.ensures in
    let enters = c.in_ok-ticket.ensures in
    let hand = option_map parcel_of x.hand in
    let held = c.reserve.new.self.items in
    let few : length x.tickets.items < MAX_TICKETS = omega arith in
    let these : batch ≡ batch_of x.worker = subst (λ o. IfSome o (λ (y : Batch). y.outcomes ≡ batch_of x.worker)) c.in-Some.is gives.batch in
    let gave : w ≡ after_batch x.worker = subst (λ o. IfSome o (λ _. w ≡ after_batch x.worker)) c.in-Some.is gives.given in
    let given : w.given ≢ [] = subst (λ o. IfSome o (λ _. w.given ≢ [])) c.in-Some.is gives.numbers in
    let dropped : (why : CommitRefusal) × (commit_refusal_to b batch ≡ Some why) × (is_dropped why ≡ true) =
    subst (λ o. IfNone o ((why : CommitRefusal) × (commit_refusal_to b batch ≡ Some why) × (is_dropped why ≡ true))) c.in-None.is enters.dropped
    in
    let same : b' ≡ b = subst (λ o. IfNone o (b' ≡ b)) c.in-None.is enters.same in
    let lost : w' ≡ after_numbering ROOT_PARENT w = subst (λ o. IfNone o (w' ≡ after_numbering ROOT_PARENT w)) c.in-None.is enters.lost in
    subst (λ (s : Seat). committed_in b s ≡ Some (b', record { worker = w'; hand = hand; tickets = held; told = x.told })) c.self.view_is
    (drops b b' (record { worker = x.worker; hand = hand; tickets = x.tickets.items; told = x.told }) w w' batch held dropped.0
    few these gave given dropped.1 dropped.2 same lost c.reserve.ensures.items)
