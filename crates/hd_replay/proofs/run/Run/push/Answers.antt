use Rattle.std.proofs.Common.{◌≡◌, ℕ, ◌%◌, length, refl, sym, ap, ◌∙◌, subst, arith}
use Rattle.std.proofs.lemmas.List.{length-set}
use Rattle.hd_task.specs.declared.task.Task.{Task}
use Rattle.hd_entries.specs.Holding.{parcel_of}
use Rattle.hd_world.specs.Seats.{Seat}
use Rattle.hd_world.specs.Moves.{owner_of}
use Rattle.hd_replay.specs.Held.{AreParcelsOf}
use Rattle.hd_replay.proofs.Standing.{read_at, seat_of_task, boxes_with, box_of, box_within}
use Rattle.hd_replay.proofs.Turning.{push_turns, push_none, first_of}
use Rattle.hd_replay.proofs.run.Run.push.Goals as goal

pub returns-in_default-clause-ok : goal.returns-in_default-clause-ok
returns-in_default-clause-ok g c =
    let v = c.self.inside in
    let k = c.args.number in
    let e = read_at v.seats.items k c.index_mut-seat.result.now (omega arith) c.index_mut-seat.ensures.value in
    push_none k _ c.args.self.now c.self.view_is _ e c.next_out.new.self c.in_default.ensures.same c.in_default.ensures.none

pub post-requires-clause-all : goal.post-requires-clause-all
post-requires-clause-all g c =
    let v = c.self.inside in
    let k = c.args.number in
    let e = read_at v.seats.items k c.index_mut-seat.result.now (omega arith) c.index_mut-seat.ensures.value in
    let b = read_at v.mailboxes.items c.owner-to.result c.index_mut.result.now (box_within _ v.book.state.task _ v.mailboxes.items c.self.invariant.2 _ (omega arith)) c.index_mut.ensures.value in
    let task : c.next_out.new.self.worker.task ≡ v.book.state.task =
    ap (λ (s : Seat). s.worker.task) c.in-Some.ensures.rest ∙ seat_of_task _ c.args.self.now c.self.view_is c.requires.sound k _ e
    in
    subst (λ (t : Task). AreParcelsOf t c.index_mut.result.now.items) (sym task) (box_of _ v.book.state.task _ v.mailboxes.items c.self.invariant.2 _ _ b)

pub invariant_of-self-in_err-post : goal.invariant_of-self-in_err-post
invariant_of-self-in_err-post g c =
    let v = c.self.inside in
    let k = c.args.number in
    let e = read_at v.seats.items k c.index_mut-seat.result.now (omega arith) c.index_mut-seat.ensures.value in
    let task : c.next_out.new.self.worker.task ≡ v.book.state.task =
    ap (λ (s : Seat). s.worker.task) c.in-Some.ensures.rest ∙ seat_of_task _ c.args.self.now c.self.view_is c.requires.sound k _ e
    in (
      c.self.invariant.0,
      c.self.invariant.1,
      boxes_with _ v.book.state.task _ v.mailboxes.items c.self.invariant.2 _ c.owner-to.result c.post.new.mailbox (length-set v.seats.items k c.post.new.self)
          (subst (λ (t : Task). AreParcelsOf t c.post.new.mailbox.items) task c.post.ensures.all),
    )

pub invariant_of-self-2 : goal.invariant_of-self-2
invariant_of-self-2 g c =
    let v = c.self.inside in
    let k = c.args.number in
    let e = read_at v.seats.items k c.index_mut-seat.result.now (omega arith) c.index_mut-seat.ensures.value in
    let task : c.next_out.new.self.worker.task ≡ v.book.state.task =
    ap (λ (s : Seat). s.worker.task) c.in-Some.ensures.rest ∙ seat_of_task _ c.args.self.now c.self.view_is c.requires.sound k _ e
    in (
      c.self.invariant.0,
      c.self.invariant.1,
      boxes_with _ v.book.state.task _ v.mailboxes.items c.self.invariant.2 _ c.owner-to.result c.post.new.mailbox (length-set v.seats.items k c.post.new.self)
          (subst (λ (t : Task). AreParcelsOf t c.post.new.mailbox.items) task c.post.ensures.all),
    )

pub returns-clause-ok : goal.returns-clause-ok
returns-clause-ok g c =
    let v = c.self.inside in
    let k = c.args.number in
    let p = parcel_of c.in-Some.parcel in
    let e = read_at v.seats.items k c.index_mut-seat.result.now (omega arith) c.index_mut-seat.ensures.value in
    let b = read_at v.mailboxes.items c.owner-to.result c.index_mut.result.now (box_within _ v.book.state.task _ v.mailboxes.items c.self.invariant.2 _ (omega arith)) c.index_mut.ensures.value in
    let long : c.len-workers.result ≡ length v.seats.items = omega arith in
    let owner : c.owner-to.result ≡ owner_of (length v.seats.items) p =
    c.owner-to.ensures.owner ∙ (ap (λ (h : ℕ). h % c.len-workers.result) c.hash.ensures ∙ ap (λ n. owner_of n p) long)
    in
    push_turns _ k _ c.args.self.now c.self.view_is v.mailboxes.items refl c.index_mut-seat.result.now e p _ c.owner-to.result c.next_out.new.self c.post.new.self c.index_mut.result.now c.post.new.mailbox
    (first_of c.index_mut-seat.result.now.worker.outbox p c.in-Some.ensures.sent) owner b c.in-Some.ensures.rest c.in_ok-post.ensures.seat c.in_ok-post.ensures.mailbox
