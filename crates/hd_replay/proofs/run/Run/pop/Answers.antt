use Rattle.std.proofs.Common.{refl, sym, subst, arith}
use Rattle.std.proofs.lemmas.List.{length-set}
use Rattle.hd_task.specs.declared.task.Task.{Task}
use Rattle.hd_replay.specs.Held.{AreParcelsOf}
use Rattle.hd_replay.proofs.Standing.{read_at, seat_of_task, boxes_with, box_of}
use Rattle.hd_replay.proofs.Turning.{pop_turns}
use Rattle.hd_replay.proofs.run.Run.pop.Goals as goal

pub pop-requires : goal.pop-requires
pop-requires g c =
    let v = c.self.inside in
    let k = c.args.number in
    let e = read_at v.seats.items k c.index_mut.result.now (omega arith) c.index_mut.ensures.value in
    let b = read_at v.mailboxes.items k c.index_mut-2.result.now (omega arith) c.index_mut-2.ensures.value in
    record {
      of_task =
          subst (λ (t : Task). AreParcelsOf t c.index_mut-2.result.now.items) (sym (seat_of_task _ c.args.self.now c.self.view_is c.requires.sound k _ e))
          (box_of _ v.book.state.task _ v.mailboxes.items c.self.invariant.2 k _ b);
    }

pub invariant_of-self-2 : goal.invariant_of-self-2
invariant_of-self-2 g c =
    let v = c.self.inside in
    let k = c.args.number in
    let e = read_at v.seats.items k c.index_mut.result.now (omega arith) c.index_mut.ensures.value in (
      c.self.invariant.0,
      c.self.invariant.1,
      boxes_with _ v.book.state.task _ v.mailboxes.items c.self.invariant.2 _ k c.pop.new.mailbox (length-set v.seats.items k c.pop.new.self)
          (subst (λ (t : Task). AreParcelsOf t c.pop.new.mailbox.items) (seat_of_task _ c.args.self.now c.self.view_is c.requires.sound k _ e) c.pop.ensures.of_task),
    )

pub returns : goal.returns
returns g c =
    let v = c.self.inside in
    let k = c.args.number in
    let e = read_at v.seats.items k c.index_mut.result.now (omega arith) c.index_mut.ensures.value in
    let b = read_at v.mailboxes.items k c.index_mut-2.result.now (omega arith) c.index_mut-2.ensures.value in
    pop_turns _ k _ c.args.self.now c.self.view_is v.mailboxes.items refl _ e c.pop.new.self _ c.pop.new.mailbox b c.pop.ensures.seat c.pop.ensures.mailbox
