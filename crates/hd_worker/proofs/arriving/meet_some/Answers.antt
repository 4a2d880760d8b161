use Rattle.std.proofs.Common.{◌+◌, Some, ℕ, length, slice_get, sym, ap, ◌∙◌, subst}
use Rattle.std.proofs.lemmas.List.{length_push}
use Rattle.std.proofs.lemmas.Option.{slice_get-get_or}
use Rattle.hd_task.specs.declared.state.State.{State}
use Rattle.hd_node.specs.Parcel.{ParcelView}
use Rattle.hd_worker.specs.Nodes.{AreMet}
use Rattle.hd_worker.proofs.Settled.{begins_twice}
use Rattle.hd_worker.proofs.Meeting.{met_stays, met_push}
use Rattle.hd_worker.proofs.arriving.meet_some.Goals as goal

pub loop-number-preserved : goal.loop-number-preserved
loop-number-preserved c =
    let before = c.loop-number in
    let inv = before.invariant in
    let states = c.place_of.new.self.states in
    let fresh = c.args.fresh.now.items in
    let p = c.in-Some.parcel.now in
    let place = c.in_ok-place_in_32_bits.field-0 in
    let at = ap (slice_get fresh) inv.counted ∙ (slice_get-get_or fresh before.number p c.in-Some.ensures.item.3.0 ∙ ap (λ (q : ParcelView). Some q) (sym c.in-Some.ensures.lookup)) in
    let there = ap (slice_get states) c.in_ok-place_in_32_bits.ensures ∙ (c.in_ok-place.ensures.place ∙ ap (λ (s : State). Some s) c.hashed.ensures) in
    record {
      same_task = c.place_of.ensures.task ∙ inv.same_task;
      closed = c.place_of.ensures.closed ∙ inv.closed;
      begins = begins_twice c.args.known.now.states before.known.states states inv.begins c.place_of.ensures.begins;
      met =
          subst (AreMet states fresh) (sym c.in_ok-push.ensures.items)
          (met_push states fresh before.places.items p place (met_stays before.known.states states fresh before.places.items c.place_of.ensures.begins inv.met) at there);
      counted = ap length c.in_ok-push.ensures.items ∙ (length_push before.places.items place ∙ ap (λ (n : ℕ). n + 1) inv.counted);
    }
