use Rattle.std.proofs.Common.{◌∷◌, [], length, refl, sym, ap, ◌∙◌, append_assoc, append-nil, arith}
use Rattle.std.proofs.lemmas.List.{nil_from_length}
use Rattle.std.proofs.lemmas.List.Elements.{recursion_from_All}
use Rattle.std.specs.Vec.Iter.{into_iter_items}
use Rattle.crossbeam_queue.specs.Passes.{view}
use Rattle.hd_desk.specs.declared.rule.TheConstants.{ALL_PARTS}
use Rattle.hd_desk.proofs.Gathering.{still_outside, parts_stay, seen_stays, told_more, all_seen}
use Rattle.hd_desk.proofs.Moves.{merges}
use Rattle.hd_desk.proofs.lock.Lock.gather.Goals as goal

pub loop-other-init : goal.loop-other-init
loop-other-init g c =
    let gives = c.into_iter-other-iterator.ensures.into_iter_gives in
    let long = ap length gives.0 in
    record {
      whole = gives.0;
      left = omega (arith, long, gives.1);
      outside = rw gives.0 (recursion_from_All _ _ c.requires.passes);
      all_outside = c.requires.pass;
      parts = rw gives.0 c.requires.parts;
      seen = refl;
      told = sym (append-nil _);
    }

pub absorb-requires-clause-queue : goal.absorb-requires-clause-queue
absorb-requires-clause-queue g c =
    let at = c.loop-other.invariant in
    let rest = rw c.in-Some.ensures.steps.0 at at.outside in
    (at.all_outside.0, rest.0.0)

pub absorb-requires-clause-rule : goal.absorb-requires-clause-rule
absorb-requires-clause-rule g c =
    let at = c.loop-other.invariant in
    let rest = rw c.in-Some.ensures.steps.0 at at.outside in
    merges g.B.Locked.task g.B.Locked.log _ _ _ _ at.all_outside.1 rest.0.1 rest.0.2

pub loop-other-preserved : goal.loop-other-preserved
loop-other-preserved g c =
    let at = c.loop-other.invariant in
    let steps = c.in-Some.ensures.steps in
    let short = ap length steps.0 in
    let rest = rw steps.0 at at.outside in
    let parts = rw steps.0 at at.parts in
    let is = c.absorb.ensures.rule in
    let old = c.loop-other.all in
    let new = c.absorb.new.pass in
    let other = c.in-Some.other in
    record {
      whole = append_assoc c.loop-other.yielded (other ∷ []) _ ∙ rw (← steps.0) at.whole;
      left = omega (arith, short, steps.1, at.left);
      outside = rest.1;
      all_outside = still_outside c.args.self.place old new other at.all_outside c.absorb.ensures.queue is;
      parts = parts_stay ALL_PARTS old new other (into_iter_items c.next.new.self) is parts;
      seen = seen_stays (view c.args.pass).seen old new other is at.seen;
      told = told_more (view c.args.pass).told old new other c.loop-other.yielded is at.told;
    }

pub take_back-requires : goal.take_back-requires
take_back-requires g c =
    let at = c.loop-other.invariant in
    let empty = nil_from_length _ (sym at.left ∙ c.in-None.ensures.steps.0) in
    let parts = rw empty at at.parts in
    record { pass = at.all_outside; parts = omega (arith, parts) }

pub returns : goal.returns
returns g c =
    let at = c.loop-other.invariant in
    let empty = nil_from_length _ (sym at.left ∙ c.in-None.ensures.steps.0) in
    let all = sym (append-nil _) ∙ rw empty at at.whole in
    let back = c.take_back.ensures in
    record { seen = rw (← at.seen) back.seen; all_seen = rw (← all) (all_seen _ _ _ _ _ at.told back.told) }
