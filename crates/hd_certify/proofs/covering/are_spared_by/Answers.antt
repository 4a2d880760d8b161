use Rattle.std.proofs.Common.{◌∙◌, ◌+◌, ◌++◌, true, false, List, Option, map, sym, ap, subst, arith}
use Rattle.hd_task.specs.Plans.{Node}
use Rattle.hd_entries.specs.Settling.{IsBookKept, node_of}
use Rattle.hd_entries.specs.Holding.{posted_count}
use Rattle.hd_entries.specs.Resuming.{open_before}
use Rattle.hd_certify.specs.declared.gathering.Gathered.{Gathered}
use Rattle.hd_certify.specs.declared.gathering.MetNode.{MetNode}
use Rattle.hd_certify.specs.Covering.{AreAllSpared, IsNeeded, AreSpared}
use Rattle.hd_certify.specs.Gathering.{node_met}
use Rattle.hd_certify.proofs.Justified.{one_needed, spared_all, spared_more}
use Rattle.hd_certify.proofs.Meeting.{as_nodes}
use Rattle.hd_certify.proofs.covering.are_spared_by.Goals as goal

pub loop-from-preserved : goal.loop-from-preserved
loop-from-preserved c =
    let g = c.loop-from.gathered in
    let b = g.entries.state in
    let from = c.loop-from.from in
    let ms = c.in_ok-open.open.items in
    let states = g.closed.states in
    let before = c.loop-from.invariant in
    let told = c.in_ok-all_spared.ensures in
    record {
      same = ap (λ x. let y : Gathered = record { entries = g.entries; closed = x; nodes = g.nodes } in y) told.same ∙ before.same;
      estimates_task = told.estimates_task ∙ before.estimates_task;
      spared =
          spared_more b from (from + c.min.result) (map (node_met states) ms) before.spared
          (ap (λ (rs : List (Option Node)). map (node_of b) (open_before b from) ++ rs) (as_nodes states ms) ∙ c.in_ok-open.ensures.open)
          (subst (λ (xs : List MetNode). AreAllSpared b (map (node_met states) xs) true) c.as_slice.ensures.value (subst (AreAllSpared b (map (node_met states) c.as_slice.result.now)) c.if-not-branch.false told.spared));
      order = omega (arith, before.order, c.min.ensures);
    }

pub returns-then-not-branch-clause-spared : goal.returns-then-not-branch-clause-spared
returns-then-not-branch-clause-spared c =
    let g = c.loop-from.gathered in
    let b = g.entries.state in
    let from = c.loop-from.from in
    let ms = c.in_ok-open.open.items in
    let states = g.closed.states in
    let told = c.in_ok-all_spared.ensures in
    subst (λ (x : Gathered). IsNeeded x.entries.state) c.loop-from.invariant.same
    (one_needed b from (from + c.min.result) (map (node_met states) ms)
    (ap (λ (rs : List (Option Node)). map (node_of b) (open_before b from) ++ rs) (as_nodes states ms) ∙ c.in_ok-open.ensures.open)
    (subst (λ (xs : List MetNode). AreAllSpared b (map (node_met states) xs) false) c.as_slice.ensures.value (subst (AreAllSpared b (map (node_met states) c.as_slice.result.now)) c.if-not-branch.true told.spared)))

pub returns-clause-spared : goal.returns-clause-spared
returns-clause-spared c =
    let same = c.loop-from.invariant.same in
    let kept : IsBookKept c.loop-from.gathered.entries.state = subst (λ (x : Gathered). IsBookKept x.entries.state) (sym same) c.requires.gathered.kept in
    let posted = ap (λ (x : Gathered). posted_count x.entries.state) same in
    subst (λ (x : Gathered). AreSpared x.entries.state) same
    (spared_all c.loop-from.gathered.entries.state kept c.loop-from.from (omega (arith, c.loop-from-test.false, c.posted-posted.ensures.posted, posted)) c.loop-from.invariant.spared)
