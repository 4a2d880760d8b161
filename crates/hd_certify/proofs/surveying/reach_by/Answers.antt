use Rattle.std.proofs.Common.{ℕ, ◌+◌, ◌++◌, Option, List, map, length, refl, sym, ◌∙◌, ap, subst, arith}
use Rattle.std.proofs.Math.Facts.{Fits-of_lt}
use Rattle.hd_base.specs.Lists.{BeginsWith}
use Rattle.hd_task.specs.declared.state.State.{State}
use Rattle.hd_task.specs.Plans.{Node}
use Rattle.hd_closed.specs.Closed.{ClosedView}
use Rattle.hd_entries.specs.Settling.{node_of}
use Rattle.hd_entries.specs.Holding.{EntriesView, posted_count}
use Rattle.hd_entries.specs.Resuming.{open_before}
use Rattle.hd_entries.proofs.OpenPlaces.{all_open}
use Rattle.hd_certify.specs.declared.gathering.MetNode.{MetNode}
use Rattle.hd_certify.specs.Covering.{IsSpared}
use Rattle.hd_certify.specs.Gathering.{AreGathered, node_met}
use Rattle.hd_certify.specs.Survey.{IsSettledBy, Lessens, Tallies}
use Rattle.hd_certify.proofs.Meeting.{as_nodes, gathered_on}
use Rattle.hd_certify.proofs.Surveys.{IsSettledBefore, settled_first, settled_more, settled_all}
use Rattle.hd_certify.proofs.surveying.reach_by.Goals as goal

pub loop-from-init : goal.loop-from-init
loop-from-init c =
    let g = c.args.gathered.now in
    let before = c.requires.gathered in
    let same = c.estimate_from.ensures.same in
    let told = c.totals_of.ensures in
    let begins = subst (λ (x : ClosedView). BeginsWith c.totals_of.new.closed.states x.states) same told.begins in
    record {
      same = refl;
      gathered = gathered_on g c.totals_of.new.closed before (told.closed_task ∙ ap (λ (x : ClosedView). x.task) same) (told.closed ∙ ap (λ (x : ClosedView). x.closed) same) begins;
      estimates_task = told.estimates_task ∙ (c.estimate_from.ensures.task ∙ c.requires.estimates);
      settled = settled_first g.entries.state c.len-settled.result c.len-settled.ensures.len;
      few = omega (arith, c.len-settled.ensures.len);
      order = omega arith;
    }

pub overflow_add-settled : goal.overflow_add-settled
overflow_add-settled c =
    let long = ap length c.as_slice.ensures.value in
    let kept = c.loop-from.invariant.gathered.kept in
    Fits-of_lt (omega (arith, c.loop-from.invariant.few, c.spared_of-spared.ensures.few, long, c.in_ok-open.ensures.few, kept.short, c.min.ensures, c.posted-posted.ensures.few))

pub loop-from-preserved : goal.loop-from-preserved
loop-from-preserved c =
    let g = c.loop-from.gathered in
    let b = g.entries.state in
    let from = c.loop-from.from in
    let end = from + c.min.result in
    let states = g.closed.states in
    let ms = c.in_ok-open.open.items in
    let before = c.loop-from.invariant in
    let told = c.in_ok-open.ensures in
    let spared = c.spared_of-spared.ensures in
    let least = c.least_of-here.ensures in
    let same = least.same ∙ spared.same in
    let long = ap length c.as_slice.ensures.value in
    let tally = subst (λ (xs : List MetNode). Tallies (IsSpared b) (map (node_met states) xs) 0 c.spared_of-spared.result) c.as_slice.ensures.value spared.tallies in
    let lessens =
    subst (λ (ss : List State). Lessens b.task (IsSpared b) (map (node_met ss) ms) _ c.least_of-here.result) (ap (λ (x : ClosedView). x.states) spared.same)
    (subst (λ (xs : List MetNode). Lessens b.task (IsSpared b) (map (node_met c.spared_of-spared.new.closed.states) xs) _ c.least_of-here.result) c.as_slice-in-loop-from.ensures.value least.lessens)
    in
    record {
      same = before.same;
      gathered = subst (λ (x : ClosedView). AreGathered (record { entries = g.entries; closed = x; nodes = g.nodes })) (sym same) before.gathered;
      estimates_task = least.estimates_task ∙ (spared.estimates_task ∙ before.estimates_task);
      settled =
          subst (λ (o : Option ℕ). IsSettledBefore b end (c.loop-from.settled + c.spared_of-spared.result) o) (sym c.lesser-least.ensures)
          (settled_more b from end c.loop-from.settled c.spared_of-spared.result c.loop-from.least c.least_of-here.result (map (node_met states) ms) before.settled
          (ap (λ (rs : List (Option Node)). map (node_of b) (open_before b from) ++ rs) (as_nodes states ms) ∙ told.open) tally lessens);
      few = omega (arith, before.few, told.few, long, spared.few);
      order = omega (arith, before.order, c.min.ensures);
    }

pub returns-clause-settled : goal.returns-clause-settled
returns-clause-settled c =
    let same = c.loop-from.invariant.same in
    let b = c.loop-from.gathered.entries.state in
    subst (λ (x : EntriesView). IsSettledBy x.state c.loop-from.settled c.loop-from.least) same
    (settled_all b c.loop-from.from c.loop-from.settled c.loop-from.least
    (all_open b c.loop-from.invariant.gathered.kept c.loop-from.from (omega (arith, c.loop-from-test.false, c.posted-posted.ensures.posted, ap (λ (x : EntriesView). posted_count x.state) same)))
    c.loop-from.invariant.settled)
