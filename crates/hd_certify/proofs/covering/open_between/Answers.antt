use Rattle.std.proofs.Common.{◌∙◌, ◌<◌, ◌++◌, List, [], ◌∷◌, map, length, length-append, sym, ap, subst, arith}
use Rattle.std.specs.List.{AllByRecursion}
use Rattle.hd_base.proofs.Lists.{AllByRecursion-push}
use Rattle.hd_entries.specs.Settling.{node_of}
use Rattle.hd_entries.specs.Holding.{posted_count}
use Rattle.hd_entries.specs.Resuming.{open_before}
use Rattle.hd_certify.specs.declared.gathering.MetNode.{MetNode}
use Rattle.hd_certify.specs.Gathering.{IsMet, nodes_met}
use Rattle.hd_certify.proofs.Meeting.{met_at_place}
use Rattle.hd_certify.proofs.Parts.{added, as_many, passed}
use Rattle.hd_certify.proofs.covering.open_between.Goals as goal
use Rattle.hd_certify.proofs.covering.open_between.Goals.{then-not-is_settled+in_ok-push, else-not-is_settled}

pub loop-place-preserved : goal.loop-place-preserved
loop-place-preserved c =
    let g = c.args.gathered.now in
    let b = g.entries.state in
    let place = c.loop-place.place in
    let before = c.loop-place.invariant in
    let lt : place < posted_count b = omega (arith, c.loop-place-test.true, c.requires.within) in
    let states = g.closed.states in
    let ms = c.loop-place.open.items in
    let all = g.nodes.items in
    let kept = c.requires.gathered.kept in
    let inside : place < length all = omega (arith, lt, as_many b kept states all c.requires.gathered.nodes) in
    elim c.if-not-is_settled.branch [
      | then-not-is_settled+in_ok-push w ↦
          let m = w.index.result.now in
          let more = ap (λ v. v.items) w.open-is ∙ w.in_ok-push.ensures.items in
          let long = ap length more in
          let both = length-append ms (m ∷ []) in
          record {
            nodes =
                ap (λ (xs : List MetNode). map (node_of b) (open_before b c.args.from) ++ nodes_met states xs) more
                ∙ added b kept c.requires.again place lt (sym c.is_settled.ensures ∙ w.if-not-is_settled.true) c.args.from states all ms c.requires.gathered.nodes inside m w.index.ensures before.nodes;
            met = subst (λ (xs : List MetNode). AllByRecursion (IsMet states) xs) (sym more) (AllByRecursion-push (IsMet states) ms m before.met (met_at_place states all c.requires.gathered.met place inside m w.index.ensures));
            few = omega (arith, long, both, before.few);
          }
      | else-not-is_settled w ↦
          let same = ap (λ v. v.items) w.open-is in
          let long = ap length same in
          record {
            nodes =
                ap (λ (xs : List MetNode). map (node_of b) (open_before b c.args.from) ++ nodes_met states xs) same
                ∙ passed b kept c.requires.again place lt (sym c.is_settled.ensures ∙ w.if-not-is_settled.false) c.args.from states ms before.nodes;
            met = subst (λ (xs : List MetNode). AllByRecursion (IsMet states) xs) (sym same) before.met;
            few = omega (arith, long, before.few);
          }
    ]
