use Rattle.std.proofs.Common.{◌≡◌, ◌++◌, ◌∙◌, [], ◌∷◌, map, get_or, reverse, sym, ap, append_assoc, arith}
use Rattle.std.proofs.lemmas.List.{get_or_default, map-append, reverse-append}
use Rattle.hd_base.proofs.Lists.{map-reverse}
use Rattle.hd_task.specs.declared.action.ActionId.{ActionId}
use Rattle.hd_entries.specs.declared.entry.ExpandedPlan.{ExpandedPlan}
use Rattle.hd_entries.specs.Settling.{expansions}
use Rattle.hd_entries.specs.Holding.{unmarked}
use Rattle.hd_entries.proofs.Walking.{root_plan, entry_plan}
use Rattle.hd_entries.proofs.expanded.ExpandedPlans.plan_to.Goals as goal

pub loop-kid-smaller : goal.loop-kid-smaller
loop-kid-smaller c =
    let s = c.args.self.now in
    let l = c.loop-kid in
    let e = c.at-in-loop-kid.result in
    let same : c.at.result ≡ e = c.at.ensures ∙ (get_or_default s.entries.items l.number c.at.result e l.invariant.among ∙ sym c.at-in-loop-kid.ensures) in
    (entry_plan s c.requires.held l.number e l.invariant.among c.at-in-loop-kid.ensures (λ is. c.loop-kid-test.true (ap (λ (x : ExpandedPlan). x.kid.parent) same ∙ is))).before

pub loop-kid-preserved : goal.loop-kid-preserved
loop-kid-preserved c =
    let s = c.args.self.now in
    let E = expansions (unmarked s) in
    let l = c.loop-kid in
    let e = c.at-in-loop-kid.result in
    let same : c.at.result ≡ e = c.at.ensures ∙ (get_or_default s.entries.items l.number c.at.result e l.invariant.among ∙ sym c.at-in-loop-kid.ensures) in
    let step = entry_plan s c.requires.held l.number e l.invariant.among c.at-in-loop-kid.ensures (λ is. c.loop-kid-test.true (ap (λ (x : ExpandedPlan). x.kid.parent) same ∙ is)) in
    let passed = map (λ (a : ActionId). a.0) l.actions.items in
    let pushed : reverse (map (λ (a : ActionId). a.0) c.push.new.self.items) ≡ e.kid.action ∷ reverse passed =
    ap (λ xs. reverse (map (λ (a : ActionId). a.0) xs)) c.in_ok-push.ensures.items
    ∙ (ap reverse (map-append (λ (a : ActionId). a.0) l.actions.items _) ∙ reverse-append passed (e.kid.action ∷ []))
    in
    record {
      held = c.requires.held;
      among = omega (arith, step.before, l.invariant.among);
      passed =
          l.invariant.passed
          ∙ (ap (λ p. p ++ reverse passed) step.is
          ∙ (append_assoc (get_or E e.kid.parent []) (e.kid.action ∷ []) (reverse passed) ∙ ap (λ p. get_or E e.kid.parent [] ++ p) (sym pushed)));
    }

pub returns : goal.returns
returns c =
    let s = c.args.self.now in
    let l = c.loop-kid in
    let e = c.at.result in
    c.from_vec.ensures
    ∙ (ap (map (λ (a : ActionId). a.0)) c.reverse.ensures.items
    ∙ (map-reverse (λ (a : ActionId). a.0) l.actions.items
    ∙ sym (l.invariant.passed ∙ ap (λ p. p ++ reverse (map (λ (a : ActionId). a.0) l.actions.items)) (root_plan s c.requires.held l.number e l.invariant.among c.at.ensures c.loop-kid-test.false))))
