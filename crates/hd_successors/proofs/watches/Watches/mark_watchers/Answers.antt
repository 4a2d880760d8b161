use Rattle.std.proofs.Common.{◌||◌, ◌&&◌, ◌==◌, ◌-◌, ◌∙◌, ℕ, Some, ap, sym, refl, get_or, slice_get, arith}
use Rattle.std.proofs.lemmas.Option.{slice_get-get_or}
use Rattle.hd_task.specs.Conditions.{has_atom}
use Rattle.hd_successors.specs.declared.watching.WatchedAtoms.TheVariants.{Always}
use Rattle.hd_successors.specs.Seeing.{other_passes}
use Rattle.hd_base.specs.Bits.{bit_in}
use Rattle.hd_successors.proofs.Chaining.{marked_from, chain_begins, chain_continues}
use Rattle.hd_successors.proofs.watches.Watches.mark_watchers.Goals as goal

pub loop-left-init : goal.loop-left-init
loop-left-init c =
    let there = c.in-Some.ensures.lookup.3 in
    let begins = chain_begins c.args.self.now.watched c.args.self.now.last c.args.self.now.before c.as_slice.result.now c.args.atom c.in-Some.last.now c.args.self.now.chained c.as_slice.ensures there.0 (there.1 0) in record {
      end = begins.end;
      within = begins.within;
      marks = λ i. begins.none i (λ k. other_passes (has_atom c.args.state.now) (slice_get c.args.self.now.watched k)) _;
    }

pub loop-left-smaller : goal.loop-left-smaller
loop-left-smaller c =
    (chain_continues c.args.self.now.watched c.args.self.now.last c.args.self.now.before c.as_slice.result.now c.as_slice-before.result.now c.args.atom c.loop-left.left _
    c.args.self.now.chained c.as_slice.ensures c.as_slice-before.ensures c.in-Some.ensures.lookup.3.0 (omega arith) c.loop-left.invariant.end c.loop-left.invariant.within refl).smaller

pub loop-left-preserved : goal.loop-left-preserved
loop-left-preserved c =
    let next = chain_continues c.args.self.now.watched c.args.self.now.last c.args.self.now.before c.as_slice.result.now c.as_slice-before.result.now c.args.atom c.loop-left.left _
    c.args.self.now.chained c.as_slice.ensures c.as_slice-before.ensures c.in-Some.ensures.lookup.3.0 (omega arith) c.loop-left.invariant.end c.loop-left.invariant.within refl in
    let ws = c.args.self.now.watched in
    let at = c.loop-left.left - 1 in
    let sees = λ (k : ℕ). other_passes (has_atom c.args.state.now) (slice_get ws k) in
    let within = c.loop-left.invariant.within in
    let watch = get_or c.as_slice-watched.result.now at Always in
    let known = ap (λ xs. Some (get_or xs at Always)) c.as_slice-watched.ensures ∙ sym (slice_get-get_or ws at Always (omega (arith, within))) in
    record {
      end = next.end;
      within = let h = next.smaller in omega (arith, h, within);
      marks = λ i.
          c.mark_if_seen.ensures i
          ∙ (ap (λ o. ((i == at) && other_passes (has_atom c.args.state.now) o) || bit_in c.loop-left.marks i) known
          ∙ (ap (λ b. ((i == at) && sees at) || b) (c.loop-left.invariant.marks i) ∙ next.one i sees _));
    }
