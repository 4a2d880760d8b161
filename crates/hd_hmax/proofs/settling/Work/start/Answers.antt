use Rattle.std.proofs.Common.{◌≡◌, ◌+◌, ◌≤◌, ℕ, length, sym, ap, ◌∙◌, arith}
use Rattle.hd_hmax.specs.Rules.{place_at}
use Rattle.hd_hmax.specs.Working.{final_value, is_open}
use Rattle.hd_hmax.proofs.Starting.{true_is_free, holds_here, started_next}
use Rattle.hd_hmax.proofs.settling.Work.start.Goals as goal

pub loop-atom-preserved : goal.loop-atom-preserved
loop-atom-preserved g c =
    let r = c.args.rules.now in
    let t = r.task.now in
    let s = g.R.Reads.seen c.args.state.now in
    let n = length t.atoms in
    let l = c.loop-atom.self in
    let f = c.loop-atom.invariant in
    let e = c.settle.ensures in
    let i = c.loop-atom.atom in
    let b = c.has_atom-positive.result in
    let is = c.has_atom-positive.ensures in
    let atoms : r.atoms ≡ n = r.of_task.atoms in
    let at : c.place_at.result ≡ place_at n b i = c.place_at.ensures ∙ ap (λ (k : ℕ). place_at k b i) atoms in
    let known : i ≤ n = omega (arith, atoms) in
    record {
      counted = e.counted;
      started = started_next s n l.pending.items c.settle.new.self.pending.items i b is e.stay (ap (is_open c.settle.new.self.pending.items) (sym at) ∙ e.closed) f.started;
      fair = e.fair s (λ still. ap (final_value t s) at ∙ true_is_free t s b i c.requires.of_task known (holds_here s b i is)) f.fair;
      ready = e.ready (length t.actions + 1) f.ready;
      room = e.room;
    }
