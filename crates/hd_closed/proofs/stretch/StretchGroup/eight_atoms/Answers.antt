use Rattle.std.proofs.Common.{◌≡◌, ℕ, ◌+◌, ◌-◌, ◌*◌, ◌<◌, ◌≤◌, ◌==◌, List, Option, length, slice_get, IfSome, sym, ap, subst, ◌∙◌, arith}
use Rattle.std.specs.Int.{bit_at}
use Rattle.hd_task.specs.declared.state.State.{State}
use Rattle.hd_task.specs.Conditions.{has_atom}
use Rattle.hd_closed.proofs.Stretches.{stretch_at, stretch_len}
use Rattle.hd_closed.proofs.stretch.StretchGroup.eight_atoms.Goals as goal

pub overflow_add-self-inside : goal.overflow_add-self-inside
overflow_add-self-inside c =
    let i = c.self.inside in
    let many : length c.args.self.now ≡ i.end - i.first = ap length (sym c.self.view_is) ∙ stretch_len i.rows.now.states i.first i.end c.self.invariant.0 c.self.invariant.1 in
    omega (arith, many, c.requires.lane, c.self.invariant.0)

pub returns : goal.returns
returns c =
    let i = c.self.inside in
    let lane = c.args.lane in
    let many : length c.args.self.now ≡ i.end - i.first = ap length (sym c.self.view_is) ∙ stretch_len i.rows.now.states i.first i.end c.self.invariant.0 c.self.invariant.1 in
    let at = ap (λ (xs : List State). slice_get xs lane) (sym c.self.view_is) ∙ (stretch_at i.rows.now.states i.first i.end lane (omega (arith, many, c.requires.lane)) ∙ c.at.ensures) in
    subst (λ (o : Option State). IfSome o (λ s. (k : ℕ) → k < 8 → (bit_at c.eight_atoms.result k == 1) ≡ has_atom s (8 * c.args.number + k))) (sym at) c.eight_atoms.ensures

pub eight_atoms-requires : goal.eight_atoms-requires
eight_atoms-requires c =
    let i = c.self.inside in
    let lane = c.args.lane in
    let many : length c.args.self.now ≡ i.end - i.first = ap length (sym c.self.view_is) ∙ stretch_len i.rows.now.states i.first i.end c.self.invariant.0 c.self.invariant.1 in
    let at = ap (λ (xs : List State). slice_get xs lane) (sym c.self.view_is) ∙ (stretch_at i.rows.now.states i.first i.end lane (omega (arith, many, c.requires.lane)) ∙ c.at.ensures) in
    subst (λ (o : Option State). IfSome o (λ s. 8 * c.args.number + 8 ≤ length s.atoms)) at c.requires.atoms
