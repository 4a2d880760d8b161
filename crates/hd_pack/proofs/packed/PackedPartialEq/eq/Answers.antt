use Rattle.std.proofs.Common.{nat_eq, sym, ap, ap₂, ◌∙◌}
use Rattle.std.specs.Prelude.{Bool, ◌&&◌}
use Rattle.std.specs.Cmp.Lexicographic.{pointwise}
use Rattle.hd_pack.proofs.Trips.{same_is, same_states, differ}
use Rattle.std.proofs.lemmas.Bool.{eq-eqb}
use Rattle.hd_pack.proofs.packed.PackedPartialEq.eq.Goals as goal

pub returns-then-self-other-clause-same : goal.returns-then-self-other-clause-same
returns-then-self-other-clause-same c =
    c.eq.ensures
    ∙ (ap₂ (pointwise nat_eq) c.as_slice.ensures c.as_slice-then-self-other.ensures
    ∙ sym (same_is _ _ _ _ _ _ c.self.view_is c.other.view_is c.self.invariant.packed c.other.invariant.packed
    ∙ ap (λ (b : Bool). b && pointwise nat_eq c.self.inside.bytes.items c.other.inside.bytes.items) (eq-eqb _ _ c.if-self-other.true)))

pub returns-else-self-other-clause-same : goal.returns-else-self-other-clause-same
returns-else-self-other-clause-same c =
    differ _ _ c.if-self-other.false
    ∙ sym (same_is _ _ _ _ _ _ c.self.view_is c.other.view_is c.self.invariant.packed c.other.invariant.packed
    ∙ ap (λ (b : Bool). b && pointwise nat_eq c.self.inside.bytes.items c.other.inside.bytes.items) (differ _ _ c.if-self-other.false))

pub returns-then-self-other-clause-states : goal.returns-then-self-other-clause-states
returns-then-self-other-clause-states c = λ same.
    same_states _ _ _ _ _ _ c.self.view_is c.other.view_is c.if-self-other.true
    (sym (c.eq.ensures ∙ ap₂ (pointwise nat_eq) c.as_slice.ensures c.as_slice-then-self-other.ensures) ∙ same)
