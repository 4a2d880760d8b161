use Rattle.std.proofs.Common.{nat_eq, sym, ap, ◌∙◌}
use Rattle.std.specs.Prelude.{Bool, ◌&&◌}
use Rattle.std.specs.Cmp.Lexicographic.{pointwise}
use Rattle.std.proofs.lemmas.Bool.{eq-eqb}
use Rattle.hd_pack.proofs.Trips.{same_is, differ}
use Rattle.hd_tables.proofs.row.Row.is_draft.Goals as goal

pub returns-then-self-atoms-clause-same : goal.returns-then-self-atoms-clause-same
returns-then-self-atoms-clause-same c =
    c.is.ensures
    ∙ sym (same_is _ _ _ _ _ _ c.self.view_is c.parts-atoms.ensures.state c.self.invariant.packing.packed c.parts-atoms.ensures.packing.packed
    ∙ ap (λ (b : Bool). b && pointwise nat_eq c.self.inside.bytes c.parts-atoms.result.1.now) (eq-eqb _ _ c.if-self-atoms.true))

pub returns-else-self-atoms-clause-same : goal.returns-else-self-atoms-clause-same
returns-else-self-atoms-clause-same c =
    differ _ _ c.if-self-atoms.false
    ∙ sym (same_is _ _ _ _ _ _ c.self.view_is c.parts-atoms.ensures.state c.self.invariant.packing.packed c.parts-atoms.ensures.packing.packed
    ∙ ap (λ (b : Bool). b && pointwise nat_eq c.self.inside.bytes c.parts-atoms.result.1.now) (differ _ _ c.if-self-atoms.false))
