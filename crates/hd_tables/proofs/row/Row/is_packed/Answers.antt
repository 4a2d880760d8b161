use Rattle.std.proofs.Common.{nat_eq, refl, sym, ap, ◌∙◌}
use Rattle.std.specs.Prelude.{Bool, ◌&&◌}
use Rattle.std.specs.Cmp.Lexicographic.{pointwise}
use Rattle.std.proofs.lemmas.Bool.{eq-eqb}
use Rattle.std.proofs.lemmas.Bool.Decides.{Decides-eqb}
use Rattle.std.proofs.lemmas.Slice.Eq.{slice_eq-Decides}
use Rattle.hd_pack.specs.Packing.{packed_bytes}
use Rattle.hd_pack.proofs.Trips.{differ}
use Rattle.hd_tables.proofs.Packed.{packing_is, packed_is}
use Rattle.hd_tables.proofs.row.Row.is_packed.Goals as goal

pub returns-then-self-atoms-clause-same : goal.returns-then-self-atoms-clause-same
returns-then-self-atoms-clause-same c =
    c.is.ensures
    ∙ sym (packing_is _ _ _ _ _ c.self.view_is c.self.invariant.packing c.bytes.ensures.bytes
    ∙ ap (λ (b : Bool). b && pointwise nat_eq c.self.inside.bytes c.bytes.result.now) (eq-eqb _ _ (c.if-self-atoms.true ∙ c.atoms.ensures)))

pub returns-then-self-atoms-clause-states : goal.returns-then-self-atoms-clause-states
returns-then-self-atoms-clause-states c = λ yes.
    packed_is _ _ _ _ _ c.self.view_is c.bytes.ensures.bytes (eq-eqb _ _ (sym (c.if-self-atoms.true ∙ c.atoms.ensures)))
    ((slice_eq-Decides Decides-eqb _ _ _ c.is.ensures).0 yes) c.bytes.ensures.fit

pub returns-else-self-atoms-clause-same : goal.returns-else-self-atoms-clause-same
returns-else-self-atoms-clause-same c =
    let t = c.args.other.now in
    differ _ _ c.if-self-atoms.false
    ∙ sym (packing_is _ _ (packed_bytes t) _ t c.self.view_is c.self.invariant.packing refl
    ∙ ap (λ (b : Bool). b && pointwise nat_eq c.self.inside.bytes (packed_bytes t)) (differ _ _ (λ e. c.if-self-atoms.false (e ∙ sym c.atoms.ensures))))
