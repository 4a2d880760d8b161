use Rattle.std.proofs.Common.{◌≡◌, ℕ, ℤ, List, drop, slice_get, ap, ◌∙◌, arith}
use Rattle.hd_pack.specs.Packing.{bytes_for, values_in}
use Rattle.hd_pack.proofs.Trips.{bytes_enough}
use Rattle.hd_pack.proofs.Packings.{values_of}
use Rattle.hd_tables.proofs.row.Row.fluent.Goals as goal

pub value_at-requires : goal.value_at-requires
value_at-requires c =
    let enough = bytes_enough c.self.inside.atoms c.self.inside.bytes c.self.invariant.packing.packed in
    let front : c.bytes_for.result ≡ bytes_for c.self.inside.atoms = c.bytes_for.ensures in
    omega (arith, enough, front)

pub returns : goal.returns
returns c =
    c.value_at.ensures
    ∙ ap (λ (vs : List ℤ). slice_get vs c.args.fluent)
    (ap values_in (ap (λ (k : ℕ). drop k c.self.inside.bytes) c.bytes_for.ensures) ∙ values_of _ _ _ c.self.view_is)
