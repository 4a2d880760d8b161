use Rattle.std.proofs.Common.{◌≡◌, ℕ, ℤ, List, length, drop, slice_get, ap, ap₂, ◌∙◌, arith}
use Rattle.hd_pack.specs.Packing.{bytes_for, values_in}
use Rattle.hd_pack.proofs.Trips.{bytes_enough}
use Rattle.hd_pack.proofs.Packings.{values_of}
use Rattle.hd_pack.proofs.packed.Packed.fluent.Goals as goal

pub split_at-requires : goal.split_at-requires
split_at-requires c =
    let enough = bytes_enough c.self.inside.atoms c.self.inside.bytes.items c.self.invariant.packed in
    let same : length c.as_slice.result.now ≡ length c.self.inside.bytes.items = ap length c.as_slice.ensures in
    let front : c.bytes_for.result ≡ bytes_for c.self.inside.atoms = c.bytes_for.ensures in
    omega (arith, enough, same, front)

pub returns : goal.returns
returns c =
    c.value_at.ensures
    ∙ ap (λ (vs : List ℤ). slice_get vs c.args.fluent)
    (ap values_in (c.split_at.ensures.back ∙ ap₂ (λ (k : ℕ) (ns : List ℕ). drop k ns) c.bytes_for.ensures c.as_slice.ensures)
    ∙ values_of _ _ _ c.self.view_is)
