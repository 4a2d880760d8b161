use Rattle.std.proofs.Common.{◌≡◌, ℕ, ◌+◌, ◌*◌, List, length, ap, ap₂, ◌∙◌, arith}
use Rattle.std.proofs.Math.Facts.{Fits-of_lt}
use Rattle.hd_pack.specs.Packing.{bytes_for, value_bytes, replaced}
use Rattle.hd_pack.proofs.Packings.{parts_of, parts_put, state_of, packing_of, value_place, refilled_is}
use Rattle.hd_pack.proofs.packed.Packed.put.Goals as goal

pub overflow_mul-fluent : goal.overflow_mul-fluent
overflow_mul-fluent c =
    let within = value_place _ _ _ c.args.fluent (parts_of _ _ _ c.self.view_is c.self.invariant) c.requires in
    let same : length c.as_mut_slice-bytes.result.now ≡ length c.self.inside.bytes.items = ap length c.as_mut_slice-bytes.ensures.value in
    let fits = c.as_mut_slice-bytes.type_inv.0 in
    Fits-of_lt (omega (arith, within, same, fits))

pub overflow_add-bytes_for : goal.overflow_add-bytes_for
overflow_add-bytes_for c =
    let within = value_place _ _ _ c.args.fluent (parts_of _ _ _ c.self.view_is c.self.invariant) c.requires in
    let front : c.bytes_for.result ≡ bytes_for c.self.inside.atoms = c.bytes_for.ensures in
    let same : length c.as_mut_slice-bytes.result.now ≡ length c.self.inside.bytes.items = ap length c.as_mut_slice-bytes.ensures.value in
    let fits = c.as_mut_slice-bytes.type_inv.0 in
    Fits-of_lt (omega (arith, within, front, same, fits))

pub put_value-requires : goal.put_value-requires
put_value-requires c =
    let within = value_place _ _ _ c.args.fluent (parts_of _ _ _ c.self.view_is c.self.invariant) c.requires in
    let front : c.bytes_for.result ≡ bytes_for c.self.inside.atoms = c.bytes_for.ensures in
    let same : length c.as_mut_slice-bytes.result.now ≡ length c.self.inside.bytes.items = ap length c.as_mut_slice-bytes.ensures.value in
    omega (arith, within, front, same)

pub invariant_of-self : goal.invariant_of-self
invariant_of-self c =
    packing_of _ _ _ (parts_put _ _ _ _ c.args.fluent c.args.value.now (parts_of _ _ _ c.self.view_is c.self.invariant) c.requires c.put_value.ensures.fits
    (refilled_is c.self.inside.bytes.items c.put_value.new.bytes (c.put_value.ensures.length ∙ ap length c.as_mut_slice-bytes.ensures.value)
    ∙ (c.put_value.ensures.bytes
    ∙ ap₂ (λ (n : ℕ) (xs : List ℕ). replaced (n + 8 * c.args.fluent) xs (value_bytes c.args.value.now)) c.bytes_for.ensures c.as_mut_slice-bytes.ensures.value)))

pub returns : goal.returns
returns c =
    state_of _ _ _ (parts_put _ _ _ _ c.args.fluent c.args.value.now (parts_of _ _ _ c.self.view_is c.self.invariant) c.requires c.put_value.ensures.fits
    (refilled_is c.self.inside.bytes.items c.put_value.new.bytes (c.put_value.ensures.length ∙ ap length c.as_mut_slice-bytes.ensures.value)
    ∙ (c.put_value.ensures.bytes
    ∙ ap₂ (λ (n : ℕ) (xs : List ℕ). replaced (n + 8 * c.args.fluent) xs (value_bytes c.args.value.now)) c.bytes_for.ensures c.as_mut_slice-bytes.ensures.value)))
