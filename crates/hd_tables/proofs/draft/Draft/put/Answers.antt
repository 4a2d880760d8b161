use Rattle.std.proofs.Common.{◌≡◌, ℕ, ◌+◌, ◌*◌, List, length, length-set, sym, ap, ap₂, ◌∙◌, arith}
use Rattle.std.proofs.Math.Facts.{Fits-of_lt}
use Rattle.std.proofs.lemmas.List.{with_items_is}
use Rattle.hd_pack.specs.Packing.{bytes_for, value_bytes, replaced}
use Rattle.hd_pack.proofs.Packings.{parts_of, parts_put, state_of, value_place}
use Rattle.hd_tables.proofs.Packed.{whole_of}
use Rattle.hd_task.specs.declared.state.State.{State}
use Rattle.hd_tables.proofs.draft.Draft.put.Goals as goal

pub overflow_mul-fluent : goal.overflow_mul-fluent
overflow_mul-fluent c =
    let within = value_place _ _ _ c.args.fluent (parts_of _ _ _ c.self.view_is c.self.invariant.packing) c.requires in
    let same : length c.as_mut_slice-bytes.result.now ≡ length c.self.inside.bytes.items = ap length c.as_mut_slice-bytes.ensures.value in
    let fits = c.as_mut_slice-bytes.type_inv.0 in
    Fits-of_lt (omega (arith, within, same, fits))

pub overflow_add-bytes_for : goal.overflow_add-bytes_for
overflow_add-bytes_for c =
    let within = value_place _ _ _ c.args.fluent (parts_of _ _ _ c.self.view_is c.self.invariant.packing) c.requires in
    let front : c.bytes_for.result ≡ bytes_for c.self.inside.atoms = c.bytes_for.ensures in
    let same : length c.as_mut_slice-bytes.result.now ≡ length c.self.inside.bytes.items = ap length c.as_mut_slice-bytes.ensures.value in
    let fits = c.as_mut_slice-bytes.type_inv.0 in
    Fits-of_lt (omega (arith, within, front, same, fits))

pub put_value-requires : goal.put_value-requires
put_value-requires c =
    let within = value_place _ _ _ c.args.fluent (parts_of _ _ _ c.self.view_is c.self.invariant.packing) c.requires in
    let front : c.bytes_for.result ≡ bytes_for c.self.inside.atoms = c.bytes_for.ensures in
    let same : length c.as_mut_slice-bytes.result.now ≡ length c.self.inside.bytes.items = ap length c.as_mut_slice-bytes.ensures.value in
    omega (arith, within, front, same)

pub invariant_of-self : goal.invariant_of-self
invariant_of-self c =
    whole_of _ _ _ _ (parts_put _ _ _ _ c.args.fluent c.args.value.now (parts_of _ _ _ c.self.view_is c.self.invariant.packing) c.requires c.put_value.ensures.fits
    (with_items_is c.self.inside.bytes c.put_value.new.bytes (c.put_value.ensures.length ∙ c.as_mut_slice-bytes.ensures.len)
    ∙ (c.put_value.ensures.bytes
    ∙ ap₂ (λ (n : ℕ) (xs : List ℕ). replaced (n + 8 * c.args.fluent) xs (value_bytes c.args.value.now)) c.bytes_for.ensures c.as_mut_slice-bytes.ensures.value)))
    (length-set c.args.self.now.fluents c.args.fluent c.args.value.now ∙ (ap (λ (s : State). length s.fluents) (sym c.self.view_is) ∙ c.self.invariant.values)) c.self.invariant.few_atoms c.self.invariant.few

pub returns : goal.returns
returns c =
    state_of _ _ _ (parts_put _ _ _ _ c.args.fluent c.args.value.now (parts_of _ _ _ c.self.view_is c.self.invariant.packing) c.requires c.put_value.ensures.fits
    (with_items_is c.self.inside.bytes c.put_value.new.bytes (c.put_value.ensures.length ∙ c.as_mut_slice-bytes.ensures.len)
    ∙ (c.put_value.ensures.bytes
    ∙ ap₂ (λ (n : ℕ) (xs : List ℕ). replaced (n + 8 * c.args.fluent) xs (value_bytes c.args.value.now)) c.bytes_for.ensures c.as_mut_slice-bytes.ensures.value)))
