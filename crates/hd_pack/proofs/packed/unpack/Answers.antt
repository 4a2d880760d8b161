use Rattle.std.proofs.Common.{List, ℕ, drop, map, ap, ◌∙◌}
use Rattle.std.specs.List.{range_with_len}
use Rattle.hd_pack.specs.Packing.{values_in, atom_in}
use Rattle.hd_pack.proofs.Trips.{unpacked_parts}
use Rattle.hd_pack.proofs.packed.unpack.Goals as goal

pub returns : goal.returns
returns c =
    unpacked_parts c.packed.inside.atoms _ c.packed.inside.bytes.items _ _ _ c.bytes_for.ensures
    (c.from_vec.ensures ∙ c.in_ok-atoms.ensures ∙ ap (λ (ns : List ℕ). map (atom_in ns) (range_with_len 0 c.packed.inside.atoms)) c.as_slice-bytes.ensures)
    (c.from_vec-2.ensures ∙ c.in_ok-fluents.ensures ∙ ap values_in c.split_at.ensures.back ∙ ap (λ (ns : List ℕ). values_in (drop c.bytes_for.result ns)) c.as_slice-bytes.ensures)
    c.packed.view_is
