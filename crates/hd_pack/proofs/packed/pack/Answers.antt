use Rattle.std.proofs.Common.{refl}
use Rattle.hd_pack.proofs.Trips.{packed_whole}
use Rattle.hd_pack.proofs.Packings.{state_of, packing_of}
use Rattle.hd_pack.proofs.packed.pack.Goals as goal

pub invariant_of-result : goal.invariant_of-result
invariant_of-result c =
    packing_of _ _ c.args.state.now (record {
      count = c.len.ensures;
      bytes = packed_whole c.args.state.now _ _ _ _ _ _ c.in_ok-bytes.ensures.items c.in_ok-push_atoms.ensures c.in_ok-push_values.ensures.bytes refl c.as_slice.ensures c.as_slice-2.ensures;
      fit = rw (← c.as_slice-2.ensures) c.in_ok-push_values.ensures.fit;
    })

pub returns : goal.returns
returns c =
    state_of _ _ c.args.state.now (record {
      count = c.len.ensures;
      bytes = packed_whole c.args.state.now _ _ _ _ _ _ c.in_ok-bytes.ensures.items c.in_ok-push_atoms.ensures c.in_ok-push_values.ensures.bytes refl c.as_slice.ensures c.as_slice-2.ensures;
      fit = rw (← c.as_slice-2.ensures) c.in_ok-push_values.ensures.fit;
    })
