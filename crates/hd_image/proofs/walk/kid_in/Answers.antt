use Rattle.std.proofs.Common.{arith}
use Rattle.hd_image.proofs.Strides.{kid_told}
use Rattle.hd_image.proofs.walk.kid_in.Goals as goal

pub returns-clause-bytes : goal.returns-clause-bytes
returns-clause-bytes c =
    kid_told c.args.version c.args.bytes.now c.parent_of-parent.result c.read_uint-number.result c.read_u32-action.result c.parent_width-width.result
    (λ i. omega
    (arith, c.type_inv.bytes i)) c.requires c.parent_width-width.ensures c.read_uint-number.ensures c.parent_of-parent.ensures.has
    c.parent_of-parent.ensures.told c.read_u32-action.ensures
