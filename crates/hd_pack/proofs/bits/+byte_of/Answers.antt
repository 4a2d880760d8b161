use Rattle.std.proofs.Common.{rules, ◌+◌, ◌*◌, ◌<◌, ℕ, Bool, true, false, slice_index_or, arith}
use Rattle.std.proofs.Math.Facts.{Fits-of_lt}
use Rattle.hd_pack.proofs.AtomBits.{twice}
use Rattle.hd_pack.proofs.bits.+byte_of.Goals as goal
use mir.Val.{bool_byte}

with_bit : (b : Bool) (n : ℕ) → 2 * n < 255 → bool_byte b + 2 * n < 256
with_bit true n lt = omega (arith, lt)
with_bit false n lt = omega (arith, lt)

pub overflow_mul-result : goal.overflow_mul-result
overflow_mul-result x c = let h = twice _ _ (search (rules, c.requires, c.in-len1-up.len_at_least)) c.byte_of.ensures in Fits-of_lt (omega (arith, h))

pub overflow_add-result : goal.overflow_add-result
overflow_add-result x c = Fits-of_lt (with_bit (slice_index_or c.args.bits.now 0 false) _ (twice _ _ (search (rules, c.requires, c.in-len1-up.len_at_least)) c.byte_of.ensures))
