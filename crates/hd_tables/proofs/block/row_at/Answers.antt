use Rattle.std.proofs.Common.{ℕ, ◌*◌, take, drop, ap, arith}
use Rattle.hd_tables.proofs.block.row_at.Goals as goal

pub returns : goal.returns
returns c = ap (λ (k : ℕ). take k (drop (c.args.place * c.args.width) c.args.bytes.now)) (omega arith)
