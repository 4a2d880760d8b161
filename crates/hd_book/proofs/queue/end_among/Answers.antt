use Rattle.std.proofs.Common.{ℕ, take, sym, ap, arith}
use Rattle.hd_book.specs.Queue.{end_of}
use Rattle.hd_book.proofs.Ends.{end_of_first}
use Rattle.hd_book.proofs.queue.end_among.Goals as goal

pub returns-then-count-eq0 : goal.returns-then-count-eq0
returns-then-count-eq0 c = ap (λ (n : ℕ). end_of c.args.from (take n c.args.ends.now.items)) (sym c.if-count-eq0.true)

pub returns : goal.returns
returns c = end_of_first c.args.from c.args.ends.now.items c.args.count _ (omega arith) c.requires c.index.ensures
