use Rattle.std.proofs.Common.{◌≡◌, ◌<◌, ◌^◌, refl, arith}
use Rattle.hd_successors.proofs.Bits.{first_alone, none_alone}
use Rattle.hd_successors.proofs.marks.first_bit.Goals as goal

pub returns-then-rest-eq0 : goal.returns-then-rest-eq0
returns-then-rest-eq0 c = none_alone c.args.byte c.from.result c.args.from c.from.ensures (omega arith) (omega arith)

pub returns : goal.returns
returns c =
    let same : c.from.result ≡ c.args.byte = c.from.ensures in
    let fits : c.from.result < 2 ^ 64 = omega (arith, same) in
    first_alone c.args.byte c.from.result c.args.from _ same (omega arith) fits (omega arith) refl
