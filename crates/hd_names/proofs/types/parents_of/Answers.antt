use Rattle.std.proofs.Common.{◌≡◌, ◌∙◌, ap, length, arith}
use Rattle.hd_names.specs.Scope.{type_names}
use Rattle.hd_names.proofs.Cycles.{types_many}
use Rattle.hd_names.proofs.types.parents_of.Goals as goal

pub overflow_sub-len : goal.overflow_sub-len
overflow_sub-len c =
    let many = types_many c.args.listed.now in
    let count : c.len.result ≡ length (type_names c.args.listed.now) = c.len.ensures ∙ ap length c.requires in
    omega (arith, many, count)

pub overflow_sub-len-2 : goal.overflow_sub-len-2
overflow_sub-len-2 c =
    let many = types_many c.args.listed.now in
    let count : c.len.result ≡ length (type_names c.args.listed.now) = c.len.ensures ∙ ap length c.requires in
    omega (arith, many, count)
