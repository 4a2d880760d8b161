-- The operands of an expression are smaller than it is. (Our own.)
use Rattle.std.specs.Prelude.{◌≤◌, max}
use Rattle.std.proofs.Common.{arith}
use Rattle.hd_base.specs.declared.expression.ExprNode.{ExprNode}
use Rattle.hd_base.specs.declared.expression.ExprNode.TheVariants.{Leaf, Negate, Binary}
use Rattle.hd_base.specs.declared.expression.Expr.TheDeep.{deep-ExprNode}
use Rattle.hd_base.specs.Expression.{depth}
use Rattle.hd_base.specs.Node.{expression_of}

pub deep-expression : {L : Type 0} (n : ExprNode L) → max (deep-ExprNode L n) 0 ≤ depth (expression_of n)
deep-expression (Leaf l) = omega arith
deep-expression (Negate x) = omega arith
deep-expression (Binary o x y) = omega arith
