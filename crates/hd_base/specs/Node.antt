-- What the node of an expression says. (Our own.)
use Rattle.hd_base.specs.Expression.{Expression, leaf, negate, binary}
use Rattle.hd_base.specs.declared.expression.ExprNode.{ExprNode}
use Rattle.hd_base.specs.declared.expression.ExprNode.TheVariants.{Leaf, Negate, Binary}

-- the expression of a node: a leaf, a negated expression, or an operation on two
abbrev pub expression_of : {L : Type 0} → ExprNode L → Expression L
expression_of (Leaf l) = leaf l
expression_of (Negate x) = negate x.value
expression_of (Binary o x y) = binary o x.value y.value
