-- What the parts of an expression say. (Our own.)
use Rattle.hd_base.specs.Expression.{Expression, leaf, negate, binary}
use Rattle.hd_base.specs.declared.expression.ExprParts.{ExprParts}
use Rattle.hd_base.specs.declared.expression.ExprParts.TheVariants.{Leaf, Negate, Binary}

-- the expression that these parts make up
abbrev pub expr_by : {L : Type 0} → ExprParts L → Expression L
expr_by (Leaf l) = leaf l.now
expr_by (Negate x) = negate x.now
expr_by (Binary o x y) = binary o x.now y.now
