use Rattle.std.proofs.Common.{◌+◌, ◌*◌}
use Rattle.civl_expressions.proofs.expressions.+expr.Given as goal

abbrev pub decreases-expr : goal.decreases-expr
decreases-expr l = 9 * l.most + 8

abbrev pub decreases-paren : goal.decreases-paren
decreases-paren l = 9 * l.most + 7

abbrev pub decreases-get : goal.decreases-get
decreases-get l = 9 * l.most + 7

abbrev pub decreases-set : goal.decreases-set
decreases-set l = 9 * l.most + 7

abbrev pub decreases-fill : goal.decreases-fill
decreases-fill l = 9 * l.most + 7

abbrev pub decreases-slice : goal.decreases-slice
decreases-slice l = 9 * l.most + 7

abbrev pub decreases-widen : goal.decreases-widen
decreases-widen l = 9 * l.most + 7

abbrev pub decreases-join : goal.decreases-join
decreases-join l = 9 * l.most + 7

abbrev pub decreases-pair : goal.decreases-pair
decreases-pair l = 9 * l.most + 6

abbrev pub decreases-exprs : goal.decreases-exprs
decreases-exprs l = 9 * l.most + 1

abbrev pub decreases-one : goal.decreases-one
decreases-one l = 9 * l.most + 2

abbrev pub decreases-tail : goal.decreases-tail
decreases-tail l = 9 * l.most + 6

abbrev pub decreases-pick : goal.decreases-pick
decreases-pick l = 9 * l.most + 5

abbrev pub decreases-picked : goal.decreases-picked
decreases-picked l = 9 * l.most + 4

abbrev pub decreases-two : goal.decreases-two
decreases-two l = 9 * l.most + 4

abbrev pub decreases-operand : goal.decreases-operand
decreases-operand l = 9 * l.most + 3

abbrev pub decreases-two_exprs : goal.decreases-two_exprs
decreases-two_exprs l = 9 * l.most + 3

abbrev pub decreases-last : goal.decreases-last
decreases-last l = 9 * l.most + 2

abbrev pub decreases-closed : goal.decreases-closed
decreases-closed l = 9 * l.most + 1

abbrev pub decreases-inner : goal.decreases-inner
decreases-inner l = 9 * l.most
