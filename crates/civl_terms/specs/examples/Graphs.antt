-- A worked graph, over two words x and y of 8 bits: x + y, its square, and whether it is below 3.
use Rattle.std.specs.Prelude.{List, [], ◌∷◌}
use Rattle.civl_bits.specs.declared.value.Value.TheVariants as value
use Rattle.civl_tree.specs.declared.expr.Sort.TheVariants as sort
use Rattle.civl_tree.specs.declared.expr.Two.TheVariants.{Add, Mul, Lt}
use Rattle.civl_terms.specs.declared.node.Node.{Node}
use Rattle.civl_terms.specs.declared.node.Node.TheVariants.{Constant, Variable, Two as Twice}

abbrev pub example : List Node
example =
    Variable 0 (sort.Word 8)
    ∷ Variable 1 (sort.Word 8)
    ∷ Twice Add 0 1
    ∷ Twice Mul 2 2
    ∷ Constant (value.Word (8, 3))
    ∷ Twice Lt 2 4
    ∷ []
