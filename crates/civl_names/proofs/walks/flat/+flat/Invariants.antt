use Rattle.std.proofs.Common.{◌≡◌, ◌++◌, map, take}
use Rattle.civl_tree.specs.Numbering.{statements_of}
use Rattle.civl_names.proofs.walks.flat.+flat.Given as goal

abbrev pub invariant-add_all-loop-stmt : goal.invariant-add_all-loop-stmt
invariant-add_all-loop-stmt l = map (λ stmt. stmt.now) l.flat.items ≡ map (λ stmt. stmt.now) l.fn.flat.items ++ statements_of (take l.stmt-index l.stmt-items)
