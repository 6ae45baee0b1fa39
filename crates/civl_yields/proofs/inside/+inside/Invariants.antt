use Rattle.std.proofs.Common.{◌≡◌, ◌++◌, drop}
use Rattle.civl_yields.specs.Places.{insides_all}
use Rattle.civl_yields.proofs.inside.+inside.Given as goal

abbrev pub invariant-add_insides_all-loop-stmt : goal.invariant-add_insides_all-loop-stmt
invariant-add_insides_all-loop-stmt l = l.flags.items ++ insides_all (drop l.stmt-index l.stmt-items) l.inside ≡ l.fn.flags.items ++ insides_all l.fn.stmts l.fn.inside
