use Rattle.std.proofs.Common.{◌≡◌, drop, map}
use Rattle.civl_tree.specs.Numbering.{statements_of}
use Rattle.civl_tree.specs.rules.Twice.{stmt_twice}
use Rattle.civl_tree.specs.rules.Rules.{numbers_where, first_of}
use Rattle.civl_names.proofs.twice.first_doubled.Given as goal

abbrev pub invariant-loop-number : goal.invariant-loop-number
invariant-loop-number l =
    first_of (numbers_where stmt_twice l.number (drop l.number (map (λ stmt. stmt.now) l.stmt-items)))
    ≡ first_of (numbers_where stmt_twice 0 (statements_of l.fn.body))
