use Rattle.std.proofs.Common.{sym, arith}
use Rattle.civl_tree.specs.Numbering.{statement_at}
use Rattle.civl_places.proofs.Places.{said, statement_fits}
use Rattle.civl_places.proofs.formula.statement_formula.Goals as goal

pub in_statement-requires : goal.in_statement-requires
in_statement-requires c =
    let there = said (statement_at c.get.result.now.body c.args.number) c.in_ok-stmt.stmt c.in_ok-stmt.ensures in
    omega (arith, statement_fits c.args.program.now c.args.place c.args.number c.in_ok-at.at c.get.result.now c.in_ok-stmt.stmt.now c.get.ensures there (sym c.in_ok-at.ensures.start))
