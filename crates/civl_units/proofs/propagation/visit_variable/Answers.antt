use Rattle.std.proofs.Common.{◌++◌, List, ℕ, sym, subst}
use Rattle.civl_units.specs.Marks.{NumbersSay}
use Rattle.civl_units.proofs.Visiting.{variable_says}
use Rattle.civl_units.proofs.propagation.visit_variable.Goals as goal

pub returns-in_ok-conflict-in-Some : goal.returns-in_ok-conflict-in-Some
returns-in_ok-conflict-in-Some c =
    let clauses = c.args.formula.now ++ c.args.earlier.now in
    let says = subst (λ (numbers : List ℕ). NumbersSay c.args.marks.now c.visit_numbers.new.marks clauses numbers c.in_ok-conflict-in-Some.conflict) c.of-numbers.ensures c.in_ok-conflict-in-Some.ensures in
    variable_says c.args.marks.now c.visit_numbers.new.marks clauses c.args.occurrences.now c.args.variable c.in-Some.value c.in_ok-conflict-in-Some.conflict c.requires.lists (sym c.in-Some.ensures) says
