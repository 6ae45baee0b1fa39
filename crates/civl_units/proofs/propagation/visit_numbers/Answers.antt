use Rattle.std.proofs.Common.{◌++◌, ◌∷◌, [], Bool, List, ℕ, false, get_or, subst}
use Rattle.std.proofs.lemmas.List.{take_all}
use Rattle.civl_units.specs.Marks.{NumbersSay}
use Rattle.civl_units.proofs.Visiting.{numbers_more, conflict_then}
use Rattle.civl_units.proofs.propagation.visit_numbers.Goals as goal

pub returns-then-branch : goal.returns-then-branch
returns-then-branch c =
    let clauses = c.args.formula.now ++ c.args.earlier.now in
    let at = c.loop-number.number-index in
    let found = subst (λ (r : Bool). NumbersSay c.loop-number.marks c.visit_number.new.marks clauses (get_or c.args.numbers.now at 0 ∷ []) r) c.if-branch.true c.in_ok-visit_number.ensures in
    conflict_then _ _ _ clauses c.loop-number.invariant.0.reached found

pub loop-number-preserved : goal.loop-number-preserved
loop-number-preserved c =
    let clauses = c.args.formula.now ++ c.args.earlier.now in
    let at = c.loop-number.number-index in
    let next = subst (λ (r : Bool). NumbersSay c.loop-number.marks c.visit_number.new.marks clauses (get_or c.args.numbers.now at 0 ∷ []) r) c.if-branch.false c.in_ok-visit_number.ensures in
    numbers_more c.args.marks.now c.loop-number.marks c.visit_number.new.marks clauses c.args.numbers.now at 0 c.loop-number-test.true c.loop-number.invariant next

pub returns : goal.returns
returns c =
    let clauses = c.args.formula.now ++ c.args.earlier.now in
    subst (λ (numbers : List ℕ). NumbersSay c.args.marks.now c.loop-number.marks clauses numbers false) (take_all c.loop-number.number-index c.args.numbers.now c.loop-number-test.false) c.loop-number.invariant
