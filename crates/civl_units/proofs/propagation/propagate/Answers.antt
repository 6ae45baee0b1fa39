use Rattle.std.proofs.Common.{◌++◌, ◌∙◌, Bool, List, ℕ, sym, subst, arith}
use Rattle.civl_units.specs.Marks.{NumbersSay, VariableSays}
use Rattle.civl_units.proofs.Propagating.{propagates_then}
use Rattle.civl_units.proofs.Visiting.{start_settled, next_settled, ends_quietly, past_end, conflict_then}
use Rattle.civl_units.proofs.propagation.propagate.Goals as goal

pub returns-then-branch : goal.returns-then-branch
returns-then-branch c =
    let clauses = c.args.formula.now ++ c.args.earlier.now in
    let met = subst (λ (r : Bool). NumbersSay c.args.marks.now c.visit_numbers.new.marks clauses c.units.result.now r) c.if-branch.true c.in_ok-visit_numbers.ensures in
    record { reached = met.reached; ends = met.found }

pub loop-at-init : goal.loop-at-init
loop-at-init c =
    let clauses = c.args.formula.now ++ c.args.earlier.now in
    let listed = subst (λ (numbers : List ℕ). NumbersSay c.args.marks.now c.visit_numbers.new.marks clauses numbers c.in_ok-visit_numbers.field-0) c.units.ensures c.in_ok-visit_numbers.ensures in
    let says = subst (λ (r : Bool). NumbersSay c.args.marks.now c.visit_numbers.new.marks clauses c.args.occurrences.now.units r) c.if-branch.false listed in
    record {
      reached = says.0.reached;
      count = says.0.count ∙ c.len-variables.ensures.trail.count;
      settled = start_settled c.args.marks.now c.visit_numbers.new.marks clauses c.args.occurrences.now c.len-variables.ensures.trail c.requires.lists says;
    }

pub returns-in-None : goal.returns-in-None
returns-in-None c =
    let clauses = c.args.formula.now ++ c.args.earlier.now in
    record {
      reached = c.loop-at.invariant.reached;
      ends = ends_quietly c.loop-at.marks clauses c.loop-at.at (past_end _ _ (sym c.in-None.ensures.is)) c.loop-at.invariant.settled;
    }

pub returns-then-branch-2 : goal.returns-then-branch-2
returns-then-branch-2 c =
    let clauses = c.args.formula.now ++ c.args.earlier.now in
    let met = subst (λ (r : Bool). VariableSays c.loop-at.marks c.visit_variable.new.marks clauses c.in-Some.variable r) c.if-branch-2.true c.in_ok-visit_variable-in-Some.ensures in
    let all = conflict_then c.args.marks.now c.loop-at.marks c.visit_variable.new.marks clauses c.loop-at.invariant.reached met in
    record { reached = all.reached; ends = all.found }

pub loop-at-preserved : goal.loop-at-preserved
loop-at-preserved c =
    let clauses = c.args.formula.now ++ c.args.earlier.now in
    let says = subst (λ (r : Bool). VariableSays c.loop-at.marks c.visit_variable.new.marks clauses c.in-Some.variable r) c.if-branch-2.false c.in_ok-visit_variable-in-Some.ensures in
    record {
      reached = propagates_then _ _ _ clauses c.loop-at.invariant.reached says.0.reached;
      count = says.0.count ∙ c.loop-at.invariant.count;
      settled = next_settled c.loop-at.marks c.visit_variable.new.marks clauses c.loop-at.at c.in-Some.variable (sym c.in-Some.ensures.is) c.loop-at.invariant.settled says;
    }

pub returns : goal.returns
returns c =
    let clauses = c.args.formula.now ++ c.args.earlier.now in
    let count = c.loop-at.invariant.count in
    let size = c.len-variables.ensures.is in
    record {
      reached = c.loop-at.invariant.reached;
      ends = ends_quietly c.loop-at.marks clauses c.loop-at.at (omega arith) c.loop-at.invariant.settled;
    }
