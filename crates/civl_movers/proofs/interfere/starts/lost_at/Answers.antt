use Rattle.std.proofs.Common.{not, sym, arith}
use Rattle.civl_tree.specs.rules.Scopes.{global_scope}
use Rattle.civl_conditions.specs.Invariants.{holds_of_globals, invariant_lost}
use Rattle.civl_states.proofs.formula_parts.Saying.{test_as}
use Rattle.civl_states.proofs.Weighing.{weighs_some}
use Rattle.civl_movers.proofs.interfere.Counting.{found_typed, lost_there, weight_there}
use Rattle.civl_movers.proofs.interfere.starts.lost_at.Goals as goal

pub fails_at-requires-clause-typed : goal.fails_at-requires-clause-typed
fails_at-requires-clause-typed c = found_typed c.args.program.now c.requires.rules c.args.step c.args.place c.in-Some.expr.now (sym c.in-Some.ensures)

pub returns-in_ok-id-in-Some-clause-tells : goal.returns-in_ok-id-in-Some-clause-tells
returns-in_ok-id-in-Some-clause-tells c = λ g s.
    let p = c.args.program.now in
    test_as c.fails_at.new.terms c.in_ok-id-in-Some.id (λ env. not (holds_of_globals p (g env) c.in-Some.expr.now)) (λ env. invariant_lost p c.args.step c.args.place (g env))
    (λ env. lost_there p c.args.step c.args.place (g env) c.in-Some.expr.now (sym c.in-Some.ensures)) (c.in_ok-id-in-Some.ensures.tells g s)

pub returns-in_ok-id-in-Some-clause-weighs : goal.returns-in_ok-id-in-Some-clause-weighs
returns-in_ok-id-in-Some-clause-weighs c =
    let p = c.args.program.now in
    omega (arith, c.in_ok-id-in-Some.ensures.weighs, weight_there p c.args.step c.args.place c.in-Some.expr.now (sym c.in-Some.ensures), weighs_some (global_scope p) c.in-Some.expr.now)
