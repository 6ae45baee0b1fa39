use Rattle.std.proofs.Common.{◌∙◌, sym}
use Rattle.civl_states.proofs.formula_parts.Saying.{test_as}
use Rattle.civl_movers.proofs.interfere.Counting.{found_typed}
use Rattle.civl_refine.proofs.steadiness.Aiming.{kept_there}
use Rattle.civl_refine.proofs.steadiness.kept.invariant_kept.Goals as goal

pub global_note-requires-clause-typed : goal.global_note-requires-clause-typed
global_note-requires-clause-typed c = (found_typed c.args.program.now c.requires.rules c.args.step c.args.place c.in-Some.expr.now (sym c.in-Some.ensures)).typed

pub returns-in_ok-id-in-Some-clause-tells : goal.returns-in_ok-id-in-Some-clause-tells
returns-in_ok-id-in-Some-clause-tells c = λ g s.
    let p = c.args.program.now in
    let h = found_typed p c.requires.rules c.args.step c.args.place c.in-Some.expr.now (sym c.in-Some.ensures) in
    test_as _ _ _ _ (λ env. kept_there p c.args.step c.args.place (g env) c.in-Some.expr.now (sym c.in-Some.ensures)) (c.in_ok-id-in-Some.ensures.note.holds g h.sorted s)

pub returns-in_ok-id-in-Some-clause-sorted : goal.returns-in_ok-id-in-Some-clause-sorted
returns-in_ok-id-in-Some-clause-sorted c =
    let h = found_typed c.args.program.now c.requires.rules c.args.step c.args.place c.in-Some.expr.now (sym c.in-Some.ensures) in
    c.in_ok-id-in-Some.ensures.sorted ∙ h.sorted
