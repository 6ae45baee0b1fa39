use Rattle.std.proofs.Common.{◌++◌, ◌∷◌, [], length, arith}
use Rattle.civl_propagation.proofs.Engines.{decided_grows}
use Rattle.civl_rup.proofs.Standings.{stands_by}
use Rattle.civl_rup.proofs.conflicts.add.Goals as goal

pub add-requires-clause-levels : goal.add-requires-clause-levels
add-requires-clause-levels c k low = let size = c.requires.decided.size in absurd (omega arith)

pub returns-in-Conflict : goal.returns-in-Conflict
returns-in-Conflict c =
    let e = c.add.new.self in
    let says = c.in_ok-ended.ensures in
    let decided = decided_grows _ _ [] says.grows c.requires.decided in
    (stands_by e (length c.args.engine.now.trail.marks) (c.args.engine.now.clauses ++ c.args.clause.now ∷ []) c.in_ok-ended.ended says.clauses says.grows.size decided says.ended).1 _ c.in-Conflict.is

pub returns-in-Quiet : goal.returns-in-Quiet
returns-in-Quiet c =
    let e = c.add.new.self in
    let says = c.in_ok-ended.ensures in
    let decided = decided_grows _ _ [] says.grows c.requires.decided in
    (stands_by e (length c.args.engine.now.trail.marks) (c.args.engine.now.clauses ++ c.args.clause.now ∷ []) c.in_ok-ended.ended says.clauses says.grows.size decided says.ended).0 c.in-Quiet.is
