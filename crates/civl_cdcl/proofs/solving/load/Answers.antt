use Rattle.std.proofs.Common.{◌≡◌, ◌∙◌, ◌++◌, ◌∷◌, [], ◌+◌, ℕ, List, take, sym, ap₂, subst, arith}
use Rattle.civl_cnf.specs.ClauseSet.{IsBelow}
use Rattle.std.proofs.lemmas.List.{take_more}
use Rattle.civl_cnf.specs.Literal.{Literal}
use Rattle.civl_propagation.proofs.Engines.{decided_grows}
use Rattle.civl_rup.proofs.Standings.{stands_by, conflict_front}
use Rattle.civl_cdcl.proofs.solving.load.Goals as goal

pub add-requires-clause-below : goal.add-requires-clause-below
add-requires-clause-below c =
    subst (λ (n : ℕ). IsBelow n c.lits.result.now) (sym c.loop-at.invariant.size) (subst (IsBelow c.args.cnf.now.variables) (sym c.lits.ensures) c.clause.ensures.below)

pub add-requires-clause-levels : goal.add-requires-clause-levels
add-requires-clause-levels c k low = let size = c.loop-at.invariant.decided.size in absurd (omega arith)

pub returns-in-Conflict : goal.returns-in-Conflict
returns-in-Conflict c =
    let clauses = c.args.cnf.now.clauses in
    let at = c.loop-at.at in
    let inv = c.loop-at.invariant in
    let says = c.in_ok-ended.ensures in
    let is = c.lits.ensures ∙ c.clause.ensures.is in
    let now : c.loop-at.engine.clauses ++ c.lits.result.now ∷ [] ≡ take (at + 1) clauses
    = ap₂ (λ (xs : List (List Literal)) (x : List Literal). xs ++ x ∷ []) inv.has is ∙ sym (take_more clauses at [] (omega arith)) in
    let stands = stands_by c.add.new.self c.args.cnf.now.variables (take (at + 1) clauses) c.in_ok-ended.ended (says.clauses ∙ now) (says.grows.size ∙ inv.size) (decided_grows _ _ [] says.grows inv.decided) says.ended in
    conflict_front clauses (at + 1) [] (stands.1 _ c.in-Conflict.is)

pub loop-at-preserved : goal.loop-at-preserved
loop-at-preserved c =
    let clauses = c.args.cnf.now.clauses in
    let at = c.loop-at.at in
    let inv = c.loop-at.invariant in
    let says = c.in_ok-ended.ensures in
    let is = c.lits.ensures ∙ c.clause.ensures.is in
    let now : c.loop-at.engine.clauses ++ c.lits.result.now ∷ [] ≡ take (at + 1) clauses
    = ap₂ (λ (xs : List (List Literal)) (x : List Literal). xs ++ x ∷ []) inv.has is ∙ sym (take_more clauses at [] (omega arith)) in
    (stands_by c.add.new.self c.args.cnf.now.variables (take (at + 1) clauses) c.in_ok-ended.ended (says.clauses ∙ now) (says.grows.size ∙ inv.size) (decided_grows _ _ [] says.grows inv.decided) says.ended).0 c.in-Quiet.is
