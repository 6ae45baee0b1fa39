use Rattle.std.proofs.Common.{◌≡◌, ◌∙◌, ◌++◌, ◌∷◌, [], ◌+◌, List, length, take, sym, ap₂, subst, arith}
use Rattle.std.proofs.lemmas.List.{take_more}
use Rattle.civl_cnf.specs.Literal.{Literal}
use Rattle.civl_units.specs.Propagation.{GivesConflict}
use Rattle.civl_rup.specs.inner.Standing.{Stands}
use Rattle.civl_rup.proofs.Standings.{conflict_front}
use Rattle.civl_rup.proofs.conflicts.load.Goals as goal

pub returns-then-branch : goal.returns-then-branch
returns-then-branch c =
    let clauses = c.args.cnf.now.clauses in
    let at = c.loop-at.at in
    let says = subst (Stands c.add.new.engine (length c.loop-at.engine.trail.marks) (c.loop-at.engine.clauses ++ c.lits.result.now ∷ [])) c.if-branch.true c.in_ok-add.ensures in
    let is = c.lits.ensures ∙ c.clause.ensures.is in
    let now : c.loop-at.engine.clauses ++ c.lits.result.now ∷ [] ≡ take (at + 1) clauses
    = ap₂ (λ (xs : List (List Literal)) (x : List Literal). xs ++ x ∷ []) c.loop-at.invariant.has is ∙ sym (take_more clauses at [] (omega arith)) in
    conflict_front clauses (at + 1) [] (subst (λ (cs : List (List Literal)). GivesConflict cs []) now says)
