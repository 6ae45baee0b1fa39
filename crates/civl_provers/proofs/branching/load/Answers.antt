use Rattle.std.proofs.Common.{◌≡◌, ◌∙◌, ◌++◌, ◌∷◌, [], ◌+◌, ℕ, List, get_or, take, refl, sym, ap, subst, inl, arith}
use Rattle.std.proofs.lemmas.List.{take_more}
use Rattle.civl_cnf.specs.Literal.{Literal}
use Rattle.civl_cnf.specs.ClauseSet.{IsBelow}
use Rattle.civl_propagation.specs.Engine.{EndsBy}
use Rattle.civl_propagation.proofs.Engines.{decided_grows}
use Rattle.civl_provers.proofs.Standings.{refuted_front, at_root}
use Rattle.civl_provers.proofs.branching.load.Goals as goal

pub add-requires-clause-below : goal.add-requires-clause-below
add-requires-clause-below c =
    subst (λ (n : ℕ). IsBelow n c.lits.result.now) (sym c.loop-at.invariant.size) (subst (IsBelow c.args.cnf.now.variables) (sym c.lits.ensures) c.clause.ensures.below)

pub add-requires-clause-levels : goal.add-requires-clause-levels
add-requires-clause-levels c k low = let size = c.loop-at.invariant.decided.size in absurd (omega arith)

pub loop-at-preserved : goal.loop-at-preserved
loop-at-preserved c =
    let clauses = c.args.cnf.now.clauses in
    let at = c.loop-at.at in
    let inv = c.loop-at.invariant in
    let is = c.lits.ensures ∙ c.clause.ensures.is in
    let more : take (at + 1) clauses ≡ take at clauses ++ get_or clauses at [] ∷ [] = take_more clauses at [] (omega arith) in
    record {
      rest = subst (EndsBy c.add.new.self) c.in-Quiet.is c.in_ok-ended.ensures.ended;
      clauses = c.in_ok-ended.ensures.clauses ∙ ap (λ (x : List (List Literal)). x ++ c.lits.result.now ∷ []) inv.clauses ∙ ap (λ (x : List Literal). take at clauses ++ x ∷ []) is ∙ sym more;
      size = c.in_ok-ended.ensures.grows.size ∙ inv.size;
      decided = decided_grows _ _ [] c.in_ok-ended.ensures.grows inv.decided;
    }

pub returns-in-Conflict : goal.returns-in-Conflict
returns-in-Conflict c =
    let set = c.args.cnf.now in
    let clauses = set.clauses in
    let at = c.loop-at.at in
    let inv = c.loop-at.invariant in
    let is = c.lits.ensures ∙ c.clause.ensures.is in
    let more : take (at + 1) clauses ≡ take at clauses ++ get_or clauses at [] ∷ [] = take_more clauses at [] (omega arith) in
    let ends = subst (EndsBy c.add.new.self) c.in-Conflict.is c.in_ok-ended.ensures.ended in
    let now = c.in_ok-ended.ensures.clauses ∙ ap (λ (x : List (List Literal)). x ++ c.lits.result.now ∷ []) inv.clauses ∙ ap (λ (x : List Literal). take at clauses ++ x ∷ []) is ∙ sym more in
    (refuted_front c.add.new.self set (at + 1) _ ends.0 now (decided_grows _ _ [] c.in_ok-ended.ensures.grows inv.decided) ends.1, inl refl)

pub returns : goal.returns
returns c =
    let inv = c.loop-at.invariant in
    at_root c.loop-at.engine c.args.cnf.now c.loop-at.at inv.rest (omega arith) inv.clauses inv.size inv.decided
