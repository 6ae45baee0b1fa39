use Rattle.std.proofs.Common.{◌≡◌, ◌∙◌, ◌++◌, ◌∷◌, [], ◌+◌, ℕ, List, length, get_or, take, drop, sym, ap, subst, append_assoc}
use Rattle.std.proofs.lemmas.List.{get_or_default, take_more, take_all, take-append-drop}
use Rattle.civl_cnf.specs.Literal.{Literal}
use Rattle.civl_cnf.specs.ClauseSet.{IsBelow}
use Rattle.civl_units.specs.Propagation.{GivesConflict}
use Rattle.civl_rup.specs.inner.Standing.{IsAtRoot, Stands}
use Rattle.civl_rup.proofs.Standings.{conflict_more}
use Rattle.civl_rup.proofs.replaying.load_log.Goals as goal

pub returns-then-refuted : goal.returns-then-refuted
returns-then-refuted c variables so_far stands =
    let clauses = c.args.clauses.now in
    let at = c.loop-clause.clause-index in
    let first = so_far ++ take at clauses in
    let conflict : GivesConflict first [] = subst (Stands c.loop-clause.engine variables first) c.if-refuted.true (c.loop-clause.invariant variables so_far stands) in
    let all : first ++ drop at clauses ≡ so_far ++ clauses = append_assoc so_far (take at clauses) (drop at clauses) ∙ ap (λ (x : List (List Literal)). so_far ++ x) (take-append-drop at clauses) in
    subst (λ (cs : List (List Literal)). GivesConflict cs []) all (conflict_more first (drop at clauses) [] conflict)

pub add-requires-clause-rest : goal.add-requires-clause-rest
add-requires-clause-rest c =
    let first = c.requires.1 ++ take c.loop-clause.clause-index c.args.clauses.now in
    let root : IsAtRoot c.loop-clause.engine c.requires.0 first = subst (Stands c.loop-clause.engine c.requires.0 first) c.if-refuted.false (c.loop-clause.invariant c.requires.0 c.requires.1 c.requires.2) in
    root.rest

pub add-requires-clause-decided : goal.add-requires-clause-decided
add-requires-clause-decided c =
    let first = c.requires.1 ++ take c.loop-clause.clause-index c.args.clauses.now in
    let root : IsAtRoot c.loop-clause.engine c.requires.0 first = subst (Stands c.loop-clause.engine c.requires.0 first) c.if-refuted.false (c.loop-clause.invariant c.requires.0 c.requires.1 c.requires.2) in
    root.decided

pub add-requires-clause-below : goal.add-requires-clause-below
add-requires-clause-below c =
    let clauses = c.args.clauses.now in
    let at = c.loop-clause.clause-index in
    let first = c.requires.1 ++ take at clauses in
    let root : IsAtRoot c.loop-clause.engine c.requires.0 first = subst (Stands c.loop-clause.engine c.requires.0 first) c.if-refuted.false (c.loop-clause.invariant c.requires.0 c.requires.1 c.requires.2) in
    let is : get_or clauses at [] ≡ c.lits.result.now = sym (c.lits.ensures ∙ c.clause-item.is ∙ get_or_default clauses at c.clause-item.result [] c.loop-clause-test.true) in
    subst (λ (n : ℕ). IsBelow n c.lits.result.now) (sym root.size) (subst (IsBelow c.requires.0) is (c.requires.3 at [] c.loop-clause-test.true))

pub loop-clause-preserved : goal.loop-clause-preserved
loop-clause-preserved c variables so_far stands =
    let clauses = c.args.clauses.now in
    let at = c.loop-clause.clause-index in
    let old = c.loop-clause.engine in
    let new = c.add.new.engine in
    let lits = c.lits.result.now in
    let first = so_far ++ take at clauses in
    let root : IsAtRoot old variables first = subst (Stands old variables first) c.if-refuted.false (c.loop-clause.invariant variables so_far stands) in
    let is : lits ≡ get_or clauses at [] = c.lits.ensures ∙ c.clause-item.is ∙ get_or_default clauses at c.clause-item.result [] c.loop-clause-test.true in
    let more : first ++ lits ∷ [] ≡ so_far ++ take (at + 1) clauses
    = append_assoc so_far (take at clauses) (lits ∷ []) ∙ ap (λ (x : List Literal). so_far ++ (take at clauses ++ x ∷ [])) is ∙ ap (λ (xs : List (List Literal)). so_far ++ xs) (sym (take_more clauses at [] c.loop-clause-test.true)) in
    subst (λ (cs : List (List Literal)). Stands new variables cs c.in_ok-refuted.refuted) more
    (subst (λ (n : ℕ). Stands new n (first ++ lits ∷ []) c.in_ok-refuted.refuted) root.size
    (subst (λ (cs : List (List Literal)). Stands new (length old.trail.marks) (cs ++ lits ∷ []) c.in_ok-refuted.refuted) root.has c.in_ok-refuted.ensures))

pub returns : goal.returns
returns c variables so_far stands =
    subst (λ (xs : List (List Literal)). Stands c.loop-clause.engine variables (so_far ++ xs) c.loop-clause.refuted) (take_all c.loop-clause.clause-index c.args.clauses.now c.loop-clause-test.false) (c.loop-clause.invariant variables so_far stands)
