use Rattle.std.proofs.Common.{◌≡◌, ◌∙◌, ◌++◌, ◌∷◌, [], ℕ, List, length, sym, subst}
use Rattle.civl_cnf.specs.Literal.{Literal}
use Rattle.civl_units.specs.Propagation.{GivesConflict}
use Rattle.civl_rup.specs.inner.Standing.{Stands}
use Rattle.civl_rup.proofs.Standings.{conflict_more, conflict_anyway}
use Rattle.civl_rup.proofs.taking.take_clause.Goals as goal

pub returns-then-refuted-clause-says : goal.returns-then-refuted-clause-says
returns-then-refuted-clause-says c clauses stands =
    let clause = c.args.clause.now in
    let fit = c.in_ok-is_fit.ensures.fit.0 c.if-not-branch.false in
    let conflict : GivesConflict clauses [] = subst (Stands c.args.engine.now (length c.args.marks.now.values) clauses) c.if-refuted.true stands in
    (record { below = fit.0; once = fit.1; conflict = conflict_anyway clauses clause conflict }, conflict_more clauses (clause ∷ []) [] conflict)

pub returns-then-not-branch-2-clause-says : goal.returns-then-not-branch-2-clause-says
returns-then-not-branch-2-clause-says c clauses stands h =
    let root = subst (Stands c.args.engine.now (length c.args.marks.now.values) clauses) c.if-refuted.false stands in
    let some = c.in_ok-gives_conflict.ensures.exact.1 (subst (λ (cs : List (List Literal)). GivesConflict cs c.args.clause.now) (sym root.has) h.conflict) in
    let none = c.if-not-branch-2.true in
    cc

pub returns-clause-says : goal.returns-clause-says
returns-clause-says c clauses stands =
    let clause = c.args.clause.now in
    let fit = c.in_ok-is_fit.ensures.fit.0 c.if-not-branch.false in
    let root = subst (Stands c.args.engine.now (length c.args.marks.now.values) clauses) c.if-refuted.false stands in
    let back = c.in_ok-gives_conflict.ensures.root in
    let conflict = subst (λ (cs : List (List Literal)). GivesConflict cs clause) root.has (c.in_ok-gives_conflict.ensures.exact.0 c.if-not-branch-2.false) in
    let size : length c.gives_conflict.new.engine.trail.marks ≡ length c.args.marks.now.values = back.size ∙ root.size in
    let have : c.gives_conflict.new.engine.clauses ≡ clauses = back.has ∙ root.has in (
      record { below = fit.0; once = fit.1; conflict = conflict },
      subst (λ (n : ℕ). Stands c.add.new.engine n (clauses ++ clause ∷ []) c.in_ok-refuted_now.refuted_now) size
          (subst (λ (cs : List (List Literal)). Stands c.add.new.engine (length c.gives_conflict.new.engine.trail.marks) (cs ++ clause ∷ []) c.in_ok-refuted_now.refuted_now) have c.in_ok-refuted_now.ensures),
    )
