use Rattle.std.proofs.Common.{length, ◌++◌, subst, ℕ}
use Rattle.civl_cnf.specs.ClauseSet.{IsBelow}
use Rattle.civl_rup.proofs.Replays.{rup_by}
use Rattle.civl_proofs.proofs.trimming.has_rup.Goals as goal

pub returns-clause-exact : goal.returns-clause-exact
returns-clause-exact c =
    let clauses = c.args.formula.now ++ c.args.earlier.now in
    let t = c.if-not-branch.false in
    let within = c.in_ok-assume.ensures.within.0 t in
    let below = subst (λ (n : ℕ). IsBelow n c.args.clause.now) c.clear.ensures.size within.0 in
    rup_by c.assume.new.marks.values c.propagate.new.marks.values (length c.args.marks.now.values) clauses c.args.clause.now c.in_ok-conflict.conflict below within.1 (c.in_ok-assume.ensures.yes t) c.in_ok-conflict.ensures.reached c.in_ok-conflict.ensures.ends
