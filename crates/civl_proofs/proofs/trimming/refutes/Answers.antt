use Rattle.std.proofs.Common.{List, [], subst}
use Rattle.std.specs.Prelude.{Contains}
use Rattle.civl_cnf.specs.Literal.{Literal}
use Rattle.civl_proofs.proofs.trimming.refutes.Goals as goal

pub returns-clause-exact : goal.returns-clause-exact
returns-clause-exact c = (
  λ t. record {
    rup = c.in_ok-all.ensures.exact.0 t;
    empty = subst (λ (log : List (List Literal)). Contains log []) c.clauses.ensures (c.has_empty.ensures.0 c.if-not-has_empty.false);
  },
  λ r. c.in_ok-all.ensures.exact.1 r.rup,
)
