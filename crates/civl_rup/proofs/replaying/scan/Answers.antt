use Rattle.std.proofs.Common.{[], List, sym, subst}
use Rattle.std.specs.Prelude.{Contains}
use Rattle.civl_cnf.specs.Literal.{Literal}
use Rattle.civl_rup.proofs.replaying.scan.Goals as goal

pub returns-then-has_empty : goal.returns-then-has_empty
returns-then-has_empty c = record {
  rup = c.in_ok-at.ensures.none c.in-None.is;
  empty = subst (λ (log : List (List Literal)). Contains log []) c.clauses.ensures (c.has_empty.ensures.0 c.if-has_empty.true);
}

pub returns-else-has_empty : goal.returns-else-has_empty
returns-else-has_empty c = record {
  rup = c.in_ok-at.ensures.none c.in-None.is;
  none = λ there.
      let found = c.has_empty.ensures.1 (subst (λ (log : List (List Literal)). Contains log []) (sym c.clauses.ensures) there) in
      let no = c.if-has_empty.false in
      cc;
}
