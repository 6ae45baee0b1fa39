-- What a refusal by a static rule is about: a name, an expression, a sort or numbers of the program.
use Rattle.std.specs.Prelude.{ℕ}
use Rattle.civl_tree.specs.declared.name.Name.{Name}
use Rattle.civl_tree.specs.declared.expr.Sort.{Sort}
use Rattle.civl_tree.specs.declared.expr.Expr.{Expr}
use Rattle.civl_tree.specs.declared.action.Param.{Param}
use Rattle.civl_tree.specs.rules.Uses.{Need}
use Rattle.civl_subjects.specs.declared.subject.HeaderNumber.{HeaderNumber}
use Rattle.civl_subjects.specs.declared.subject.Limited.{Limited}
use Rattle.civl_subjects.specs.declared.subject.Counted.{Counted}
use Rattle.civl_subjects.specs.declared.subject.StatementKind.{StatementKind}

-- `OfName`: a name. `OfSort`: a name with its sort. `OfNeed`: a name, its sort, and the sort that it needs. `OfExpr`: an
-- expression. `OfUnsorted`: an expression that has no sort. `OfMissorted`: an expression with its sort, and what its place
-- needs. `OfHeader`: a number of the header. `OfLimit`: what there is too much of. `OfCount`: how many there are, and how
-- many are needed. `OfRange`: the first and the last layer of a range, and the number of layers. `OfStep`: a layer or a step,
-- and the number of layers. `OfParam`: a parameter or an output, and that of the refined action in its place. `OfStatement`:
-- what a statement is; `OfLayered` and `OfRoot`: what it is, in a procedure that refines an action, or in a root.
pub data Subject : Type 0 where
  OfName : Name → Subject
  OfSort : Name → Sort → Subject
  OfNeed : Name → Sort → Sort → Subject
  OfExpr : Expr → Subject
  OfUnsorted : Expr → Subject
  OfMissorted : Expr → Sort → Need → Subject
  OfHeader : HeaderNumber → ℕ → Subject
  OfLimit : Limited → Subject
  OfCount : Counted → ℕ → ℕ → Subject
  OfRange : ℕ → ℕ → ℕ → Subject
  OfStep : ℕ → ℕ → Subject
  OfParam : Param → Param → Subject
  OfStatement : StatementKind → Subject
  OfLayered : StatementKind → Subject
  OfRoot : StatementKind → Subject
