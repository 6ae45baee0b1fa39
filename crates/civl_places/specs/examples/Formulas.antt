-- Tokens at which the expressions of a small program begin.
use Rattle.std.specs.Prelude.{◌≡◌, ℕ, false, None, Some, Option, List, [], ◌∷◌, map}
use Rattle.civl_tree.specs.declared.action.Action.{Action}
use Rattle.civl_tree.specs.declared.action.Mode.TheVariants.{Val}
use Rattle.civl_tree.specs.declared.action.Mover.TheVariants as mover
use Rattle.civl_tree.specs.declared.expr.Expr.{Expr}
use Rattle.civl_tree.specs.declared.expr.Expr as expr
use Rattle.civl_tree.specs.declared.expr.Sort.TheVariants as sort
use Rattle.civl_tree.specs.declared.expr.Two.TheVariants.{Add, Lt, Eq}
use Rattle.civl_tree.specs.declared.program.Proc.{Proc}
use Rattle.civl_tree.specs.declared.program.Program.{Program}
use Rattle.civl_tree.specs.declared.stmt.Stmt.{Stmt}
use Rattle.civl_tree.specs.declared.stmt.Stmt as stmt
use Rattle.civl_tree.specs.examples.SpellingWords.{named}
use Rattle.civl_places.specs.declared.formula.Formula.TheVariants as formula
use Rattle.civl_places.specs.declared.formula.InAction.TheVariants.{Gate, Guard, Offer, Update}
use Rattle.civl_places.specs.declared.formula.InStatement.{InStatement}
use Rattle.civl_places.specs.declared.formula.InStatement.TheVariants as part
use Rattle.civl_places.specs.Formulas.{formula_start}

abbrev x : Expr
x = expr.Name (named "x")

abbrev p : Expr
p = expr.Name (named "p")

abbrev l : Expr
l = expr.Name (named "l")

-- action A (val p : word(8)) -> () choose (c : word(8) = x, d : bool = (p < x)) layers 0 to 1 atomic
-- gate (p == x) guard true { x := c; y := d; }
abbrev action : Action
action = record {
  name = named "A";
  params = record { mode = Val; name = named "p"; sort = sort.Word 8 } ∷ [];
  outs = [];
  choices =
      record { name = named "c"; sort = sort.Word 8; offer = x }
      ∷ record { name = named "d"; sort = sort.Bool; offer = expr.Two Lt p x }
      ∷ [];
  first = 0;
  last = 1;
  mover = mover.Atomic;
  gate = expr.Two Eq p x;
  guard = expr.True;
  updates =
      record { target = named "x"; expr = expr.Name (named "c") }
      ∷ record { target = named "y"; expr = expr.Name (named "d") }
      ∷ [];
}

-- l := (p + l);
-- if (l < p) { assert (l == p); } else { call A((p + l), l) -> (l); }
-- while rank true by l inv false { yield (p == l); }
-- while yield true inv true { intro l := p; }
-- while true { spawn P(l); commit; }
abbrev body : List Stmt
body =
    stmt.Assign (named "l") (expr.Two Add p l)
    ∷ stmt.If (expr.Two Lt l p)
    (stmt.Assert (expr.Two Eq l p) ∷ [])
    (stmt.Call (named "A") (expr.Two Add p l ∷ l ∷ []) (named "l" ∷ []) ∷ [])
    ∷ stmt.RankLoop expr.True l expr.False (stmt.Yield (expr.Two Eq p l) ∷ [])
    ∷ stmt.YieldLoop expr.True expr.True (stmt.Intro (named "l") p ∷ [])
    ∷ stmt.While expr.True (stmt.Spawn (named "P") (l ∷ []) ∷ stmt.Commit ∷ [])
    ∷ []

-- proc P (val p : word(8)) -> () refines A with (p, (p + p)) layer 1 { var l : word(8); .. }
abbrev proc : Proc
proc = record {
  name = named "P";
  params = record { mode = Val; name = named "p"; sort = sort.Word 8 } ∷ [];
  outs = [];
  refines = Some (record { action = named "A"; with = p ∷ expr.Two Add p p ∷ []; layer = 1 });
  locals = record { linear = false; name = named "l"; sort = sort.Word 8 } ∷ [];
  body = body;
}

-- civl 1; layers 2; permissions 1; global x : word(8) layers 0 to 2; init true; invariant 1 (x == x); .. thread P(1:8, 2:8);
abbrev pub program : Program
program = record {
  version = 1;
  layers = 2;
  permissions = 1;
  globals = record { linear = false; name = named "x"; sort = sort.Word 8; first = 0; last = 2 } ∷ [];
  init = expr.True;
  invariants = record { step = 1; expr = expr.Two Eq x x } ∷ [];
  actions = action ∷ [];
  procs = proc ∷ [];
  threads = record { callee = named "P"; args = expr.Literal 1 8 ∷ expr.Literal 2 8 ∷ [] } ∷ [];
}

abbrev InDeclarations : Type 0
InDeclarations =
    map (formula_start program)
    (formula.Init ∷ formula.Invariant 0 ∷ formula.Thread 0 0 ∷ formula.Thread 0 1 ∷ formula.With 0 0 ∷ formula.With 0 1 ∷ [])
    ≡ Some 22 ∷ Some 26 ∷ Some 213 ∷ Some 217 ∷ Some 108 ∷ Some 110 ∷ []

abbrev InActions : Type 0
InActions =
    map (λ part. formula_start program (formula.Action 0 part)) (Offer 0 ∷ Offer 1 ∷ Gate ∷ Guard ∷ Update 0 ∷ Update 1 ∷ [])
    ≡ Some 55 ∷ Some 61 ∷ Some 73 ∷ Some 79 ∷ Some 83 ∷ Some 87 ∷ []

-- the expression of the statement with this number
abbrev at : ℕ → InStatement → Option ℕ
at number part = formula_start program (formula.Statement 0 number part)

abbrev InStatements : Type 0
InStatements =
    at 0 part.Value ∷ at 1 part.Condition ∷ at 2 part.Condition ∷ at 3 (part.Argument 0) ∷ at 3 (part.Argument 1)
    ∷ at 4 part.Condition ∷ at 4 part.Rank ∷ at 4 part.Invariant ∷ at 5 part.Invariant
    ∷ at 6 part.Condition ∷ at 6 part.Invariant ∷ at 7 part.Value
    ∷ at 8 part.Condition ∷ at 9 (part.Argument 0) ∷ []
    ≡ Some 129 ∷ Some 136 ∷ Some 143 ∷ Some 155 ∷ Some 161
    ∷ Some 171 ∷ Some 173 ∷ Some 175 ∷ Some 178
    ∷ Some 187 ∷ Some 189 ∷ Some 194
    ∷ Some 198 ∷ Some 203 ∷ []

-- no such place in a list, and no such expression in a statement: an argument of a call, a commit, a plain loop and the
-- exit
abbrev NoneThere : Type 0
NoneThere =
    formula_start program (formula.Invariant 1) ∷ formula_start program (formula.Action 1 Gate)
    ∷ formula_start program (formula.Action 0 (Offer 2)) ∷ formula_start program (formula.Action 0 (Update 2))
    ∷ formula_start program (formula.With 0 2) ∷ formula_start program (formula.Thread 0 2)
    ∷ at 3 (part.Argument 2) ∷ at 10 part.Value ∷ at 8 part.Rank ∷ at 11 part.Condition ∷ []
    ≡ None ∷ None ∷ None ∷ None ∷ None ∷ None ∷ None ∷ None ∷ None ∷ None ∷ []

pub record FormulaExamples : Type 0 where
  pub declarations : InDeclarations
  pub actions : InActions
  pub statements : InStatements
  pub none : NoneThere
