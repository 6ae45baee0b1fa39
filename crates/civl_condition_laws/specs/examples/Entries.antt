-- What is assumed at an entry: zeros, and permissions that are apart.
use Rattle.std.specs.Prelude.{ℕ, true, false, List, [], ◌∷◌, codes}
use Rattle.civl_tree.specs.declared.expr.Expr as expr
use Rattle.civl_tree.specs.declared.expr.Two.TheVariants.{Or}
use Rattle.civl_tree.specs.declared.expr.Sort.TheVariants as sort
use Rattle.civl_tree.specs.declared.action.Mode.TheVariants.{Val, Lend}
use Rattle.civl_tree.specs.declared.action.Param.{Param}
use Rattle.civl_tree.specs.declared.stmt.Stmt as stmt
use Rattle.civl_tree.specs.declared.program.Program.{Program}
use Rattle.civl_firing.specs.examples.Written.{word, bool, name, param, local, update, action, refines, proc}
use Rattle.civl_conditions.specs.declared.condition.Condition.TheVariants.{Path}
use Rattle.civl_conditions.specs.declared.condition.Part.TheVariants.{Gate}
use Rattle.civl_conditions.specs.Violated.{violated}
use Rattle.civl_condition_laws.specs.examples.Short.{Tells, linear_global, one_step}

-- global linear pool : word(2) layers 0 to 1;
-- action Top(lend t : word(1), lend u : word(1)) -> () choose () layers 1 to 1 atomic gate true guard true { }
-- proc Do(lend t : word(1), lend u : word(1)) -> () refines Top with () layer 1 { assert false; commit; }
abbrev two_lent : List Param
two_lent = param Lend (codes "t") (sort.Word 1) ∷ param Lend (codes "u") (sort.Word 1) ∷ []

abbrev pub owning : Program
owning =
    one_step (linear_global (codes "pool") (sort.Word 2) 0 1 ∷ []) [] (action (codes "Top") two_lent [] [] 1 1 expr.True expr.True [] ∷ []) (
    proc (codes "Do") two_lent [] (refines (codes "Top") 1) [] (stmt.Assert expr.False ∷ stmt.Commit ∷ []) ∷ []
    )

-- pool, t and u
abbrev pub OwnedFails : Type 0
OwnedFails =
    Tells (violated owning (Path Gate 1 0 0)) (
    (word 2 0 ∷ word 1 0 ∷ word 1 1 ∷ [], true)
    ∷ (word 2 0 ∷ word 1 0 ∷ word 1 0 ∷ [], false)
    ∷ (word 2 2 ∷ word 1 0 ∷ word 1 1 ∷ [], false)
    ∷ []
    )

-- action Top(val b : bool) -> (val o : bool) choose () layers 1 to 1 atomic gate true guard true { o := b; }
-- proc Do(val b : bool) -> (val o : bool) refines Top with () layer 1 { var i : bool; assert ((o || i) || b); commit; }
abbrev one_flag : List ℕ → List Param
one_flag bytes = param Val bytes sort.Bool ∷ []

abbrev pub fresh : Program
fresh =
    one_step [] [] (action (codes "Top") (one_flag (codes "b")) (one_flag (codes "o")) [] 1 1 expr.True expr.True (update (codes "o") (name (codes "b")) ∷ []) ∷ []) (
    proc (codes "Do") (one_flag (codes "b")) (one_flag (codes "o")) (refines (codes "Top") 1) (local (codes "i") sort.Bool ∷ []) (
    stmt.Assert (expr.Two Or (expr.Two Or (name (codes "o")) (name (codes "i"))) (name (codes "b"))) ∷ stmt.Commit ∷ []
    )
    ∷ []
    )

-- b
abbrev pub FreshFails : Type 0
FreshFails = Tells (violated fresh (Path Gate 1 0 0)) ((bool false ∷ [], true) ∷ (bool true ∷ [], false) ∷ [])
