-- The story of a procedure that sets a bit and then calls an action whose gate says that the bit isn't set:
--
--     civl 1; layers 1; permissions 1;
--     global x : bool layers 0 to 1;
--     init true;
--     action Set() -> () choose () layers 0 to 0 atomic gate true guard true { x := true; }
--     action Need(val q : bool) -> () choose () layers 0 to 0 atomic gate (!x) guard true { }
--     action Top(val p : bool) -> () choose () layers 1 to 1 atomic gate true guard true { }
--     proc P(val p : bool) -> () refines Top with () layer 1 {
--       0 if p { 1 call Set() -> (); } else { }
--       2 call Need(p) -> ();
--       3 commit;
--     }
use Rattle.std.specs.Prelude.{ℕ, ◌≡◌, true, false, List, [], ◌∷◌, codes}
use Rattle.civl_bits.specs.declared.value.Value.{Value}
use Rattle.civl_tree.specs.declared.expr.Expr.{Expr}
use Rattle.civl_tree.specs.declared.expr.Expr as expr
use Rattle.civl_tree.specs.declared.expr.One.TheVariants.{Not}
use Rattle.civl_tree.specs.declared.expr.Sort.TheVariants as sort
use Rattle.civl_tree.specs.declared.action.Mode.TheVariants.{Val}
use Rattle.civl_tree.specs.declared.action.Param.{Param}
use Rattle.civl_tree.specs.declared.program.Proc.{Proc}
use Rattle.civl_tree.specs.declared.program.Program.{Program}
use Rattle.civl_tree.specs.declared.stmt.Stmt.{Stmt}
use Rattle.civl_tree.specs.declared.stmt.Stmt as stmt
use Rattle.civl_firing.specs.examples.Written.{bool, name, global, param, update, action, refines, proc, call}
use Rattle.civl_conditions.specs.declared.condition.Part.TheVariants.{Gate}
use Rattle.civl_conditions.specs.declared.condition.Condition.TheVariants.{Path}
use Rattle.civl_losses.specs.declared.loss.Loss.TheVariants.{FalseGate}
use Rattle.civl_lines.specs.declared.line.Shown.TheVariants.{Head, Tokens}
use Rattle.civl_lines.specs.declared.line.Line.{Line}
use Rattle.civl_path_stories.specs.Paths.{info, error, path_story}

abbrev x : Expr
x = name (codes "x")

abbrev pub p : Expr
p = name (codes "p")

abbrev bit : List ℕ → List Param
bit bytes = param Val bytes sort.Bool ∷ []

abbrev pub choice_of_set : Stmt
choice_of_set = stmt.If p (call (codes "Set") [] [] ∷ []) []

abbrev pub need : Stmt
need = call (codes "Need") (p ∷ []) []

abbrev pub procedure : Proc
procedure = proc (codes "P") (bit (codes "p")) [] (refines (codes "Top") 1) [] (choice_of_set ∷ need ∷ stmt.Commit ∷ [])

abbrev pub gating : Program
gating = record {
  version = 1;
  layers = 1;
  permissions = 1;
  globals = global (codes "x") sort.Bool 0 1 ∷ [];
  init = expr.True;
  invariants = [];
  actions =
      action (codes "Set") [] [] [] 0 0 expr.True expr.True (update (codes "x") expr.True ∷ [])
      ∷ action (codes "Need") (bit (codes "q")) [] [] 0 0 (expr.One Not x) expr.True []
      ∷ action (codes "Top") (bit (codes "p")) [] [] 1 1 expr.True expr.True []
      ∷ [];
  procs = procedure ∷ [];
  threads = [];
}

-- x is false, and p is true
abbrev pub given : List Value
given = bool false ∷ bool true ∷ []

-- at `proc P`, `if p`, both calls and the gate of Need
abbrev pub story : List Line
story =
    info 99 (Tokens 2) (codes "begins here")
    ∷ info 118 Head (codes "true")
    ∷ info 121 Head (codes "x: false -> true")
    ∷ error 133 Head (codes "its gate is false: Need, q = true")
    ∷ info 66 (Tokens 4) (codes "is false, x = true")
    ∷ []

abbrev pub WorkedStory : Type 0
WorkedStory = path_story gating (Path Gate 1 0 0) given (FalseGate 1 (bool true ∷ [])) ≡ story
