-- Stories of goals of an outline:
--
--     civl 1; layers 1; permissions 1;
--     global x : word(4) layers 0 to 1;
--     init (x <= 3:4);
--     action Add(val n : word(4)) -> () choose () layers 0 to 1 atomic gate (x <= n) guard true { x := (x + n); }
--     action Read() -> (val v : word(4)) choose () layers 0 to 1 atomic gate true guard true { v := x; }
--     proc Watch(val k : word(4)) -> () root { var v : word(4); call Read() -> (v); assert (v == k); }
--     proc Main() -> () root { call Add(1:4) -> (); call Add(2:4) -> (); spawn Watch(1:4); }
--     thread Watch(1:4);
--     schedule
--     inv (x <= 2:4);
--     assert 4 0 (x <= k);
--     assert 4 1 (k <= v);
--     assert 5 1 (x <= 1:4);
use Rattle.std.specs.Prelude.{ℕ, ◌≡◌, List, [], ◌∷◌, map, codes}
use Rattle.std.specs.Option.{option_map_or}
use Rattle.civl_bits.specs.declared.value.Value.{Value}
use Rattle.civl_tree.specs.declared.expr.Expr.{Expr}
use Rattle.civl_tree.specs.declared.expr.Expr as expr
use Rattle.civl_tree.specs.declared.expr.Two.TheVariants.{Add, Eq, Le}
use Rattle.civl_tree.specs.declared.expr.Sort.TheVariants as sort
use Rattle.civl_tree.specs.declared.action.Mode.TheVariants.{Val}
use Rattle.civl_tree.specs.declared.program.Program.{Program}
use Rattle.civl_tree.specs.declared.stmt.Stmt as stmt
use Rattle.civl_firing.specs.examples.Written.{word, lit, name, named, global, param, local, update}
use Rattle.civl_firing.specs.examples.Written.{action, root, proc, thread, call}
use Rattle.civl_outlines.specs.declared.outline.Outline.{Outline}
use Rattle.civl_goals.specs.declared.goal.Goal.{Goal}
use Rattle.civl_goals.specs.declared.goal.Goal.TheVariants as goal
use Rattle.civl_goals.specs.examples.Flag.{note}
use Rattle.civl_goal_losses.specs.GoalLosses.{goal_loss}
use Rattle.civl_lines.specs.declared.line.Line.{Line}
use Rattle.civl_lines.specs.declared.line.Shown.TheVariants.{Nothing, Head, Tokens}
use Rattle.civl_path_stories.specs.Paths.{error, info}
use Rattle.civl_goal_stories.specs.GoalStories.{goal_story}

-- ---- the outline

abbrev at_most : List ℕ → Expr → Expr
at_most bytes e = expr.Two Le (name bytes) e

abbrev watching : Program
watching = record {
  version = 1;
  layers = 1;
  permissions = 1;
  globals = global (codes "x") (sort.Word 4) 0 1 ∷ [];
  init = at_most (codes "x") (lit 3 4);
  invariants = [];
  actions =
      action (codes "Add") (param Val (codes "n") (sort.Word 4) ∷ []) [] [] 0 1 (at_most (codes "x") (name (codes "n"))) expr.True
      (update (codes "x") (expr.Two Add (name (codes "x")) (name (codes "n"))) ∷ [])
      ∷ action (codes "Read") [] (param Val (codes "v") (sort.Word 4) ∷ []) [] 0 1 expr.True expr.True
      (update (codes "v") (name (codes "x")) ∷ [])
      ∷ [];
  procs =
      proc (codes "Watch") (param Val (codes "k") (sort.Word 4) ∷ []) [] root (local (codes "v") (sort.Word 4) ∷ [])
      (call (codes "Read") [] (named (codes "v") ∷ []) ∷ stmt.Assert (expr.Two Eq (name (codes "v")) (name (codes "k"))) ∷ [])
      ∷ proc (codes "Main") [] [] root []
      (call (codes "Add") (lit 1 4 ∷ []) [] ∷ call (codes "Add") (lit 2 4 ∷ []) [] ∷ stmt.Spawn (named (codes "Watch")) (lit 1 4 ∷ []) ∷ [])
      ∷ [];
  threads = thread (codes "Watch") (lit 1 4 ∷ []) ∷ [];
}

abbrev watched : Outline
watched = record {
  program = watching;
  holds = at_most (codes "x") (lit 2 4) ∷ [];
  notes =
      note 4 0 (at_most (codes "x") (name (codes "k")))
      ∷ note 4 1 (at_most (codes "k") (name (codes "v")))
      ∷ note 5 1 (at_most (codes "x") (lit 1 4))
      ∷ [];
}

-- ---- the stories

-- of a goal with these values: by what they violate it, line by line
abbrev told : Goal → List Value → List Line
told asked values = option_map_or (goal_story watched asked) (goal_loss watching watched asked values) []

-- a value for each variable, all words of four bits
abbrev four : List ℕ → List Value
four numbers = map (word 4) numbers

-- x is 3 in an initial store
abbrev pub StartStory : Type 0
StartStory =
    told goal.Invariant (four (3 ∷ []))
    ≡ error 21 (Tokens 1) (codes "an initial store without the invariant")
    ∷ info 193 (Tokens 7) (codes "is false, x = 3:4")
    ∷ []

-- x is 2 where Watch begins with 1
abbrev pub ThreadStory : Type 0
ThreadStory =
    told (goal.Thread 0) (four (2 ∷ []))
    ≡ info 183 Head (codes "in this initial store")
    ∷ info 102 (Tokens 2) (codes "begins with k = 1:4, v = 0:4")
    ∷ error 126 Head (codes "the note here is false")
    ∷ info 204 (Tokens 5) (codes "is false, x = 2:4, k = 1:4")
    ∷ []

-- before the first call of Main x is 2, which no note rules out
abbrev pub GateStory : Type 0
GateStory =
    told (goal.Safe 1 0) (four (2 ∷ []))
    ≡ info 152 Nothing (codes "no note is written here")
    ∷ error 152 Head (codes "its gate is false: Add, n = 1:4")
    ∷ info 53 (Tokens 5) (codes "is false, x = 2:4, n = 1:4")
    ∷ []

-- before the assert of Watch v is more than k; the values are those of x, k and v
abbrev pub AssertStory : Type 0
AssertStory =
    told (goal.Safe 0 1) (four (2 ∷ 1 ∷ 2 ∷ []))
    ≡ info 210 Head (codes "is assumed")
    ∷ error 135 Head (codes "this is false")
    ∷ info 136 (Tokens 5) (codes "is false, v = 2:4, k = 1:4")
    ∷ []

-- the second call of Main makes x 3
abbrev pub BreakStory : Type 0
BreakStory =
    told (goal.Keep 1 1) (four (1 ∷ []))
    ≡ info 219 Head (codes "is assumed")
    ∷ info 163 Head (codes "x: 1:4 -> 3:4")
    ∷ error 163 Nothing (codes "the invariant is false behind it")
    ∷ info 193 (Tokens 7) (codes "is false, x = 3:4")
    ∷ []

-- x is 2 where Main spawns Watch with 1
abbrev pub SpawnStory : Type 0
SpawnStory =
    told (goal.Spawn 1 2) (four (2 ∷ []))
    ≡ info 174 Nothing (codes "no note is written here")
    ∷ info 174 Head []
    ∷ info 102 (Tokens 2) (codes "begins with k = 1:4, v = 0:4")
    ∷ error 126 Head (codes "the note here is false")
    ∷ info 204 (Tokens 5) (codes "is false, x = 2:4, k = 1:4")
    ∷ []

-- Watch reads less than k
abbrev pub LeadStory : Type 0
LeadStory =
    told (goal.Next 0 0) (four (1 ∷ 2 ∷ 0 ∷ []))
    ≡ info 201 Head (codes "is assumed")
    ∷ info 126 Head (codes "v: 0:4 -> 1:4")
    ∷ error 135 Head (codes "the note here is false")
    ∷ info 213 (Tokens 5) (codes "is false, k = 2:4, v = 1:4")
    ∷ []

-- the first call of Main makes x more than the k of another thread; the values are those of x, and of its k and v
abbrev pub OtherStory : Type 0
OtherStory =
    told (goal.Other 1 0 0 0) (four (0 ∷ 0 ∷ 0 ∷ []))
    ≡ info 152 Nothing (codes "no note is written here")
    ∷ info 152 Head (codes "x: 0:4 -> 1:4")
    ∷ info 102 (Tokens 2) (codes "another thread with k = 0:4, v = 0:4")
    ∷ error 126 Head (codes "the note here is false for it")
    ∷ info 204 (Tokens 5) (codes "is false, x = 1:4, k = 0:4")
    ∷ []
