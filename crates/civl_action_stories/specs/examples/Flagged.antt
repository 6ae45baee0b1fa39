-- Stories of a flag and what it guards:
--
--     civl 1; layers 2; permissions 1;
--     global f : bool layers 0 to 2;
--     global x : word(8) layers 0 to 2;
--     init true;
--     invariant 2 true;
--     invariant 1 f;
--     action Free() -> () choose () layers 0 to 0 atomic gate true guard true { f := false; }
--     action Read() -> (val v : word(8)) choose () layers 0 to 0 atomic gate true guard true { v := x; }
--     action Write(val w : word(8)) -> () choose () layers 0 to 0 atomic gate f guard true { x := w; }
--     proc Stay(val k : word(8)) -> () refines Free with () layer 1 { yield (f || (x == k)); }
use Rattle.std.specs.Prelude.{ℕ, ◌≡◌, Bool, true, false, List, [], ◌∷◌, codes}
use Rattle.civl_bits.specs.declared.value.Value.{Value}
use Rattle.civl_tree.specs.declared.expr.Expr as expr
use Rattle.civl_tree.specs.declared.expr.Two.TheVariants.{Eq, Or}
use Rattle.civl_tree.specs.declared.expr.Sort.TheVariants as sort
use Rattle.civl_tree.specs.declared.action.Mode.TheVariants.{Val}
use Rattle.civl_tree.specs.declared.program.Program.{Program}
use Rattle.civl_tree.specs.declared.stmt.Stmt as stmt
use Rattle.civl_firing.specs.declared.store.Store.{Store}
use Rattle.civl_firing.specs.examples.Written.{word, bool, name, global, param, update, action, proc, refines, holding}
use Rattle.civl_conditions.specs.declared.condition.Condition.TheVariants.{Start, Pair, Act}
use Rattle.civl_conditions.specs.declared.condition.Target.TheVariants as target
use Rattle.civl_clashes.specs.declared.violations.Effect.{Effect}
use Rattle.civl_clashes.specs.declared.violations.Instance.{Instance}
use Rattle.civl_clashes.specs.declared.violations.Which.TheVariants.{First}
use Rattle.civl_clashes.specs.declared.violations.Place.TheVariants as place
use Rattle.civl_clashes.specs.declared.violations.Exchanged.TheVariants.{Ends}
use Rattle.civl_clashes.specs.declared.violations.Violation.TheVariants.{Starts, Clashes, Spoils, Strays}
use Rattle.civl_lines.specs.declared.line.Kind.{Kind}
use Rattle.civl_lines.specs.declared.line.Kind.TheVariants.{Info, Error}
use Rattle.civl_lines.specs.declared.line.Shown.{Shown}
use Rattle.civl_lines.specs.declared.line.Shown.TheVariants.{Head, Tokens}
use Rattle.civl_lines.specs.declared.line.Line.{Line}
use Rattle.civl_action_stories.specs.Told.{violation_story}

abbrev flagged : Program
flagged = record {
  version = 1;
  layers = 2;
  permissions = 1;
  globals = global (codes "f") sort.Bool 0 2 ∷ global (codes "x") (sort.Word 8) 0 2 ∷ [];
  init = expr.True;
  invariants = record { step = 2; expr = expr.True } ∷ record { step = 1; expr = name (codes "f") } ∷ [];
  actions =
      action (codes "Free") [] [] [] 0 0 expr.True expr.True (update (codes "f") expr.False ∷ [])
      ∷ action (codes "Read") [] (param Val (codes "v") (sort.Word 8) ∷ []) [] 0 0 expr.True expr.True
      (update (codes "v") (name (codes "x")) ∷ [])
      ∷ action (codes "Write") (param Val (codes "w") (sort.Word 8) ∷ []) [] [] 0 0 (name (codes "f")) expr.True
      (update (codes "x") (name (codes "w")) ∷ [])
      ∷ [];
  procs =
      proc (codes "Stay") (param Val (codes "k") (sort.Word 8) ∷ []) [] (refines (codes "Free") 1) []
      (stmt.Yield (expr.Two Or (name (codes "f")) (expr.Two Eq (name (codes "x")) (name (codes "k")))) ∷ [])
      ∷ [];
  threads = [];
}

-- f and x
abbrev store : Bool → ℕ → Store
store b n = holding (bool b ∷ word 8 n ∷ [])

abbrev leaves : Bool → ℕ → List Value → Effect
leaves b n outs = record { store = store b n; outs = outs }

abbrev plain : ℕ → Instance
plain m = record { action = m; inputs = []; chosen = [] }

-- Write of 7
abbrev writing : Instance
writing = record { action = 2; inputs = word 8 7 ∷ []; chosen = [] }

abbrev at : ℕ → Shown → Kind → List ℕ → Line
at token shown kind text = record { token = token; shown = shown; kind = kind; text = text }

-- K1: the invariant of step 1, which is the second one, is false in an initial store
abbrev pub StartStory : Type 0
StartStory =
    violation_story flagged (Start 1 0) (bool false ∷ word 8 3 ∷ []) (Starts (store false 3))
    ≡ at 37 (Tokens 2) Error (codes "is false in this initial store")
    ∷ at 39 (Tokens 1) Info (codes "is false, f = false")
    ∷ []

-- K3: Read gives 3 before Write, and 7 behind it
abbrev pub ReadStory : Type 0
ReadStory =
    violation_story flagged (Pair 3 1 1 2) (bool true ∷ word 8 3 ∷ word 8 7 ∷ []) (Clashes (record {
      store = store true 3;
      first = plain 1;
      second = writing;
    }) (record {
      kept = record { first = leaves true 3 (word 8 3 ∷ []); second = leaves true 7 [] };
      exchanged = Ends (record { first = leaves true 7 []; second = leaves true 7 (word 8 7 ∷ []) })
          (record { place = place.Output First 0; kept = word 8 3; exchanged = word 8 7 } ∷ []);
    }))
    ≡ at 66 (Tokens 2) Info (codes "first Read: v = 3:8")
    ∷ at 98 (Tokens 2) Info (codes "then Write with w = 7:8: x: 3:8 -> 7:8")
    ∷ at 98 (Tokens 2) Info (codes "exchanged, Write: x: 3:8 -> 7:8")
    ∷ at 66 (Tokens 2) Info (codes "then Read: v = 7:8")
    ∷ at 98 (Tokens 2) Error (codes "X.v is 3:8, and 7:8 in the exchanged order")
    ∷ []

-- K4: Free makes the gate of Write false
abbrev pub FreeStory : Type 0
FreeStory =
    violation_story flagged (Pair 4 1 0 2) (bool true ∷ word 8 3 ∷ word 8 7 ∷ []) (Spoils (record {
      store = store true 3;
      first = plain 0;
      second = writing;
    }) (leaves false 3 []))
    ≡ at 41 (Tokens 2) Info (codes "first Free: f: true -> false")
    ∷ at 98 (Tokens 2) Error (codes "then the gate of Write with w = 7:8 is false")
    ∷ at 121 (Tokens 1) Info (codes "is false, f = false")
    ∷ []

-- K11: Free loses the invariant of step 1
abbrev pub LostStory : Type 0
LostStory =
    violation_story flagged (Act 1 0 (target.Invariant 0)) (bool true ∷ word 8 3 ∷ []) (Strays (store true 3) (plain 0) (leaves false 3 []))
    ≡ at 41 (Tokens 2) Info (codes "Free: f: true -> false")
    ∷ at 37 (Tokens 2) Error (codes "is lost")
    ∷ at 39 (Tokens 1) Info (codes "is false, f = false")
    ∷ []

-- K11: Free loses what Stay says at its yield, in a frame whose k is 5
abbrev pub StayStory : Type 0
StayStory =
    violation_story flagged (Act 1 0 (target.Yield 0 1)) (bool true ∷ word 8 3 ∷ word 8 5 ∷ bool false ∷ [])
    (Strays (store true 3) (plain 0) (leaves false 3 []))
    ≡ at 41 (Tokens 2) Info (codes "Free: f: true -> false")
    ∷ at 152 Head Error (codes "what it says is lost")
    ∷ at 154 (Tokens 1) Info (codes "is false, f = false")
    ∷ at 156 (Tokens 5) Info (codes "is false, x = 3:8, other.k = 5:8")
    ∷ []
