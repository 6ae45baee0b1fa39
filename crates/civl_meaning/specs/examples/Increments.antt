-- A program that increments without a lock, with two schedules: in the lowest program one thread's increments are lost
-- and the other's assert fails; in the topmost program all three are seen.
--
--   civl 1; layers 1; permissions 1;
--   global x : word(8) layers 0 to 1;
--   init (x == 0:8);
--   action Load() -> (val v : word(8)) choose () layers 0 to 0 atomic gate true guard true { v := x; }
--   action Store(val v : word(8)) -> () choose () layers 0 to 0 atomic gate true guard true { x := v; }
--   action AtomIncr() -> () choose () layers 1 to 1 atomic gate true guard true { x := (x + 1:8); }
--   action Get() -> (val v : word(8)) choose () layers 0 to 1 atomic gate true guard true { v := x; }
--   proc Incr() -> () refines AtomIncr with () layer 1 {
--     var u : word(8);
--     call Load() -> (u); yield (!done); call Store((u + 1:8)) -> (); commit;
--   }
--   proc One() -> () root { call Incr() -> (); }
--   proc Two() -> () root {
--     var w : word(8);
--     call Incr() -> (); call Incr() -> (); call Get() -> (w);
--     assert (2:8 <= w);
--   }
--   thread One();
--   thread Two();
use Rattle.std.specs.Prelude.{ℕ, ◌≡◌, List, [], ◌∷◌, Some, None, codes}
use Rattle.civl_tree.specs.declared.expr.Expr.{Expr}
use Rattle.civl_tree.specs.declared.expr.Expr as expr
use Rattle.civl_tree.specs.declared.expr.One.TheVariants.{Not}
use Rattle.civl_tree.specs.declared.expr.Two.TheVariants.{Add, Le, Eq}
use Rattle.civl_tree.specs.declared.expr.Sort.{Sort}
use Rattle.civl_tree.specs.declared.expr.Sort.TheVariants as sort
use Rattle.civl_tree.specs.declared.action.Mode.TheVariants.{Val}
use Rattle.civl_tree.specs.declared.action.Action.{Action}
use Rattle.civl_tree.specs.declared.program.Program.{Program}
use Rattle.civl_tree.specs.declared.stmt.Stmt as stmt
use Rattle.civl_meaning.specs.declared.config.Activation.{Activation}
use Rattle.civl_meaning.specs.declared.config.State.TheVariants.{Inside}
use Rattle.civl_meaning.specs.declared.config.Config.{Config}
use Rattle.civl_meaning.specs.declared.config.Stepped.TheVariants.{NoThread}
use Rattle.civl_meaning.specs.Step.{start}
use Rattle.civl_meaning.specs.Run.{run_of}
use Rattle.civl_meaning.specs.Failing.{failing_thread}
use Rattle.civl_meaning.specs.Layers.{lowest, topmost}
use Rattle.civl_firing.specs.examples.Written.{word, named, name, lit, global, param, local, update, action, refines, root, proc, thread, call, holding}
use Rattle.civl_meaning.specs.examples.Moves.{moves_of}

abbrev byte : Sort
byte = sort.Word 8

abbrev x : Expr
x = name (codes "x")

-- `() -> (val v : word(8))`, giving x
abbrev reading : List ℕ → ℕ → ℕ → Action
reading bytes first last = action bytes [] (param Val (codes "v") byte ∷ []) [] first last expr.True expr.True (update (codes "v") x ∷ [])

abbrev pub increments : Program
increments = record {
  version = 1;
  layers = 1;
  permissions = 1;
  globals = global (codes "x") byte 0 1 ∷ [];
  init = expr.Two Eq x (lit 0 8);
  invariants = [];
  actions =
      reading (codes "Load") 0 0
      ∷ action (codes "Store") (param Val (codes "v") byte ∷ []) [] [] 0 0 expr.True expr.True (update (codes "x") (name (codes "v")) ∷ [])
      ∷ action (codes "AtomIncr") [] [] [] 1 1 expr.True expr.True (update (codes "x") (expr.Two Add x (lit 1 8)) ∷ [])
      ∷ reading (codes "Get") 0 1
      ∷ [];
  procs =
      proc (codes "Incr") [] [] (refines (codes "AtomIncr") 1) (local (codes "u") byte ∷ []) (
      call (codes "Load") [] (named (codes "u") ∷ [])
      ∷ stmt.Yield (expr.One Not expr.Done)
      ∷ call (codes "Store") (expr.Two Add (name (codes "u")) (lit 1 8) ∷ []) []
      ∷ stmt.Commit
      ∷ []
      )
      ∷ proc (codes "One") [] [] root [] (call (codes "Incr") [] [] ∷ [])
      ∷ proc (codes "Two") [] [] root (local (codes "w") byte ∷ []) (
      call (codes "Incr") [] []
      ∷ call (codes "Incr") [] []
      ∷ call (codes "Get") [] (named (codes "w") ∷ [])
      ∷ stmt.Assert (expr.Two Le (lit 2 8) (name (codes "w")))
      ∷ []
      )
      ∷ [];
  threads = thread (codes "One") [] ∷ thread (codes "Two") [] ∷ [];
}

-- a frame of a procedure, at a place, with locals that are words of 8 bits
abbrev frame : ℕ → ℕ → List ℕ → Activation
frame procedure place [] = record { procedure = procedure; place = place; locals = [] }
frame procedure place (n ∷ ns) = record { procedure = procedure; place = place; locals = word 8 n ∷ [] }

-- the topmost program: two increments of the second thread, one of the first, and then 3 is read
abbrev top_end : Config
top_end = record {
  store = holding (word 8 3 ∷ []);
  threads =
      record { callee = 1; args = []; state = Inside [] (frame 1 1 []) }
      ∷ record { callee = 2; args = []; state = Inside [] (frame 2 4 (3 ∷ [])) }
      ∷ [];
}

abbrev pub TopScheduleRuns : Type 0
TopScheduleRuns =
    run_of (topmost increments) (moves_of (1 ∷ 1 ∷ 1 ∷ 0 ∷ 0 ∷ 1 ∷ 1 ∷ [])) 0 (start (topmost increments) (holding (word 8 0 ∷ []))) ≡ (7, None, top_end)

abbrev pub TopScheduleFailsNot : Type 0
TopScheduleFailsNot = failing_thread (topmost increments) top_end ≡ None

-- the lowest program: the first thread has loaded 0, the second has counted to 2, the first stores 1, the second reads 1
abbrev low_end : Config
low_end = record {
  store = holding (word 8 1 ∷ []);
  threads =
      record { callee = 1; args = []; state = Inside (frame 1 0 [] ∷ []) (frame 0 3 (0 ∷ [])) }
      ∷ record { callee = 2; args = []; state = Inside [] (frame 2 3 (1 ∷ [])) }
      ∷ [];
}

-- half way: the first thread has loaded 0, the second has incremented once
abbrev pub low_middle : Config
low_middle = record {
  store = holding (word 8 1 ∷ []);
  threads =
      record { callee = 1; args = []; state = Inside (frame 1 0 [] ∷ []) (frame 0 1 (0 ∷ [])) }
      ∷ record { callee = 2; args = []; state = Inside [] (frame 2 1 (0 ∷ [])) }
      ∷ [];
}

abbrev pub LowScheduleBegins : Type 0
LowScheduleBegins =
    run_of (lowest increments) (moves_of (0 ∷ 0 ∷ 0 ∷ 1 ∷ 1 ∷ 1 ∷ 1 ∷ 1 ∷ [])) 0 (start (lowest increments) (holding (word 8 0 ∷ [])))
    ≡ (8, None, low_middle)

-- and later: the second has counted to 2
abbrev pub low_later : Config
low_later = record {
  store = holding (word 8 2 ∷ []);
  threads =
      record { callee = 1; args = []; state = Inside (frame 1 0 [] ∷ []) (frame 0 1 (0 ∷ [])) }
      ∷ record { callee = 2; args = []; state = Inside (frame 2 1 (0 ∷ []) ∷ []) (frame 0 3 (1 ∷ [])) }
      ∷ [];
}

abbrev pub LowScheduleGoesOn : Type 0
LowScheduleGoesOn = run_of (lowest increments) (moves_of (1 ∷ 1 ∷ 1 ∷ [])) 8 low_middle ≡ (11, None, low_later)

abbrev pub LowScheduleEnds : Type 0
LowScheduleEnds = run_of (lowest increments) (moves_of (1 ∷ 0 ∷ 1 ∷ [])) 11 low_later ≡ (14, None, low_end)

abbrev pub LowScheduleRuns : Type 0
LowScheduleRuns =
    run_of (lowest increments) (moves_of (0 ∷ 0 ∷ 0 ∷ 1 ∷ 1 ∷ 1 ∷ 1 ∷ 1 ∷ 1 ∷ 1 ∷ 1 ∷ 1 ∷ 0 ∷ 1 ∷ [])) 0 (start (lowest increments) (holding (word 8 0 ∷ [])))
    ≡ (14, None, low_end)

abbrev pub LowScheduleFails : Type 0
LowScheduleFails = failing_thread (lowest increments) low_end ≡ Some 1

abbrev pub NoSuchThread : Type 0
NoSuchThread =
    run_of (lowest increments) (moves_of (2 ∷ [])) 0 (start (lowest increments) (holding (word 8 0 ∷ [])))
    ≡ (0, Some NoThread, start (lowest increments) (holding (word 8 0 ∷ [])))
