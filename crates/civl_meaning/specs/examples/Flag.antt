-- A program that sets a flag, with and without a gate, and with threads that are spawned.
--
--   civl 1; layers 1; permissions 1;
--   global f : bool layers 0 to 1;
--   init true;
--   action Set() -> () choose () layers 0 to 0 atomic gate true guard true { f := true; }
--   action AtomSet() -> () choose () layers 1 to 1 atomic gate true guard true { f := true; }
--   proc DoSet() -> () refines AtomSet with () layer 1 { call Set() -> (); commit; }
--   thread DoSet();
use Rattle.std.specs.Prelude.{ℕ, ◌≡◌, Bool, true, false, List, [], ◌∷◌, map, Some, None, codes}
use Rattle.civl_tree.specs.declared.expr.Expr.{Expr}
use Rattle.civl_tree.specs.declared.expr.Expr as expr
use Rattle.civl_tree.specs.declared.expr.Sort.TheVariants as sort
use Rattle.civl_tree.specs.declared.action.Action.{Action}
use Rattle.civl_tree.specs.declared.program.Proc.{Proc}
use Rattle.civl_tree.specs.declared.program.Thread.{Thread}
use Rattle.civl_tree.specs.declared.program.Program.{Program}
use Rattle.civl_tree.specs.declared.stmt.Stmt as stmt
use Rattle.civl_meaning.specs.declared.config.Activation.{Activation}
use Rattle.civl_meaning.specs.declared.config.State.{State}
use Rattle.civl_meaning.specs.declared.config.State.TheVariants.{Before, Inside, After}
use Rattle.civl_meaning.specs.declared.config.Running.{Running}
use Rattle.civl_meaning.specs.declared.config.Config.{Config}
use Rattle.civl_firing.specs.declared.store.Store.{Store}
use Rattle.civl_meaning.specs.declared.config.Stepped.TheVariants.{NoThread, Ended}
use Rattle.civl_meaning.specs.Step.{start}
use Rattle.civl_meaning.specs.Run.{run_of}
use Rattle.civl_meaning.specs.Failing.{failing_thread, CanFail}
use Rattle.civl_meaning.specs.Layers.{lowest, topmost}
use Rattle.civl_meaning.specs.Preserves.{Preserves}
use Rattle.civl_firing.specs.examples.Written.{bool, named, name, global, update, action, refines, root, proc, thread, call, holding}
use Rattle.civl_meaning.specs.examples.Moves.{moves_of}

abbrev pub setting : List ℕ → ℕ → Expr → Action
setting bytes layer gate = action bytes [] [] [] layer layer gate expr.True (update (codes "f") expr.True ∷ [])

abbrev program_of : ℕ → Expr → List Proc → List Thread → Program
program_of version gate more threads = record {
  version = version;
  layers = 1;
  permissions = 1;
  globals = global (codes "f") sort.Bool 0 1 ∷ [];
  init = expr.True;
  invariants = [];
  actions = setting (codes "Set") 0 gate ∷ setting (codes "AtomSet") 1 expr.True ∷ [];
  procs = proc (codes "DoSet") [] [] (refines (codes "AtomSet") 1) [] (call (codes "Set") [] [] ∷ stmt.Commit ∷ []) ∷ more;
  threads = threads;
}

abbrev pub flag : Program
flag = program_of 1 expr.True [] (thread (codes "DoSet") [] ∷ [])

-- the same with `gate f` in Set
abbrev pub gated : Program
gated = program_of 1 (name (codes "f")) [] (thread (codes "DoSet") [] ∷ [])

-- the same with `proc Main() -> () root { spawn DoSet(); spawn DoSet(); }` and `thread Main();`
abbrev pub spawning : Program
spawning =
    program_of 2 expr.True (proc (codes "Main") [] [] root [] (stmt.Spawn (named (codes "DoSet")) [] ∷ stmt.Spawn (named (codes "DoSet")) [] ∷ []) ∷ [])
    (thread (codes "Main") [] ∷ [])

abbrev pub flag_is : Bool → Store
flag_is b = holding (bool b ∷ [])

-- a frame without locals
abbrev pub bare : ℕ → ℕ → Activation
bare procedure place = record { procedure = procedure; place = place; locals = [] }

abbrev pub running : ℕ → State → Running
running callee state = record { callee = callee; args = []; state = state }

-- the flag, and the thread of DoSet
abbrev pub set : Bool → State → Config
set b state = record { store = flag_is b; threads = running 0 state ∷ [] }

-- the one schedule of the lowest program: a call, the action, the return; then the thread has ended
abbrev pub FlagRuns : Type 0
FlagRuns = run_of (lowest flag) (moves_of (0 ∷ 0 ∷ 0 ∷ 0 ∷ [])) 0 (start (lowest flag) (flag_is false)) ≡ (3, Some Ended, set true After)

-- that of the topmost program: the action
abbrev pub FlagRunsAtTheTop : Type 0
FlagRunsAtTheTop = run_of (topmost flag) (moves_of (0 ∷ 0 ∷ [])) 0 (start (topmost flag) (flag_is false)) ≡ (1, Some Ended, set true After)

-- nowhere on its schedule does a thread fail
abbrev pub FlagFailsNot : Type 0
FlagFailsNot =
    map (failing_thread (lowest flag)) (set false Before ∷ set false (Inside [] (bare 0 0)) ∷ set true (Inside [] (bare 0 1)) ∷ set true After ∷ [])
    ≡ None ∷ None ∷ None ∷ None ∷ []

-- with the gate the lowest program can fail where the flag is false
abbrev pub GatedCanFail : Type 0
GatedCanFail = CanFail (lowest gated) (flag_is false)

-- two threads are spawned, one of which sets the flag
abbrev pub SpawnedThreadRuns : Type 0
SpawnedThreadRuns =
    run_of (lowest spawning) (moves_of (0 ∷ 0 ∷ 1 ∷ 1 ∷ [])) 0 (start (lowest spawning) (flag_is false))
    ≡ (4, None, record { store = flag_is true; threads = running 1 (Inside [] (bare 1 1)) ∷ running 0 (Inside [] (bare 0 1)) ∷ [] })

abbrev pub SpawnedThreadActs : Type 0
SpawnedThreadActs =
    run_of (topmost spawning) (moves_of (0 ∷ 0 ∷ 1 ∷ [])) 0 (start (topmost spawning) (flag_is false))
    ≡ (3, None, record { store = flag_is true; threads = running 1 (Inside [] (bare 1 1)) ∷ running 0 After ∷ [] })

abbrev pub NotYetSpawned : Type 0
NotYetSpawned =
    run_of (lowest spawning) (moves_of (1 ∷ [])) 0 (start (lowest spawning) (flag_is false))
    ≡ (0, Some NoThread, record { store = flag_is false; threads = running 1 Before ∷ [] })

abbrev pub SpawnedFailNot : Type 0
SpawnedFailNot =
    failing_thread (lowest spawning) (record { store = flag_is true; threads = running 1 (Inside [] (bare 1 1)) ∷ running 0 (Inside [] (bare 0 1)) ∷ [] })
    ≡ None

-- without it the lowest program can fail from no store
abbrev pub FlagNeverFails : Type 0
FlagNeverFails = (store : Store) → CanFail (lowest flag) store → ⊥

-- so the flag program is preserved, and the gated one, whose topmost program has no gate, is not
abbrev pub FlagIsPreserved : Type 0
FlagIsPreserved = Preserves flag

abbrev pub GatedIsNotPreserved : Type 0
GatedIsNotPreserved = Preserves gated → ⊥
