-- What the threads of a configuration own: the values of the linear locals that they hold. (Linear permissions: Kragl,
-- Qadeer, Layered concurrent programs, CAV 2018; linear variables of the Civl verifier.)
use Rattle.std.specs.Prelude.{ℕ, Bool, if◌then◌else◌, List, [], ◌∷◌, ◌++◌, flat_map, get_or, Option, None, Some, slice_get, IsTrue}
use Rattle.civl_bits.specs.declared.value.Value.{Value}
use Rattle.civl_tree.specs.declared.name.Name.{Name}
use Rattle.civl_tree.specs.declared.stmt.Stmt.{Stmt, out-Stmt}
use Rattle.civl_tree.specs.declared.stmt.Stmt.TheOpen.{Stmt-F, Call}
use Rattle.civl_tree.specs.declared.program.Proc.{Proc}
use Rattle.civl_tree.specs.declared.program.Program.{Program}
use Rattle.civl_tree.specs.Numbering.{statement_at}
use Rattle.civl_tree.specs.rules.Names.{names_in_proc, callee_signature}
use Rattle.civl_meaning.specs.declared.config.Activation.{Activation}
use Rattle.civl_meaning.specs.declared.config.State.{State}
use Rattle.civl_meaning.specs.declared.config.State.TheVariants.{Before, Inside, After}
use Rattle.civl_meaning.specs.declared.config.Running.{Running}
use Rattle.civl_meaning.specs.declared.config.Config.{Config}
use Rattle.civl_meaning.specs.Permissions.{permissions_of_word, pairwise_disjoint, of_globals}
use Rattle.civl_meaning.specs.Initial.{of_args}
use Rattle.civl_linear.specs.Held.{traced_proc, spawn_held}

-- ---- what is held, as flags for the names of a procedure

-- before the statement with this number, or at the exit
abbrev pub held_before : Program → Proc → ℕ → List Bool
held_before program proc place = get_or ((traced_proc program proc).befores ++ (traced_proc program proc).after ∷ []) place []

-- while a call runs: without its lend and take arguments, as behind a spawn
abbrev pub layer_keeps : Program → List Name → List Bool → Stmt-F Stmt → List Bool
layer_keeps program names held (Call callee args results) = spawn_held names (callee_signature program callee) args held
layer_keeps program names held _ = held

abbrev pub statement_keeps : Program → List Name → List Bool → Option Stmt → List Bool
statement_keeps program names held None = held
statement_keeps program names held (Some stmt) = layer_keeps program names held (out-Stmt stmt)

-- while the statement with this number runs
abbrev pub held_during : Program → Proc → ℕ → List Bool
held_during program proc place = statement_keeps program (names_in_proc proc) (held_before program proc place) (statement_at proc.body place)

-- ---- what is owned, as the permissions of each item

-- the permissions of the values that have a flag
abbrev pub of_flagged : List Bool → List Value → List (List ℕ)
of_flagged [] values = []
of_flagged (is_held ∷ held) [] = []
of_flagged (is_held ∷ held) (value ∷ values) = (if is_held then permissions_of_word value ∷ [] else []) ++ of_flagged held values

-- of a frame, where this tells what is held at a place of a procedure
abbrev pub of_locals : (Proc → ℕ → List Bool) → Activation → Option Proc → List (List ℕ)
of_locals held frame None = []
of_locals held frame (Some proc) = of_flagged (held proc frame.place) frame.locals

abbrev pub of_frame : Program → (Proc → ℕ → List Bool) → Activation → List (List ℕ)
of_frame program held frame = of_locals held frame (slice_get program.procs frame.procedure)

-- in the topmost frame the held locals; in a frame that waits in a call those held before the call that aren't arguments
-- for its lend or take parameters; before a thread's first step its linear arguments
abbrev pub of_state : Program → Running → State → List (List ℕ)
of_state program thread Before = of_args (slice_get program.procs thread.callee) thread.args
of_state program thread (Inside below top) = flat_map (of_frame program (held_during program)) below ++ of_frame program (held_before program) top
of_state program thread After = []

abbrev pub owned : Program → Running → List (List ℕ)
owned program thread = of_state program thread thread.state

-- the permissions of the linear globals and of what all threads own
abbrev pub all_permissions : Program → Config → List (List ℕ)
all_permissions program config = of_globals program.globals config.store.values ++ flat_map (owned program) config.threads

-- they are pairwise disjoint
abbrev pub IsParted : Program → Config → Type 0
IsParted program config = IsTrue (pairwise_disjoint (all_permissions program config))
