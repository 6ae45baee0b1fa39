-- Where a frame stands between two blocks: at a yield or a yield loop, past commits and intros (blocks between yields: Kragl,
-- Qadeer, Layered concurrent programs, CAV 2018).
use Rattle.std.specs.Prelude.{ℕ, [], ◌∷◌, Option, None, Some, List, slice_get}
use Rattle.civl_tree.specs.declared.program.Proc.{Proc}
use Rattle.civl_tree.specs.declared.program.Program.{Program}
use Rattle.civl_tree.specs.declared.stmt.Stmt.{Stmt, out-Stmt}
use Rattle.civl_tree.specs.declared.stmt.Stmt.TheOpen as stmt
use Rattle.civl_meaning.specs.declared.config.Activation.{Activation}
use Rattle.civl_meaning.specs.declared.config.Running.{Running}
use Rattle.civl_meaning.specs.Rest.{Rest}
use Rattle.civl_reduction.specs.blocks.Blocks.{frame_of_layer}

-- the topmost frame of the thread with this number, with its procedure, where that is of this layer
abbrev pub frame_in : Program → ℕ → Option Running → Option (Proc × Activation)
frame_in program layer None = None
frame_in program layer (Some thread) = frame_of_layer program layer thread

abbrev pub frame_at : Program → ℕ → List Running → ℕ → Option (Proc × Activation)
frame_at program layer threads t = frame_in program layer (slice_get threads t)

-- what is still to run past the commits and intros at the head
abbrev pub settled_layer : stmt.Stmt-F Stmt → Rest → Rest → Rest
settled_layer stmt.Commit whole later = later
settled_layer (stmt.Intro x e) whole later = later
settled_layer _ whole later = whole

abbrev pub settled : Rest → Rest
settled [] = []
settled (q ∷ k) = settled_layer (out-Stmt q.1) (q ∷ k) (settled k)
