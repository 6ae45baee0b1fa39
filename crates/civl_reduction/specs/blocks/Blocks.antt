-- Blocks of the procedures of a layer: from the entry, a yield or a yield loop to the next of these, or to the exit. A thread
-- stands inside a block in the program of the layer below. (Yields delimit atomic blocks: Hawblitzel, Petrank, Qadeer,
-- Tasiran, CAV 2015; Flanagan, Qadeer, A type and effect system for atomicity, 2003.)
use Rattle.std.specs.Prelude.{ℕ, ◌+◌, Bool, true, false, if◌then◌else◌, [], ◌∷◌, Option, None, Some, is_some, slice_get}
use Rattle.civl_tree.specs.declared.stmt.Stmt.{Stmt, out-Stmt}
use Rattle.civl_tree.specs.declared.stmt.Stmt.TheOpen.{Stmt-F, YieldLoop, Yield, Commit, Intro}
use Rattle.civl_tree.specs.declared.program.Proc.{Proc}
use Rattle.civl_tree.specs.declared.program.Program.{Program}
use Rattle.civl_meaning.specs.declared.config.Activation.{Activation}
use Rattle.civl_meaning.specs.declared.config.State.{State}
use Rattle.civl_meaning.specs.declared.config.State.TheVariants.{Before, Inside, After}
use Rattle.civl_meaning.specs.declared.config.Running.{Running}
use Rattle.civl_meaning.specs.Rest.{Rest, rest_at}
use Rattle.civl_conditions.specs.Steps.{has_layer}

-- ---- the ends of blocks

-- where this is the first of the statements that are still to run, and `later` is so of those behind it
abbrev pub layer_at_yield : Stmt-F Stmt → Bool → Bool
layer_at_yield (Yield inv) later = true
layer_at_yield (YieldLoop test inv body) later = true
layer_at_yield Commit later = later
layer_at_yield (Intro target value) later = later
layer_at_yield _ later = false

-- past commits and intros comes a yield or a yield loop: a block has ended here, and the next one hasn't begun
abbrev pub at_yield : Rest → Bool
at_yield [] = false
at_yield (q ∷ rest) = layer_at_yield (out-Stmt q.1) (at_yield rest)

-- ---- frames of a layer

abbrev pub framed_in : ℕ → Activation → Option Proc → Option (Proc × Activation)
framed_in layer frame None = None
framed_in layer frame (Some proc) = if has_layer layer proc then Some (proc, frame) else None

abbrev pub framed_state : Program → ℕ → State → Option (Proc × Activation)
framed_state program layer Before = None
framed_state program layer (Inside below frame) = framed_in layer frame (slice_get program.procs frame.procedure)
framed_state program layer After = None

-- the topmost frame of a thread with its procedure, where that is of this layer
abbrev pub frame_of_layer : Program → ℕ → Running → Option (Proc × Activation)
frame_of_layer program layer thread = framed_state program layer thread.state

-- ---- inside a block

-- the statements from a frame's place to its procedure's exit
abbrev pub rest_of : Proc × Activation → Rest
rest_of framed = rest_at framed.0.body framed.1.place

abbrev pub unended : Rest → Option Rest
unended rest = if at_yield rest then None else Some rest

abbrev pub block_in : Option (Proc × Activation) → Option Rest
block_in None = None
block_in (Some framed) = unended (rest_of framed)

-- what is still to run of the procedure, where a thread stands inside a block of one of this layer. Behind the last statement
-- nothing is, and the block ends when the frame is removed
abbrev pub block_rest : Program → ℕ → Running → Option Rest
block_rest program layer thread = block_in (frame_of_layer program layer thread)

-- in the program of this layer the thread stands inside a block of a procedure of the layer above
abbrev pub inside : Program → ℕ → Running → Bool
inside program layer thread = is_some (block_rest program (layer + 1) thread)
