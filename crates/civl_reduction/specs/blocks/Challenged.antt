-- Where a block run is challenged: the gate of a refined action is false where its procedure is called, or is about to begin a
-- block before its commit. There the program of the next layer fails. (Gates of refined actions: Hawblitzel, Petrank, Qadeer,
-- Tasiran, Automated and modular refinement reasoning for concurrent programs, CAV 2015; Kragl, Qadeer, CAV 2018.)
use Rattle.std.specs.Prelude.{ℕ, ◌+◌, Bool, false, not, ◌&&◌, ◌||◌, List, [], ◌∷◌, Option, None, Some, slice_get}
use Rattle.std.specs.Option.{option_map_or}
use Rattle.civl_bits.specs.declared.value.Value.{Value}
use Rattle.civl_tree.specs.declared.program.Proc.{Proc}
use Rattle.civl_tree.specs.declared.program.Program.{Program}
use Rattle.civl_firing.specs.declared.store.Store.{Store}
use Rattle.civl_firing.specs.Fired.{gate_holds}
use Rattle.civl_meaning.specs.declared.config.Activation.{Activation}
use Rattle.civl_meaning.specs.declared.config.Move.{Move}
use Rattle.civl_meaning.specs.declared.config.Running.{Running}
use Rattle.civl_meaning.specs.Layers.{program_at}
use Rattle.civl_conditions.specs.Assumed.{refined_action, inputs_of}
use Rattle.civl_meaning.specs.Change.{Doing, doing}
use Rattle.civl_meaning.specs.Change as does
use Rattle.civl_reduction.specs.blocks.Blocks.{framed_in, frame_of_layer, at_yield, rest_of}
use Rattle.civl_reduction.specs.blocks.Shadow.{Shadowed, seen, shadowed}

-- the gate of the action that the procedure refines holds in this store, with the procedure's parameters as inputs
abbrev pub allows : Program → Store → Proc → List Value → Bool
allows program store proc locals = option_map_or (λ a. gate_holds program.globals store a (inputs_of proc locals)) (refined_action program proc) false

abbrev pub refuses : Program → Store → Option (Proc × Activation) → Bool
refuses program store None = false
refuses program store (Some f) = not (allows program store f.0 f.1.locals)

-- before a call that makes a frame of a procedure of this layer: its parameters have the arguments' values
abbrev pub call_challenged : Program → ℕ → Store → Doing → Bool
call_challenged program layer store (does.Enters frame place) = refuses program store (framed_in layer frame (slice_get program.procs frame.procedure))
call_challenged program layer store _ = false

-- in such a frame at a yield, where no commit was passed
abbrev pub frame_challenged : Program → Store → Bool → Option (Proc × Activation) → Bool
frame_challenged program store done None = false
frame_challenged program store done (Some f) = not done && (at_yield (rest_of f) && refuses program store (Some f))

abbrev pub thread_challenged : Program → ℕ → Store → Bool → Running → Bool
thread_challenged program layer store done thread =
    call_challenged program (layer + 1) store (doing (program_at program layer) thread) || frame_challenged program store done (frame_of_layer program (layer + 1) thread)

-- one of these threads, of which the first has this number
abbrev pub some_challenged : Program → ℕ → Store → (ℕ → Bool) → ℕ → List Running → Bool
some_challenged program layer store done t [] = false
some_challenged program layer store done t (thread ∷ threads) = thread_challenged program layer store (done t) thread || some_challenged program layer store done (t + 1) threads

abbrev pub is_challenged : Program → ℕ → Shadowed → Bool
is_challenged program layer s = some_challenged program layer (seen program layer s) s.shadow.done 0 s.config.threads

-- the block run of these moves of the layer's program, which starts in this store, ends challenged
abbrev pub challenged : Program → ℕ → Store → List Move → Bool
challenged program layer store ms = is_challenged program layer (shadowed program layer store ms)
