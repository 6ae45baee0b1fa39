-- The program of a layer as a system of threads over its own configurations and moves. Its blocks are those of the procedures
-- of the layer above. (Lipton, Reduction: a method of proving properties of parallel programs, 1975; Hawblitzel, Petrank,
-- Qadeer, Tasiran, CAV 2015.)
use Rattle.std.specs.Prelude.{ℕ, Bool, false, Option, None, Some, slice_get}
use Rattle.civl_tree.specs.declared.program.Program.{Program}
use Rattle.civl_firing.specs.declared.store.Store.{Store}
use Rattle.civl_meaning.specs.declared.config.Move.{Move}
use Rattle.civl_meaning.specs.declared.config.Plain.{Plain}
use Rattle.civl_meaning.specs.declared.config.Running.{Running}
use Rattle.civl_meaning.specs.declared.config.Config.{Config}
use Rattle.civl_meaning.specs.declared.config.Stepped.{Stepped}
use Rattle.civl_meaning.specs.declared.config.Stepped.TheVariants as answer
use Rattle.civl_meaning.specs.Step.{start, step_of}
use Rattle.civl_meaning.specs.Failing.{thread_fails}
use Rattle.civl_meaning.specs.Layers.{program_at}
use Rattle.civl_reduction.specs.interleavings.Systems.{System}
use Rattle.civl_reduction.specs.interleavings.Reduction.{Place}
use Rattle.civl_reduction.specs.interleavings.Threads.{stands_in}
use Rattle.civl_reduction.specs.blocks.Blocks.{inside}
use Rattle.civl_reduction.specs.blocks.Stands.{stands}
use Rattle.civl_reduction.specs.blocks.Challenged.{challenged}

-- what a step leaves that is made
abbrev pub made : Stepped × Config → Option Config
made (answer.Moved, after) = Some after
made (answer.Blocked, after) = None
made (answer.NoThread, after) = None
made (answer.Ended, after) = None
made (answer.Failing, after) = None
made (answer.BadChoices, after) = None

-- of a thread that is there
abbrev pub there_fails : Plain → Store → Option Running → Bool
there_fails plain store None = false
there_fails plain store (Some thread) = thread_fails plain store thread

abbrev pub there_inside : Program → ℕ → Option Running → Bool
there_inside program layer None = false
there_inside program layer (Some thread) = inside program layer thread

abbrev pub layer_run : Program → ℕ → Store → System Config Move
layer_run program layer store = record {
  steps = record {
    start = start (program_at program layer) store;
    mover = λ m. m.thread;
    step = λ c m. made (step_of (program_at program layer) c m);
    fails = λ c t. there_fails (program_at program layer) c.store (slice_get c.threads t);
  };
  inside = λ c t. there_inside program layer (slice_get c.threads t);
  challenged = λ ms. challenged program layer store ms;
}

-- where the thread with this number stands; between blocks, if it isn't there
abbrev pub place_at : Program → ℕ → Config → ℕ → Place
place_at program layer c t = stands_in (stands program layer) (slice_get c.threads t)
