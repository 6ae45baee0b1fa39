-- Beside a run of the program of a layer, block by block: the values of the globals that the next layer introduces, as the
-- intros set them, and which frames of that layer's procedures have passed a commit. (Auxiliary variables: Owicki and Gries,
-- 1976; introduced variables: Hawblitzel, Petrank, Qadeer, Tasiran, CAV 2015; Kragl, Qadeer, CAV 2018.)
use Rattle.std.specs.Prelude.{ℕ, ◌+◌, Bool, false, nat_eq, if◌then◌else◌, List, [], ◌∷◌, Option, None, Some}
use Rattle.civl_bits.specs.declared.value.Value.{Value}
use Rattle.civl_tree.specs.declared.program.Global.{Global}
use Rattle.civl_tree.specs.declared.program.Proc.{Proc}
use Rattle.civl_tree.specs.declared.program.Program.{Program}
use Rattle.civl_tree.specs.declared.stmt.Stmt.{Stmt, out-Stmt}
use Rattle.civl_tree.specs.declared.stmt.Stmt.TheOpen as stmt
use Rattle.civl_firing.specs.declared.store.Store.{Store}
use Rattle.civl_meaning.specs.declared.config.Activation.{Activation}
use Rattle.civl_meaning.specs.declared.config.Move.{Move}
use Rattle.civl_meaning.specs.declared.config.Config.{Config}
use Rattle.civl_meaning.specs.Rest.{Rest}
use Rattle.civl_meaning.specs.Step.{start, step_of}
use Rattle.civl_meaning.specs.Layers.{program_at}
use Rattle.civl_conditions.specs.paths.Paths.{Course, Progress, committed, introduced}
use Rattle.civl_conditions.specs.paths.Runs.{led}
use Rattle.civl_reduction.specs.blocks.Blocks.{at_yield, rest_of}
use Rattle.civl_reduction.specs.blocks.Cuts.{frame_at, settled}

pub record Shadow : Type 0 where
  -- the values of the globals that the next layer introduces; those of the others don't matter
  pub store : Store
  -- of each thread: its frame of a procedure of the next layer has passed a commit
  pub done : ℕ → Bool

-- ---- the store with the shadow's values

-- with the second's values for the globals whose first layer is this one
abbrev pub merged_values : ℕ → List Global → List Value → List Value → List Value
merged_values first [] vs ws = vs
merged_values first (g ∷ gs) [] ws = []
merged_values first (g ∷ gs) (v ∷ vs) [] = v ∷ vs
merged_values first (g ∷ gs) (v ∷ vs) (w ∷ ws) = (if nat_eq g.first first then w else v) ∷ merged_values first gs vs ws

-- a store of the layer's program, with these values for the globals that the next layer introduces
abbrev pub merged : Program → ℕ → Store → Store → Store
merged program layer store introduced = record { values = merged_values (layer + 1) program.globals store.values introduced.values }

-- ---- what takes effect

-- the commits and intros up to the next statement of a plain program, past yields: of a frame that stands at a yield, those
-- of the blocks without a step that begin there, in their order, and those before the first step of the next block
abbrev pub glided_layer : Course → stmt.Stmt-F Stmt → Progress → (Progress → Progress) → Progress
glided_layer c stmt.Commit p later = later (committed p)
glided_layer c (stmt.Intro x e) p later = later (introduced c x e p)
glided_layer c (stmt.Yield i) p later = later p
glided_layer c _ p later = p

abbrev pub glided : Course → Rest → Progress → Progress
glided c [] p = p
glided c (q ∷ k) p = glided_layer c (out-Stmt q.1) p (glided c k)

-- commits and intros look at no choices
abbrev pub course_of : Program → ℕ → Proc → Course
course_of program layer proc = record { plain = program_at program layer; proc = proc; chosen = λ number. [] }

-- the state of a frame of the thread t: its locals, this store with the shadow's values, and its `done`
abbrev pub progress_in : Program → ℕ → ℕ → Store → Shadow → Activation → Progress
progress_in program layer t store shadow frame = record { store = merged program layer store shadow.store; locals = frame.locals; done = shadow.done t; again = false }

abbrev pub with_done : (ℕ → Bool) → ℕ → Bool → ℕ → Bool
with_done done t value u = if nat_eq u t then value else done u

abbrev pub shadow_with : Shadow → ℕ → Progress → Shadow
shadow_with shadow t p = record { store = p.store; done = with_done shadow.done t p.done }

-- just before a step of the thread t: where it stands at a yield, what is behind that takes effect
abbrev pub before_frame : Program → ℕ → ℕ → Store → Shadow → Option (Proc × Activation) → Shadow
before_frame program layer t store shadow None = shadow
before_frame program layer t store shadow (Some f) =
    if at_yield (rest_of f) then shadow_with shadow t (glided (course_of program layer f.0) (settled (rest_of f)) (progress_in program layer t store shadow f.1)) else shadow

abbrev pub before_step : Program → ℕ → ℕ → Config → Shadow → Shadow
before_step program layer t config shadow = before_frame program layer t config.store shadow (frame_at program (layer + 1) config.threads t)

-- a frame that is new has passed no commit
abbrev pub begun_with : ℕ → Option (Proc × Activation) → Shadow → Shadow
begun_with t None shadow = record { store = shadow.store; done = with_done shadow.done t false }
begun_with t (Some f) shadow = shadow

-- just behind it: what stands before the next cut or statement of a plain program takes effect
abbrev pub after_frame : Program → ℕ → ℕ → Store → Shadow → Option (Proc × Activation) → Shadow
after_frame program layer t store shadow None = shadow
after_frame program layer t store shadow (Some f) = shadow_with shadow t (led (course_of program layer f.0) (rest_of f) (progress_in program layer t store shadow f.1))

abbrev pub after_step : Program → ℕ → ℕ → Config → Config → Shadow → Shadow
after_step program layer t before config shadow =
    after_frame program layer t config.store (begun_with t (frame_at program (layer + 1) before.threads t) shadow) (frame_at program (layer + 1) config.threads t)

-- ---- along the moves of a block run

-- a configuration, and the shadow beside it
pub record Shadowed : Type 0 where
  pub config : Config
  pub shadow : Shadow

-- the store with the shadow's values
abbrev pub seen : Program → ℕ → Shadowed → Store
seen program layer s = merged program layer s.config.store s.shadow.store

abbrev pub shadowed_step : Program → ℕ → Shadowed → Move → Shadowed
shadowed_step program layer s m =
    let next = (step_of (program_at program layer) s.config m).1 in
    record { config = next; shadow = after_step program layer m.thread s.config next (before_step program layer m.thread s.config s.shadow) }

abbrev pub shadowed_from : Program → ℕ → List Move → Shadowed → Shadowed
shadowed_from program layer [] s = s
shadowed_from program layer (m ∷ ms) s = shadowed_from program layer ms (shadowed_step program layer s m)

-- where the program starts the shadow has the same values
abbrev pub shadowed_start : Program → ℕ → Store → Shadowed
shadowed_start program layer store = record { config = start (program_at program layer) store; shadow = record { store = store; done = λ t. false } }

-- what these moves lead to
abbrev pub shadowed : Program → ℕ → Store → List Move → Shadowed
shadowed program layer store ms = shadowed_from program layer ms (shadowed_start program layer store)
