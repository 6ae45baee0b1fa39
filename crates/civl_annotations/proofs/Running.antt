-- Programs that differ in annotations alone start, step and fail alike.
use Rattle.std.proofs.Common.{◌≡◌, ℕ, Bool, ◌||◌, List, [], ◌∷◌, ◌++◌, map, refl, sym, ap, ◌∙◌, subst, Option, None, Some}
use Rattle.std.specs.Prelude.{option_map, slice_get, IsTrue, All}
use Rattle.std.specs.List.{list_any, flat_map}
use Rattle.civl_bits.specs.declared.value.Value.{Value}
use Rattle.civl_tree.specs.declared.program.Thread.{Thread}
use Rattle.civl_tree.specs.declared.program.Proc.{Proc}
use Rattle.civl_tree.specs.declared.program.Program.{Program}
use Rattle.civl_firing.specs.declared.store.Store.{Store}
use Rattle.civl_firing.specs.Eval.{values_of}
use Rattle.civl_firing.specs.Scope.{global_values}
use Rattle.civl_meaning.specs.declared.config.Plain.{Plain}
use Rattle.civl_meaning.specs.declared.config.Move.{Move}
use Rattle.civl_meaning.specs.declared.config.Config.{Config}
use Rattle.civl_meaning.specs.declared.config.Running.{Running}
use Rattle.civl_meaning.specs.declared.config.State.TheVariants.{Before}
use Rattle.civl_meaning.specs.declared.config.Stepped.{Stepped}
use Rattle.civl_meaning.specs.declared.config.Change.{Change}
use Rattle.civl_meaning.specs.Permissions.{pairwise_disjoint, of_globals}
use Rattle.civl_meaning.specs.Meaning.{proc_number}
use Rattle.civl_meaning.specs.Change.{Doing, Fails, Waits, Ends, Goes, Enters, Leaves, Spawns, Calls, done_by, change_of, doing}
use Rattle.civl_meaning.specs.Step.{begun, start, step_with, step_in, step_of}
use Rattle.civl_meaning.specs.Run.{RunsTo}
use Rattle.civl_meaning.specs.Failing.{fails_at, thread_fails, is_failing, IsMove, CanFail}
use Rattle.civl_meaning.specs.Initial.{of_args, of_thread, initial_permissions, IsInitial}
use Rattle.civl_meaning.specs.Layers.{means_body, program_at, lowest, topmost}
use Rattle.civl_meaning.specs.Preserves.{Preserves}
use Rattle.civl_annotations.specs.Bare.{bare_proc, bare, DifferInAnnotations}
use Rattle.civl_annotations.specs.Alike.{StartAlike, StepAlike, FailAlike, CanFailAlike, PreserveAlike, NeverFails, TopNeverFails, SafeAlike}
use Rattle.civl_annotations.proofs.Doing.{bare_plain, number_same, proc_there, doing_same}

-- ---- a plain program

module _ (plain : Plain) where
  done_same : (store : Store) (chosen : List Value) (d : Doing) → done_by (bare_plain plain) store chosen d ≡ done_by plain store chosen d
  done_same store chosen Fails = refl
  done_same store chosen Waits = refl
  done_same store chosen Ends = refl
  done_same store chosen (Goes locals place) = refl
  done_same store chosen (Enters frame place) = refl
  done_same store chosen (Leaves frame) = refl
  done_same store chosen (Spawns thread place) = refl
  done_same store chosen (Calls names locals results next action args) = refl

  change_same : (store : Store) (chosen : List Value) (thread : Running) → change_of (bare_plain plain) store chosen thread ≡ change_of plain store chosen thread
  change_same store chosen thread = ap (done_by (bare_plain plain) store chosen) (doing_same plain thread) ∙ done_same store chosen (doing plain thread)

  in_same : (config : Config) (move : Move) (o : Option Running) → step_in (bare_plain plain) config move o ≡ step_in plain config move o
  in_same config move None = refl
  in_same config move (Some thread) = ap (step_with config move.thread thread) (change_same config.store move.choices thread)

  step_same : (config : Config) (move : Move) → step_of (bare_plain plain) config move ≡ step_of plain config move
  step_same config move = in_same config move (slice_get config.threads move.thread)

  at_same : (store : Store) (d : Doing) → fails_at (bare_plain plain) store d ≡ fails_at plain store d
  at_same store Fails = refl
  at_same store Waits = refl
  at_same store Ends = refl
  at_same store (Goes locals place) = refl
  at_same store (Enters frame place) = refl
  at_same store (Leaves frame) = refl
  at_same store (Spawns thread place) = refl
  at_same store (Calls names locals results next action args) = refl

  thread_same : (store : Store) (thread : Running) → thread_fails (bare_plain plain) store thread ≡ thread_fails plain store thread
  thread_same store thread = ap (fails_at (bare_plain plain) store) (doing_same plain thread) ∙ at_same store (doing plain thread)

-- ---- the start

abbrev before : ℕ → List Value → Running
before n args = record { callee = n; args = args; state = Before }

begun_same : (program : Program) (store : Store) (threads : List Thread) → map (begun (bare program) store) threads ≡ map (begun program store) threads
begun_same program store [] = refl
begun_same program store (t ∷ ts) =
    ap (λ (n : ℕ). before n (values_of (global_values program.globals store) t.args) ∷ map (begun (bare program) store) ts) (number_same program t.callee)
    ∙ ap (λ (rs : List Running). begun program store t ∷ rs) (begun_same program store ts)

-- ---- the initial stores

args_same : (o : Option Proc) (args : List Value) → of_args (option_map bare_proc o) args ≡ of_args o args
args_same None args = refl
args_same (Some p) args = refl

thread_permissions : (program : Program) (store : Store) (t : Thread) → of_thread (bare program) store t ≡ of_thread program store t
thread_permissions program store t =
    let args = values_of (global_values program.globals store) t.args in
    ap (λ (n : ℕ). of_args (slice_get (bare program).procs n) args) (number_same program t.callee)
    ∙ ap (λ (o : Option Proc). of_args o args) (proc_there program (proc_number program t.callee))
    ∙ args_same (slice_get program.procs (proc_number program t.callee)) args

threads_permissions : (program : Program) (store : Store) (ts : List Thread) → flat_map (of_thread (bare program) store) ts ≡ flat_map (of_thread program store) ts
threads_permissions program store [] = refl
threads_permissions program store (t ∷ ts) =
    ap (λ (ps : List (List ℕ)). ps ++ flat_map (of_thread (bare program) store) ts) (thread_permissions program store t)
    ∙ ap (λ (ps : List (List ℕ)). of_thread program store t ++ ps) (threads_permissions program store ts)

permissions_same : (program : Program) (store : Store) → initial_permissions (bare program) store ≡ initial_permissions program store
permissions_same program store = ap (λ (ps : List (List ℕ)). of_globals program.globals store.values ++ ps) (threads_permissions program store program.threads)

to_bare : (program : Program) (store : Store) → IsInitial program store → IsInitial (bare program) store
to_bare program store i = record { store_fits = i.store_fits; init_holds = i.init_holds; disjoint = ap pairwise_disjoint (permissions_same program store) ∙ i.disjoint }

from_bare : (program : Program) (store : Store) → IsInitial (bare program) store → IsInitial program store
from_bare program store i = record { store_fits = i.store_fits; init_holds = i.init_holds; disjoint = ap pairwise_disjoint (sym (permissions_same program store)) ∙ i.disjoint }

initial_too : (one other : Program) → DifferInAnnotations one other → (store : Store) → IsInitial one store → IsInitial other store
initial_too one other d store i = from_bare other store (subst (λ (p : Program). IsInitial p store) d (to_bare one store i))

-- ---- the program of a layer

bodies_same : (k : ℕ) (procs : List Proc) → map (λ p. means_body k p.refines) (map bare_proc procs) ≡ map (λ p. means_body k p.refines) procs
bodies_same k [] = refl
bodies_same k (p ∷ ps) = ap (λ (bs : List Bool). means_body k p.refines ∷ bs) (bodies_same k ps)

abbrev plain_of : Program → List Bool → Plain
plain_of program bodies = record { program = program; bodies = bodies }

layer_is : (program : Program) (k : ℕ) → program_at (bare program) k ≡ bare_plain (program_at program k)
layer_is program k = ap (plain_of (bare program)) (bodies_same k program.procs)

layer_step : (program : Program) (k : ℕ) (config : Config) (move : Move) → step_of (program_at (bare program) k) config move ≡ step_of (program_at program k) config move
layer_step program k config move = ap (λ (plain : Plain). step_of plain config move) (layer_is program k) ∙ step_same (program_at program k) config move

layer_fails : (program : Program) (k : ℕ) (store : Store) (thread : Running) → thread_fails (program_at (bare program) k) store thread ≡ thread_fails (program_at program k) store thread
layer_fails program k store thread = ap (λ (plain : Plain). thread_fails plain store thread) (layer_is program k) ∙ thread_same (program_at program k) store thread

abbrev with_threads : Store → List Running → Config
with_threads store threads = record { store = store; threads = threads }

layer_start : (program : Program) (k : ℕ) (store : Store) → start (program_at (bare program) k) store ≡ start (program_at program k) store
layer_start program k store = ap (with_threads store) (begun_same program store program.threads)

-- ---- programs that differ in annotations alone

pub step_alike : StepAlike
step_alike one other d k config move = sym (layer_step one k config move) ∙ ap (λ (p : Program). step_of (program_at p k) config move) d ∙ layer_step other k config move

pub fail_alike : FailAlike
fail_alike one other d k store thread = sym (layer_fails one k store thread) ∙ ap (λ (p : Program). thread_fails (program_at p k) store thread) d ∙ layer_fails other k store thread

start_same : (one other : Program) → DifferInAnnotations one other → (k : ℕ) (store : Store) → start (program_at one k) store ≡ start (program_at other k) store
start_same one other d k store = sym (layer_start one k store) ∙ ap (λ (p : Program). start (program_at p k) store) d ∙ layer_start other k store

pub start_alike : StartAlike
start_alike one other d store = ((initial_too one other d store, initial_too other one (sym d) store), λ k. start_same one other d k store)

-- ---- whole runs

runs_too : (P Q : Plain) → ((config : Config) (move : Move) → step_of P config move ≡ step_of Q config move) → (ms : List Move) (from to : Config) → RunsTo P ms from to → RunsTo Q ms from to
runs_too P Q h [] from to r = r
runs_too P Q h (m ∷ ms) from to r = (r.0, sym (h from m) ∙ r.1, runs_too P Q h ms r.0 to r.2)

any_same : (f g : Running → Bool) → ((t : Running) → f t ≡ g t) → (ts : List Running) → list_any f ts ≡ list_any g ts
any_same f g h [] = refl
any_same f g h (t ∷ ts) = ap (λ (b : Bool). b || list_any f ts) (h t) ∙ ap (λ (b : Bool). g t || b) (any_same f g h ts)

fails_too : (one other : Program) → DifferInAnnotations one other → (k : ℕ) (store : Store) → CanFail (program_at one k) store → CanFail (program_at other k) store
fails_too one other d k store c =
    let P = program_at one k in
    let Q = program_at other k in
    let runs = runs_too P Q (step_alike one other d k) c.0 (start P store) c.1 c.3 in (
      c.0,
      c.1,
      c.2,
      subst (λ (s : Config). RunsTo Q c.0 s c.1) (start_same one other d k store) runs,
      sym (any_same (thread_fails P c.1.store) (thread_fails Q c.1.store) (fail_alike one other d k c.1.store) c.1.threads) ∙ c.4,
    )

pub can_fail_alike : CanFailAlike
can_fail_alike one other d k store = (fails_too one other d k store, fails_too other one (sym d) k store)

-- ---- what is claimed

top_too : (one other : Program) → DifferInAnnotations one other → (store : Store) → CanFail (topmost one) store → CanFail (topmost other) store
top_too one other d store c =
    let layers : one.layers ≡ other.layers = ap (λ (p : Program). p.layers) d in
    subst (λ (k : ℕ). CanFail (program_at other k) store) layers (fails_too one other d one.layers store c)

preserves_too : (one other : Program) → DifferInAnnotations one other → Preserves one → Preserves other
preserves_too one other d h = record {
  starts = (h.starts.0, initial_too one other d h.starts.0 h.starts.1);
  preserved = λ store i c. top_too one other d store (h.preserved store (initial_too other one (sym d) store i) (fails_too other one (sym d) 0 store c));
}

pub preserve_alike : PreserveAlike
preserve_alike one other d = (preserves_too one other d, preserves_too other one (sym d))

never_too : (one other : Program) → DifferInAnnotations one other → NeverFails one → NeverFails other
never_too one other d h store i c = h store (initial_too other one (sym d) store i) (fails_too other one (sym d) 0 store c)

top_never_too : (one other : Program) → DifferInAnnotations one other → TopNeverFails one → TopNeverFails other
top_never_too one other d h store i c = h store (initial_too other one (sym d) store i) (top_too other one (sym d) store c)

pub safe_alike : SafeAlike
safe_alike one other d = ((never_too one other d, never_too other one (sym d)), (top_never_too one other d, top_never_too other one (sym d)))
