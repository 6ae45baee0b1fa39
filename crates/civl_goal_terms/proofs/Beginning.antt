-- The goals of beginnings: their variables are all globals, what they ask of a store, and what they weigh.
use Rattle.std.specs.Prelude.{slice_get, not, ◌&&◌, false}
use Rattle.std.specs.Option.{option_map_or}
use Rattle.std.proofs.Common.{◌≡◌, ◌∙◌, ℕ, zero, suc, ◌+◌, ◌*◌, ◌≤◌, Bool, List, [], ◌∷◌, refl, sym, ap, arith, Some}
use Rattle.civl_bits.specs.declared.value.Value.{Value}
use Rattle.civl_tree.specs.declared.program.Proc.{Proc}
use Rattle.civl_tree.specs.declared.program.Thread.{Thread as Declared}
use Rattle.civl_tree.specs.declared.program.Program.{Program}
use Rattle.civl_tree.specs.rules.Uses.{param_sorts}
use Rattle.civl_meaning.specs.Meaning.{proc_number}
use Rattle.civl_meaning.proofs.Begun.{proc_is}
use Rattle.civl_conditions.specs.Invariants.{meets_init}
use Rattle.civl_conditions.specs.Weights.{initial_own}
use Rattle.civl_states.specs.formula_parts.Given.{bits_of_sorts}
use Rattle.civl_states.specs.Stores.{global_sorts}
use Rattle.civl_states.proofs.Variables.{globals_named, there_is}
use Rattle.civl_movers.specs.interfere.Arguments.{arg_sorts, thread_weight, threads_weight}
use Rattle.civl_movers.proofs.interfere.Arguing.{Callable}
use Rattle.civl_movers.proofs.interfere.Starting.{all_bits}
use Rattle.civl_outlines.specs.declared.outline.Outline.{Outline}
use Rattle.civl_goals.specs.declared.goal.Goal.TheVariants as goal
use Rattle.civl_goals.specs.Outlines.{invariant_holds}
use Rattle.civl_goals.specs.Failed.{thread_fails, failed}
use Rattle.civl_goals.specs.Variables.{variables}
use Rattle.civl_goals.specs.Weights.{invariant_weight, first_note_weight, weight}
use Rattle.civl_goal_terms.specs.Formulas.{sorts_of}
use Rattle.civl_goal_terms.specs.inner.Frames.{named_sorts}

-- ---- variables

pub invariant_sorts : (program : Program) → sorts_of program goal.Invariant ≡ global_sorts program
unfolding variables
invariant_sorts program = globals_named [] program.globals

pub thread_sorts : (program : Program) (i : ℕ) → sorts_of program (goal.Thread i) ≡ global_sorts program
unfolding variables
thread_sorts program i = globals_named [] program.globals

-- ---- what they ask

pub invariant_is : (program : Program) (outline : Outline) (values : List Value)
    → (meets_init program (record { values = values }) && not (invariant_holds program outline (record { values = values }))) ≡ failed program outline goal.Invariant values
unfolding failed
invariant_is program outline values = refl

pub thread_is : (program : Program) (outline : Outline) (i : ℕ) (thread : Declared) (values : List Value) → slice_get program.threads i ≡ Some thread
    → (meets_init program (record { values = values }) && thread_fails program outline (record { values = values }) thread) ≡ failed program outline (goal.Thread i) values
unfolding failed
thread_is program outline i thread values e =
    ap (λ (b : Bool). meets_init program (record { values = values }) && b) (sym (there_is (slice_get program.threads i) thread false (thread_fails program outline (record { values = values })) e))

-- ---- weights

pub invariant_weighs : (program : Program) (outline : Outline) → weight program outline goal.Invariant ≡ bits_of_sorts (global_sorts program) + (2 * invariant_weight program outline + initial_own program + 1)
unfolding weight variables
invariant_weighs program outline = ap (λ n. n + (2 * invariant_weight program outline + initial_own program + 1)) (all_bits program)

pub thread_weighs : (program : Program) (outline : Outline) (i : ℕ) (thread : Declared) → slice_get program.threads i ≡ Some thread
    → weight program outline (goal.Thread i) ≡ bits_of_sorts (global_sorts program) + (2 * (invariant_weight program outline + first_note_weight program outline (proc_number program thread.callee)) + initial_own program + 1)
unfolding weight variables
thread_weighs program outline i thread e =
    ap (λ n. n + (2 * (invariant_weight program outline + option_map_or (λ t. first_note_weight program outline (proc_number program t.callee)) (slice_get program.threads i) 0) + initial_own program + 1)) (all_bits program)
    ∙ ap (λ n. bits_of_sorts (global_sorts program) + (2 * (invariant_weight program outline + n) + initial_own program + 1))
    (there_is (slice_get program.threads i) thread 0 (λ (t : Declared). first_note_weight program outline (proc_number program t.callee)) e)

one_of : (program : Program) (ts : List Declared) (i : ℕ) (thread : Declared) → slice_get ts i ≡ Some thread → thread_weight program thread ≤ threads_weight program ts
one_of program [] i thread e = absurd (cc)
one_of program (t ∷ ts) zero thread e =
    let same : t ≡ thread = cc in
    let q : thread_weight program t ≡ thread_weight program thread = ap (thread_weight program) same in
    omega (arith, q)
one_of program (t ∷ ts) (suc i) thread e = omega (arith, one_of program ts i thread e)

-- the arguments of a thread weigh no more than those of all
pub thread_lighter : (program : Program) (i : ℕ) (thread : Declared) → slice_get program.threads i ≡ Some thread → thread_weight program thread ≤ threads_weight program program.threads
thread_lighter program i thread e = one_of program program.threads i thread e

-- ---- threads

-- its arguments have the sorts of the parameters
pub args_named : (program : Program) (thread : Declared) → Callable program thread → arg_sorts program thread.args ≡ named_sorts program thread.callee
args_named program thread h =
    h.sorts ∙ sym (there_is (slice_get program.procs (proc_number program thread.callee)) h.proc [] (λ (p : Proc). param_sorts p.params) (proc_is program thread.callee ∙ h.named))
