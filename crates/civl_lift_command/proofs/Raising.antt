-- What is found of a store and moves, from what lifting gives.
use Rattle.std.specs.Prelude.{IsTrue, Some}
use Rattle.std.proofs.Common.{◌≡◌, ℕ, ◌+◌, ◌<◌, ◌≤◌, List, length, refl, sym, ap, ◌∙◌, subst, arith}
use Rattle.civl_tree.specs.SpellingDomain.{allows_program}
use Rattle.civl_tree.specs.Numbered.{IsNumbered}
use Rattle.civl_tree.specs.declared.script.Entry.{Entry}
use Rattle.civl_tree.specs.declared.program.Program.{Program}
use Rattle.civl_tree.specs.declared.script.Told.{Told}
use Rattle.civl_firing.specs.declared.store.Store.{Store}
use Rattle.civl_meaning.specs.declared.config.Plain.{Plain}
use Rattle.civl_meaning.specs.declared.config.Move.{Move}
use Rattle.civl_meaning.specs.Layers.{lowest, topmost}
use Rattle.civl_script.specs.replays.Trace.{trace_of}
use Rattle.civl_script.specs.declared.replays.trace.Trace.{Trace}
use Rattle.civl_script.specs.Schedules.{AreMovesOf, IsSchedule}
use Rattle.civl_script.specs.declared.schedule.Schedule.{Schedule}
use Rattle.civl_script.proofs.Only.{moves_count}
use Rattle.civl_verdicts.specs.Verdicts.{IsVerdict}
use Rattle.civl_verdicts.specs.declared.verdict.Verdict.TheVariants.{Accepted}
use Rattle.civl_reduction.specs.simulation.Followed.{IsAccepted as IsSound}
use Rattle.civl_lifting.specs.Lifted.{FailsBy}
use Rattle.civl_frontend.specs.Rules.{IsTaken}
use Rattle.civl_frontend.proofs.Accepting.{accepted_by}
use Rattle.civl_lift_command.specs.Lifting.{IsAccepted, FailsAtTop}
use Rattle.civl_lift_command.proofs.Running.{least_at}

-- the threads of a plain program are those of the program
same_threads : (program : Program) (plain of_it : Plain) → plain ≡ of_it → of_it.program ≡ program → length plain.program.threads ≡ length program.threads
same_threads program plain of_it is same = ap (λ (p : Plain). length p.program.threads) is ∙ ap (λ (p : Program). length p.threads) same

pub few_low : (program : Program) (plain : Plain) (moves : List Move) → plain ≡ lowest program → length program.threads + length moves + 1 < 4294967296 → length plain.program.threads + length moves + 1 < 4294967296
few_low program plain moves is few = let threads = same_threads program plain (lowest program) is refl in omega (arith, threads, few)

pub few_top : (program : Program) (plain : Plain) (given moves : List Move) → plain ≡ topmost program → length moves ≤ length given → length program.threads + length given + 1 < 4294967296
    → length plain.program.threads + length moves + 1 < 4294967296
few_top program plain given moves is fewer few = let threads = same_threads program plain (topmost program) is refl in omega (arith, threads, fewer, few)

-- the moves of a script are as many as its steps
pub few_given : (program : Program) (steps : List Told) (moves : List Move) → AreMovesOf steps moves → length program.threads + length steps + 1 < 4294967296 → length program.threads + length moves + 1 < 4294967296
few_given program steps moves are few = omega (arith, moves_count steps moves are, few)

-- moves that fail in the topmost program, with the thread that is told of them
pub told_at_top : (program : Program) (store : Store) (given moves : List Move) (trace : Trace) (thread : ℕ) → trace ≡ trace_of (topmost program) store moves → FailsBy (topmost program) store moves
    → length moves ≤ length given → trace.failing ≡ Some thread → FailsAtTop program store given moves thread
told_at_top program store given moves trace thread is f few least = record {
  are_moves = f.are_moves;
  end = f.end;
  runs = f.runs;
  least = sym (least_at (topmost program) store moves trace is f) ∙ least;
  few = few;
}

-- a trace of a plain program, where that is known
pub trace_there : (plain of_it : Plain) (store : Store) (moves : List Move) (trace : Trace) → plain ≡ of_it → trace ≡ trace_of plain store moves → trace ≡ trace_of of_it store moves
trace_there plain of_it store moves trace is told = told ∙ ap (λ (p : Plain). trace_of p store moves) is

-- a schedule of a program is one of each program that it is
pub schedule_of : (source program : Program) (store : List Entry) (steps : List Told) (schedule : Schedule) → source ≡ program → IsSchedule source.globals store steps schedule → IsSchedule program.globals store steps schedule
schedule_of source program store steps schedule same h = subst (λ (p : Program). IsSchedule p.globals store steps schedule) same h

-- a program that is taken and all of whose conditions hold is one that a schedule is lifted for
pub sound_by : (program : Program) → IsTrue (allows_program program) → IsNumbered program → IsAccepted program → IsSound program
sound_by program written numbered accepted = accepted_by program written numbered accepted.taken.rules accepted.hold

-- the verdict of acceptance on a program that is taken
pub accepted_of : (program : Program) (budget count : ℕ) → IsTaken program → IsVerdict program budget (Accepted count) → IsAccepted program
accepted_of program budget count taken right = record { taken = taken; initial = right.0; hold = right.1 }
