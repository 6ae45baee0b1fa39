-- What `command` promises.
use Rattle.std.specs.Prelude.{◌≡◌, ℕ, List, [], Some}
use Rattle.civl_tree.specs.declared.program.Program.{Program}
use Rattle.civl_meaning.specs.Layers.{lowest, topmost}
use Rattle.civl_meaning.specs.Preserves.{Preserves}
use Rattle.civl_frontend.specs.Texts.{SpellsProgram}
use Rattle.civl_frontend.specs.Call.{Call}
use Rattle.civl_frontend.specs.declared.status.Status.TheVariants.{Done, Rejected, Undecided, Refused}
use Rattle.civl_command.specs.Tasks.{AskFor, AskForTrial}
use Rattle.civl_command.specs.Judge.{Explains}
use Rattle.civl_command.specs.Report.{trial_line}
use Rattle.civl_command.specs.Statuses.{WhenDone, OnTrial, AcceptsRightly, SurveysRightly, PrintsRightly, ReplaysRightly, IsSafeRightly, CertifiesRightly, RefutesRightly, RejectsRightly, LeavesOpenRightly, RefusesRightly, AcceptsAlone, IsSafeAlone, IsComplete, IsTrialComplete}
use Rattle.civl_command.specs.declared.task.Task.TheVariants.{Check, Conditions, Fmt, RunLow, RunTop, Prove, Make, Replay}

-- What is so of each call, whatever its words are, its source and its sink.
pub record Promises (call : Call) : Type 0 where
  -- The headline. `check` is Done, and the source tells its bytes: the input spells exactly one program, and that one preserves failures.
  pub preserved : (budget : ℕ) → call.status ≡ Done → AskFor (Check budget) call.words →
      (input : List ℕ) → call.source.left ≡ Some input →
      (program : Program) × SpellsProgram input program × Preserves program
  -- What each status says of the words, of what was read and of what was written.
  pub explains : Explains call
  -- Where the source tells its bytes: what is so of the whole input, and of the text of a trial, and is reported.
  pub accepted : (budget : ℕ) → WhenDone call (Check budget) AcceptsRightly
  pub tried : (number : ℕ) → call.status ≡ Done → AskForTrial number call.words →
      OnTrial call number AcceptsRightly
  pub surveyed : (budget : ℕ) → WhenDone call (Conditions budget) (SurveysRightly budget)
  pub printed : WhenDone call Fmt PrintsRightly
  pub low : WhenDone call RunLow (ReplaysRightly lowest)
  pub top : WhenDone call RunTop (ReplaysRightly topmost)
  pub safe : (budget : ℕ) → WhenDone call (Prove budget) IsSafeRightly
  pub certified : (at budget : ℕ) → WhenDone call (Make at budget) (CertifiesRightly at budget)
  pub replayed : WhenDone call Replay RefutesRightly
  pub rejected : call.status ≡ Rejected → RejectsRightly call
  pub undecided : call.status ≡ Undecided → LeavesOpenRightly call
  pub refused : call.status ≡ Refused → RefusesRightly call
  -- Where the sink tells what it took: under `check` a report that begins with `accepted` is that of Done, or was cut short; so is the
  -- report of a trial that goes on so under its line, and under `prove` a report that begins with `safe`.
  pub alone : (budget : ℕ) → AskFor (Check budget) call.words → AcceptsAlone [] call
  pub tried_alone : (number : ℕ) → AskForTrial number call.words →
      AcceptsAlone (trial_line number) call
  pub safe_alone : (budget : ℕ) → AskFor (Prove budget) call.words → IsSafeAlone call
  -- Each input, and the text of each trial, gets the status that it calls for, unless memory runs out.
  pub complete : IsComplete call
  pub tried_complete : IsTrialComplete call
