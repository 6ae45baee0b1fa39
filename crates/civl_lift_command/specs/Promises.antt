-- What `lift_command` promises.
use Rattle.std.specs.Prelude.{◌≡◌, ℕ, List, Some}
use Rattle.civl_tree.specs.declared.script.Script.{Script}
use Rattle.civl_firing.specs.declared.store.Store.{Store}
use Rattle.civl_meaning.specs.declared.config.Move.{Move}
use Rattle.civl_script.specs.Schedules.{IsSchedule}
use Rattle.civl_script.specs.declared.schedule.Schedule.TheVariants.{Fits}
use Rattle.civl_frontend.specs.Texts.{SpellsScript}
use Rattle.civl_frontend.specs.Call.{Call, Reports, OnInput}
use Rattle.civl_frontend.specs.declared.status.Status.TheVariants.{Done, Rejected, Undecided, Refused}
use Rattle.civl_lift_command.specs.Lifting.{CanBeLifted, FailsAtTop}
use Rattle.civl_lift_command.specs.Report.{lifted_text}
use Rattle.civl_lift_command.specs.Judge.{Explains}
use Rattle.civl_lift_command.specs.Statuses.{LiftsRightly, RejectsRightly, LeavesOpenRightly, RefusesRightly, LiftsAlone, IsComplete}

-- What is so of each call, whatever its words are, its source and its sink.
pub record Promises (call : Call) : Type 0 where
  -- The headline. The status is Done, and the source tells its bytes: the input spells exactly one script. Its moves run in the lowest
  -- program from its store, which is initial, to a failing configuration; and those that are reported do so in the topmost one.
  pub raised : call.status ≡ Done → (input : List ℕ) → call.source.left ≡ Some input →
      (script : Script) × (store : Store) × (given : List Move) × (moves : List Move) × (thread : ℕ)
      × SpellsScript input script
      × IsSchedule script.program.globals script.store script.moves (Fits store given)
      × CanBeLifted script.program store given × FailsAtTop script.program store given moves thread
      × Reports call (lifted_text moves thread)
  -- What each status says of the words, of what was read and of what was written.
  pub explains : Explains call
  -- Where the source tells its bytes: what is so of the whole input, and is reported.
  pub lifted : call.status ≡ Done → OnInput call LiftsRightly
  pub rejected : call.status ≡ Rejected → OnInput call RejectsRightly
  pub undecided : call.status ≡ Undecided → LeavesOpenRightly call
  pub refused : call.status ≡ Refused → RefusesRightly call
  -- Where the sink tells what it took: a report that begins with `lifted` is that of Done, or was cut short.
  pub lifted_alone : LiftsAlone call
  -- Each input gets a status that it calls for, unless memory runs out.
  pub complete : IsComplete call
