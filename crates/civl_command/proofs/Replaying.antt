-- The plain program of a script and its moves.
use Rattle.std.proofs.Common.{◌≡◌, ◌+◌, ◌<◌, List, length, refl, ap, ◌∙◌, arith}
use Rattle.civl_tree.specs.declared.program.Program.{Program}
use Rattle.civl_tree.specs.declared.script.Entry.{Entry}
use Rattle.civl_tree.specs.declared.script.Told.{Told}
use Rattle.civl_meaning.specs.declared.config.Plain.{Plain}
use Rattle.civl_firing.specs.declared.store.Store.{Store}
use Rattle.civl_meaning.specs.declared.config.Move.{Move}
use Rattle.civl_script.specs.Schedules.{IsSchedule}
use Rattle.civl_script.specs.declared.schedule.Schedule.TheVariants.{Fits}
use Rattle.civl_script.proofs.Only.{moves_count}
use Rattle.civl_command.specs.inner.Replay.{plain_for}
use Rattle.civl_command.specs.declared.replay.End.{End}
use Rattle.civl_command.specs.declared.replay.End.TheVariants.{Low, Top}

plain_program : (end : End) (program : Program) → (plain_for end program).program ≡ program
plain_program Low program = refl
plain_program Top program = refl

-- its threads and moves are as few as those of the script
pub few_moves : (program source : Program) (store : List Entry) (steps : List Told) (end : End) (plain : Plain) (values : Store) (moves : List Move)
    → plain ≡ plain_for end program → IsSchedule source.globals store steps (Fits values moves)
    → length program.threads + length steps + 1 < 4294967296 → length plain.program.threads + length moves + 1 < 4294967296
few_moves program source store steps end plain values moves plain_is h few =
    let same : plain.program ≡ program = ap (λ (p : Plain). p.program) plain_is ∙ plain_program end program in
    let threads : length plain.program.threads ≡ length program.threads = ap (λ (p : Program). length p.threads) same in
    omega (arith, threads, moves_count steps moves h.1, few)
