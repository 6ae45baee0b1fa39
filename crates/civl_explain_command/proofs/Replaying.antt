-- The plain program of a script and its moves are as small as the script.
use Rattle.std.proofs.Common.{◌≡◌, ◌∙◌, ℕ, ◌+◌, ◌<◌, ◌^◌, List, length, refl, ap, arith}
use Rattle.civl_tree.specs.declared.program.Program.{Program}
use Rattle.civl_tree.specs.declared.script.Entry.{Entry}
use Rattle.civl_tree.specs.declared.script.Told.{Told}
use Rattle.civl_firing.specs.declared.store.Store.{Store}
use Rattle.civl_meaning.specs.declared.config.Plain.{Plain}
use Rattle.civl_meaning.specs.declared.config.Move.{Move}
use Rattle.civl_script.specs.Schedules.{IsSchedule}
use Rattle.civl_script.specs.declared.schedule.Schedule.TheVariants.{Fits}
use Rattle.civl_script.proofs.Only.{moves_count}
use Rattle.civl_explain_command.specs.declared.run.End.{End}
use Rattle.civl_explain_command.specs.declared.run.End.TheVariants.{Low, Top}
use Rattle.civl_explain_command.specs.inner.Read.{plain_for}

plain_program : (end : End) (program : Program) → (plain_for end program).program ≡ program
plain_program Low program = refl
plain_program Top program = refl

pub few_moves : (program source : Program) (store : List Entry) (steps : List Told) (end : End) (plain : Plain) (values : Store) (moves : List Move)
    → plain ≡ plain_for end program → IsSchedule source.globals store steps (Fits values moves)
    → length program.threads + length steps + 1 < 2 ^ 32 → length plain.program.threads + length moves + 1 < 2 ^ 32
few_moves program source store steps end plain values moves plain_is h few =
    let same : plain.program ≡ program = ap (λ (p : Plain). p.program) plain_is ∙ plain_program end program in
    let threads : length plain.program.threads ≡ length program.threads = ap (λ (p : Program). length p.threads) same in
    omega (arith, threads, moves_count steps moves h.1, few)

pub same_count : (source : Program) (store : List Entry) (steps : List Told) (values : Store) (moves : List Move)
    → IsSchedule source.globals store steps (Fits values moves) → length moves ≡ length steps
same_count source store steps values moves h = moves_count steps moves h.1
