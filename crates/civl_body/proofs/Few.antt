-- A procedure of a layered program has few cuts.
use Rattle.std.proofs.Common.{◌<◌, ◌^◌, length, arith}
use Rattle.civl_tree.specs.declared.program.Proc.{Proc}
use Rattle.civl_tree.specs.declared.program.Program.{Program}
use Rattle.civl_tree.specs.rules.Typing.{typing_rules, count_rule}
use Rattle.civl_tree.proofs.Kept.{proc_kept, count_among}
use Rattle.civl_layers.specs.Cuts.{proc_cuts}
use Rattle.civl_layers.specs.Layered.{IsLayered}
use Rattle.civl_layers.proofs.Few.{cuts_are_few}
use Rattle.civl_layers.proofs.Counting.{within_all}
use Rattle.civl_states.specs.Notes.{IsProcIn}

pub few_cuts : (program : Program) → IsLayered program → (proc : Proc) → IsProcIn program proc → length (proc_cuts proc) < 2 ^ 32
few_cuts program layered proc there =
    omega (arith, within_all program.procs there.0 proc there.1, cuts_are_few program (λ place p at. proc_kept typing_rules program layered.rules count_rule count_among place p at))
