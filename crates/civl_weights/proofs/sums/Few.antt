-- A procedure of a layered program has few cuts and statements.
use Rattle.std.proofs.Common.{◌≡◌, ℕ, ◌<◌, length, refl, subst, arith, Some}
use Rattle.std.specs.Prelude.{slice_get}
use Rattle.std.specs.List.{Contains}
use Rattle.std.proofs.lemmas.Option.{get_or_from_slice_get, slice_get_within}
use Rattle.civl_tree.specs.declared.program.Proc.{Proc}
use Rattle.civl_tree.specs.declared.program.Program.{Program}
use Rattle.civl_tree.specs.Numbering.{sizes_of}
use Rattle.civl_tree.specs.rules.Typing.{typing_rules, count_rule}
use Rattle.civl_tree.proofs.Kept.{proc_kept}
use Rattle.civl_layers.specs.Cuts.{proc_cuts}
use Rattle.civl_layers.specs.Layered.{IsLayered}
use Rattle.civl_layers.proofs.Few.{cuts_are_few}
use Rattle.civl_layers.proofs.Counting.{within_all}

count_among : Contains typing_rules count_rule
count_among = (2, omega arith, refl)

module _ (program : Program) (layered : IsLayered program) (number : ℕ) (proc : Proc) (found : slice_get program.procs number ≡ Some proc) where
  pub cuts_few : length (proc_cuts proc) < 4294967296
  cuts_few =
      omega (arith, within_all program.procs number proc found, cuts_are_few program (λ place p at. proc_kept typing_rules program layered.rules count_rule count_among place p at))

  pub statements_few : sizes_of proc.body < 4294967296
  statements_few =
      subst (λ (p : Proc). sizes_of p.body < 4294967296) (get_or_from_slice_get program.procs number proc proc found) (omega (arith, layered.numbered.statements number proc (slice_get_within program.procs number proc found)))
