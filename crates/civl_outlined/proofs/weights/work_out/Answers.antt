use Rattle.std.proofs.Common.{List, [], refl, ap, ◌∙◌}
use Rattle.std.specs.Prelude.{filter}
use Rattle.civl_tree.specs.declared.program.Global.{Global}
use Rattle.civl_conditions.specs.footprints.Agreement.{exists_at}
use Rattle.civl_conditions.specs.Variables.{of_globals}
use Rattle.civl_conditions.specs.Weights.{bits_of_variables}
use Rattle.civl_weighing.proofs.Capping.{weighs_same}
use Rattle.civl_outlined.proofs.Totals.{actions_as, of_parts}
use Rattle.civl_outlined.proofs.weights.work_out.Goals as goal

pub all_procs-requires-clause-of : goal.all_procs-requires-clause-of
all_procs-requires-clause-of c = record {
  in_program = c.in_ok-said.ensures.of.in_program ∙ c.program-program.ensures.same;
  of_outline = refl;
}

pub all_procs-requires-clause-actions : goal.all_procs-requires-clause-actions
all_procs-requires-clause-actions c = actions_as _ _ _ _ c.in_ok-said.ensures.of.in_program c.as_slice.ensures c.in_ok-actions.ensures

pub returns-clause-of : goal.returns-clause-of
returns-clause-of c = record {
  in_program = c.in_ok-said.ensures.of.in_program ∙ c.program-program.ensures.same;
  of_outline = c.in_ok-said.ensures.of.of_outline;
}

pub returns-clause-sums : goal.returns-clause-sums
returns-clause-sums c =
    of_parts _ c.program-program.result.now c.in_ok-said.ensures.of.in_program c.in_ok-said.ensures.said
    (weighs_same (ap (λ (gs : List Global). bits_of_variables (of_globals [] gs)) c.as_slice-2.ensures) c.all_globals.ensures)
    (weighs_same (ap (λ (gs : List Global). bits_of_variables (of_globals [] (filter (exists_at c.program-program.result.now.layers) gs))) c.as_slice-3.ensures) c.globals_at.ensures) c.linear_globals-globals.ensures c.initial_own.ensures c.in_ok-actions.ensures
    c.in_ok-procs.ensures
