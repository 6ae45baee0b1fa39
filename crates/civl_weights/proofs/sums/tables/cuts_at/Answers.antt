use Rattle.std.proofs.Common.{List, ◌<◌, length, sym, subst}
use Rattle.civl_layers.specs.declared.cut.Cut.{Cut}
use Rattle.civl_layers.specs.Layered.{IsLayered}
use Rattle.civl_conditions.proofs.Placing.{found_cuts}
use Rattle.civl_weights.proofs.sums.Few.{cuts_few}
use Rattle.civl_weights.proofs.sums.tables.cuts_at.Goals as goal

pub path_sums-requires-clause-few : goal.path_sums-requires-clause-few
path_sums-requires-clause-few c =
    subst (λ (cs : List Cut). length cs < 4294967296) (sym (found_cuts _ c.requires.found c.in_ok-cuts.ensures)) (cuts_few c.args.src.now (subst IsLayered c.program.ensures.same c.program.ensures.keeps) c.args.number c.args.proc.now c.requires.found)
